-- A visit and an evaluation lead to one state.
use Rattle.std.proofs.Common.{◌≡◌, Some, refl, sym, ap, subst, ◌∙◌}
use Rattle.settling.specs.Runs.{Run, gives, faults, asks}
use Rattle.settling.specs.Cells.{Kept, fresh, under_way, stopped, active, marked, suspended, clean}
use Rattle.settling.specs.Spaces.{Space}
use Rattle.settling.specs.Settling.{Visits, Runs, done, again, first, stops, ends, fails, goes}

module _ {S P V F : Type 0} (space : Space S P V F) (tree : P → Run P V F) where
  pub runs_at : {p : P} {r r' : Run P V F} {s s' t : S} → r ≡ r' → s ≡ s' → Runs space tree p r s t → Runs space tree p r' s' t
  runs_at {p = p} {r' = r'} {s = s} {t = t} e i h = subst (λ (x : S). Runs space tree p r' x t) i (subst (λ (x : Run P V F). Runs space tree p x s t) e h)

  pub visits_at : {s : S} {p p' : P} {v : V} {t : S} → p ≡ p' → Visits space tree s p v t → Visits space tree s p' v t
  visits_at {s = s} {v = v} {t = t} e h = subst (λ (x : P). Visits space tree s x v t) e h

  -- a visit to a place that has a value
  pub visits_done : {s : S} {p : P} {v w : V} {t : S} → clean (space.at s p) ≡ Some w → Visits space tree s p v t → (v ≡ w) × (t ≡ s)
  visits_done c (done e i) = (cc, i)
  visits_done c (again k e g i) = let b = ap clean e in cc
  visits_done c (first k e r d) = let b = ap clean e in cc

  visits_again : {s : S} {p : P} {v : V} {t : S} (k : Kept V F) → space.at s p ≡ under_way k → Visits space tree s p v t
      → (v ≡ k.value) × (t ≡ space.put s p (stopped k))
  visits_again k h (done e i) = let b = ap clean h in cc
  visits_again {s = s} {p = p} k h (again l e g i) = let same : k ≡ l = cc in (g ∙ ap (λ (x : Kept V F). x.value) (sym same), i ∙ ap (λ (x : Kept V F). space.put s p (stopped x)) (sym same))
  visits_again k h (first l e r d) = cc

  visits_first : {s : S} {p : P} {v w : V} {t u : S} (k : Kept V F) → space.at s p ≡ fresh k
      → ((x : S) → Runs space tree p (tree p) (space.put s p (under_way k)) x → t ≡ x) → clean (space.at t p) ≡ Some v
      → Visits space tree s p w u → (v ≡ w) × (t ≡ u)
  visits_first k h same c (done e i) = let b = ap clean h in cc
  visits_first k h same c (again l e g i) = cc
  visits_first {s = s} {p = p} {u = u} k h same c (first l e r d) =
      let kept : l ≡ k = cc in
      let one : _ ≡ u = same u (runs_at refl (ap (λ (x : Kept V F). space.put s p (under_way x)) kept) r) in
      let there = ap (λ (x : S). clean (space.at x p)) one in
      (cc, one)

  runs_stop : {p : P} {r : Run P V F} {s t : S} (k : Kept V F) → space.at s p ≡ stopped k → Runs space tree p r s t → t ≡ space.put s p (suspended k)
  runs_stop {p = p} {s = s} k h (stops l e i) = let same : l ≡ k = cc in i ∙ ap (λ (x : Kept V F). space.put s p (suspended x)) same
  runs_stop k h (ends l v e g i) = cc
  runs_stop k h (fails l f e g i) = cc
  runs_stop k h (goes l q go v m e g visit rest) = cc

  runs_end : {p : P} {r : Run P V F} {s t : S} (k : Kept V F) (v : V) → space.at s p ≡ under_way k → r ≡ gives v → Runs space tree p r s t
      → t ≡ space.put s p (active v)
  runs_end k v h j (stops l e i) = cc
  runs_end {p = p} {s = s} k v h j (ends l w e g i) = let same : w ≡ v = cc in i ∙ ap (λ (x : V). space.put s p (active x)) same
  runs_end k v h j (fails l f e g i) = cc
  runs_end k v h j (goes l q go w m e g visit rest) = cc

  runs_fail : {p : P} {r : Run P V F} {s t : S} (k : Kept V F) (f : F) → space.at s p ≡ under_way k → r ≡ faults f → Runs space tree p r s t
      → t ≡ space.put s p (marked k.value f)
  runs_fail k f h j (stops l e i) = cc
  runs_fail k f h j (ends l w e g i) = cc
  runs_fail {p = p} {s = s} k f h j (fails l f' e g i) =
      let same : f' ≡ f = cc in
      let kept : l ≡ k = cc in
      i ∙ ap (λ (x : F). space.put s p (marked l.value x)) same ∙ ap (λ (x : Kept V F). space.put s p (marked x.value f)) kept
  runs_fail k f h j (goes l q go w m e g visit rest) = cc

  runs_go : {p : P} {r : Run P V F} {s t u : S} (k : Kept V F) (q : P) (go : V → Run P V F) (v : V) (m : S) → space.at s p ≡ under_way k → r ≡ asks q go
      → ((w : V) (n : S) → Visits space tree s q w n → (v ≡ w) × (m ≡ n)) → ((x : S) → Runs space tree p (go v) m x → t ≡ x)
      → Runs space tree p r s u → t ≡ u
  runs_go k q go v m h j visited rested (stops l e i) = cc
  runs_go k q go v m h j visited rested (ends l w e g i) = cc
  runs_go k q go v m h j visited rested (fails l f e g i) = cc
  runs_go {u = u} k q go v m h j visited rested (goes l q' go' w n e g visit rest) =
      let place : q' ≡ q = cc in
      let then : go' ≡ go = cc in
      let one = visited w n (visits_at place visit) in
      let value : w ≡ v = sym one.0 in
      let state : n ≡ m = sym one.1 in
      rested u (runs_at (ap (λ (x : V → Run P V F). x w) then ∙ ap go value) state rest)

  mutual
    pub visits_once : {s : S} {p : P} {v : V} {t : S} → Visits space tree s p v t → (w : V) (u : S) → Visits space tree s p w u → (v ≡ w) × (t ≡ u)
    visits_once (done e i) w u h = let one = visits_done e h in (sym one.0, i ∙ sym one.1)
    visits_once (again k e g i) w u h = let one = visits_again k e h in (g ∙ sym one.0, i ∙ sym one.1)
    visits_once (first k e r c) w u h = visits_first k e (λ x. runs_once r x) c h

    pub runs_once : {p : P} {r : Run P V F} {s t : S} → Runs space tree p r s t → (u : S) → Runs space tree p r s u → t ≡ u
    runs_once (stops k e i) u h = i ∙ sym (runs_stop k e h)
    runs_once (ends k v e g i) u h = i ∙ sym (runs_end k v e g h)
    runs_once (fails k f e g i) u h = i ∙ sym (runs_fail k f e g h)
    runs_once (goes k q go v m e g visit rest) u h = runs_go k q go v m e g (visits_once visit) (runs_once rest) h
