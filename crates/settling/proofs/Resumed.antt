-- An evaluation that begins again once the place that it needed has a value goes on as if it had waited.
use Rattle.std.proofs.Common.{◌≡◌, Option, Some, None, refl, sym, ap, subst, ◌∙◌}
use Rattle.settling.specs.Runs.{Run, gives, faults, asks, IsRead, now, later}
use Rattle.settling.specs.Cells.{Kept, Cell, active, under_way, marked, value_of, clean}
use Rattle.settling.specs.Spaces.{Space, values}
use Rattle.settling.specs.Settling.{Visits, Runs, done, stops, ends, fails, goes}
use Rattle.settling.specs.Holding.{Later}
use Rattle.settling.specs.Evaluations.{Outcome, has_value, has_fault, has_need, wanted, walk, written, evaluated}
use Rattle.settling.proofs.Steps.{clean_value}
use Rattle.settling.proofs.Changes.{later_clean}
use Rattle.settling.proofs.Visited.{visits_clean, visits_later}
use Rattle.settling.proofs.Once.{visits_at, visits_done, runs_at}

-- the place is the first that is read and has no value yet
pub data Needs {S P V F : Type 0} (space : Space S P V F) (s : S) (q : P) : Run P V F → Type 0 where
  at_once : {r : Run P V F} (go : V → Run P V F) → r ≡ asks q go → clean (space.at s q) ≡ None → Needs space s q r
  after : {r : Run P V F} (x : P) (go : V → Run P V F) (v : V) → r ≡ asks x go → clean (space.at s x) ≡ Some v → Needs space s q (go v) → Needs space s q r

module _ {S P V F : Type 0} (space : Space S P V F) (tree : P → Run P V F) where
  -- what is read has a value, and the evaluation goes on with it
  runs_past : {p : P} {r : Run P V F} {s t : S} (q : P) (go : V → Run P V F) (v : V) → r ≡ asks q go → clean (space.at s q) ≡ Some v
      → Runs space tree p r s t → Runs space tree p (go v) s t
  runs_past q go v j c (stops k e i) = stops k e i
  runs_past q go v j c (ends k w e g i) = cc
  runs_past q go v j c (fails k f e g i) = cc
  runs_past q go v j c (goes k q' go' w m e g visit rest) =
      let place : q' ≡ q = cc in
      let then : go' ≡ go = cc in
      let one = visits_done space tree c (visits_at space tree place visit) in
      runs_at space tree (ap (λ (x : V → Run P V F). x w) then ∙ ap go one.0) one.1 rest

  pub runs_again : {s : S} {p q : P} {r : Run P V F} {m t : S} {v : V} (k : Kept V F) → space.at s p ≡ under_way k → Needs space s q r
      → Visits space tree s q v m → Runs space tree p r m t → Runs space tree p r s t
  runs_again {q = q} {m = m} {v = v} k e (at_once go j n) visit rest = goes k q go v m e j visit (runs_past q go v j (visits_clean space tree visit) rest)
  runs_again {s = s} k e (after x go w j c needs) visit rest =
      goes k x go w s e j (done c refl) (runs_again k e needs visit (runs_past x go w j (later_clean space x (visits_later space tree visit) c) rest))

module _ {S P V F : Type 0} (space : Space S P V F) where
  -- the place that is needed is read, now and later
  pub needs_read : {s : S} {q : P} {r : Run P V F} {u : S} → Needs space s q r → Later space s u → IsRead (values space u) q r
  needs_read {q = q} (at_once go j n) h = now q go j refl
  needs_read {q = q} {u = u} (after x go w j c needs) h =
      let value : value_of (space.at u x) ≡ w = clean_value (space.at u x) (later_clean space x h c) in
      later x go j (subst (λ (y : V). IsRead (values space u) q (go y)) (sym value) (needs_read needs h))

  -- a place that is needed has no value
  pub needs_unclean : {s : S} {q : P} {r : Run P V F} → Needs space s q r → clean (space.at s q) ≡ None
  needs_unclean (at_once go j n) = n
  needs_unclean (after x go w j c needs) = needs_unclean needs

  walk_needs : {q : P} (r : Run P V F) (s : S) → walk space r s ≡ has_need q → Needs space s q r
  unfolding walk
  walk_needs (gives v) s h = cc
  walk_needs (faults f) s h = cc
  walk_needs {q = q} (asks x go) s h = by (clean (space.at s x)) refl (λ v. walk_needs (go v) s) h
    where
      by : (o : Option V) → clean (space.at s x) ≡ o → ((v : V) → walk space (go v) s ≡ has_need q → Needs space s q (go v))
          → wanted o (has_need x) (λ v. walk space (go v) s) ≡ has_need q → Needs space s q (asks x go)
      by None c next g =
          let same : x ≡ q = cc in
          at_once go (ap (λ (y : P). asks y go) same) (subst (λ (y : P). clean (space.at s y) ≡ None) same c)
      by (Some v) c next g = after x go v refl c (next v g)

  pub evaluated_needs : {q : P} {t : S} (p : P) (r : Run P V F) (s : S) → evaluated space p r s ≡ (Some q, t) → Needs space s q r × (t ≡ s)
  evaluated_needs {q = q} {t = t} p r s h = by (walk space r s) refl h
    where
      by : (o : Outcome P V F) → walk space r s ≡ o → written space p s o ≡ (Some q, t) → Needs space s q r × (t ≡ s)
      by (has_value v) e g = let place = ap (λ (x : Option P × S). x.0) g in cc
      by (has_fault f) e g = let place = ap (λ (x : Option P × S). x.0) g in cc
      by (has_need x) e g =
          let place : Some x ≡ Some q = ap (λ (y : Option P × S). y.0) g in
          let same : x ≡ q = cc in
          (walk_needs r s (e ∙ ap has_need same), sym (ap (λ (y : Option P × S). y.1) g))

module _ {S P V F : Type 0} (space : Space S P V F) (tree : P → Run P V F) where
  walk_gives : {p : P} {t : S} (k : Kept V F) (v : V) (r : Run P V F) (s : S) → space.at s p ≡ under_way k → walk space r s ≡ has_value v
      → t ≡ space.put s p (active v) → Runs space tree p r s t
  unfolding walk
  walk_gives {p = p} {t = t} k v (gives w) s e h i = let same : w ≡ v = cc in ends k v e (ap gives same) i
  walk_gives k v (faults f) s e h i = cc
  walk_gives {p = p} {t = t} k v (asks x go) s e h i = by (clean (space.at s x)) refl (λ w g. walk_gives k v (go w) s e g i) h
    where
      by : (o : Option V) → clean (space.at s x) ≡ o → ((w : V) → walk space (go w) s ≡ has_value v → Runs space tree p (go w) s t)
          → wanted o (has_need x) (λ w. walk space (go w) s) ≡ has_value v → Runs space tree p (asks x go) s t
      by None c next g = cc
      by (Some w) c next g = goes k x go w s e refl (done c refl) (next w g)

  walk_faults : {p : P} {t : S} (k : Kept V F) (f : F) (r : Run P V F) (s : S) → space.at s p ≡ under_way k → walk space r s ≡ has_fault f
      → t ≡ space.put s p (marked k.value f) → Runs space tree p r s t
  unfolding walk
  walk_faults k f (gives w) s e h i = cc
  walk_faults k f (faults g) s e h i = let same : g ≡ f = cc in fails k f e (ap faults same) i
  walk_faults {p = p} {t = t} k f (asks x go) s e h i = by (clean (space.at s x)) refl (λ w g. walk_faults k f (go w) s e g i) h
    where
      by : (o : Option V) → clean (space.at s x) ≡ o → ((w : V) → walk space (go w) s ≡ has_fault f → Runs space tree p (go w) s t)
          → wanted o (has_need x) (λ w. walk space (go w) s) ≡ has_fault f → Runs space tree p (asks x go) s t
      by None c next g = cc
      by (Some w) c next g = goes k x go w s e refl (done c refl) (next w g)

  -- an evaluation that needs no place has ended
  pub evaluated_ends : {t : S} (p : P) (r : Run P V F) (s : S) (k : Kept V F) → space.at s p ≡ under_way k → evaluated space p r s ≡ (None, t)
      → Runs space tree p r s t
  evaluated_ends {t = t} p r s k e h = by (walk space r s) refl h
    where
      by : (o : Outcome P V F) → walk space r s ≡ o → written space p s o ≡ (None, t) → Runs space tree p r s t
      by (has_value v) g w = walk_gives k v r s e g (sym (ap (λ (x : Option P × S). x.1) w))
      by (has_fault f) g w =
          walk_faults k f r s e g (sym (ap (λ (x : Option P × S). x.1) w) ∙ ap (λ (c : Cell V F). space.put s p (marked (value_of c) f)) e)
      by (has_need x) g w = let place = ap (λ (y : Option P × S). y.0) w in cc
