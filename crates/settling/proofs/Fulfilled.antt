-- Once a place was visited its equation holds, now and later.
use Rattle.std.proofs.Common.{◌≡◌, Bool, true, false, List, ◌∷◌, refl, sym, ap, subst, ◌∙◌}
use Rattle.settling.specs.Runs.{Run, answer}
use Rattle.settling.specs.Cells.{Kept, Cell, plain, resting, fresh, under_way, stopped, active, marked, suspended, value_of, clean, is_fresh, is_ready, is_ended, Becomes}
use Rattle.settling.specs.Cells as cells
use Rattle.settling.specs.Spaces.{Space, values, is_among}
use Rattle.settling.specs.Settling.{Visits, Runs, Settles, done, again, first, stops, ends, fails, goes, none, more, Covers, IsReady}
use Rattle.settling.specs.Holding.{Equation, Holds, Later}
use Rattle.settling.proofs.Steps.{clean_value, clean_fresh, becomes_ended, becomes_fresh, ready_ended}
use Rattle.settling.proofs.Changes.{put_there, later_itself, later_again, later_clean}
use Rattle.settling.proofs.Visited.{visits_clean, visits_later, runs_later}

module _ {P V F : Type 0} where
  -- the equation is that of what is left, once the read place has this value
  equation_past : (r r' : Run P V F) (vs : P → V) (c : Cell V F) → answer r vs ≡ answer r' vs → Equation r' vs c → Equation r vs c
  equation_past r r' vs (plain k) e h = h
  equation_past r r' vs (resting k) e h = h
  equation_past r r' vs (fresh k) e h = h
  equation_past r r' vs (under_way k) e h = h
  equation_past r r' vs (stopped k) e h = h
  equation_past r r' vs (active v) e h = e ∙ h
  equation_past r r' vs (marked v f) e h = e ∙ h
  equation_past r r' vs (suspended k) e h = h

  equation_at : (r : Run P V F) (vs : P → V) {c d : Cell V F} → d ≡ c → Equation r vs c → Equation r vs d
  equation_at r vs e h = subst (λ (x : Cell V F). Equation r vs x) (sym e) h

module _ {S P V F : Type 0} (space : Space S P V F) (tree : P → Run P V F) where
  stopped_at : {s t : S} {p : P} (k : Kept V F) → space.at s p ≡ stopped k → t ≡ space.put s p (suspended k) → space.at t p ≡ suspended k
  stopped_at {p = p} k e i = ap (λ (x : S). space.at x p) i ∙ put_there space (cells.suspends k e refl)

  ended_at : {s t : S} {p : P} (k : Kept V F) (v : V) → space.at s p ≡ under_way k → t ≡ space.put s p (active v) → space.at t p ≡ active v
  ended_at {p = p} k v e i = ap (λ (x : S). space.at x p) i ∙ put_there space (cells.ends k v e refl)

  failed_at : {s t : S} {p : P} (k : Kept V F) (f : F) → space.at s p ≡ under_way k → t ≡ space.put s p (marked k.value f) → space.at t p ≡ marked k.value f
  failed_at {p = p} k f e i = ap (λ (x : S). space.at x p) i ∙ put_there space (cells.fails k f e refl)

  -- an evaluation that has come to its end
  pub runs_ended : {p : P} {r : Run P V F} {s t : S} → Runs space tree p r s t → is_ended (space.at t p) ≡ true
  runs_ended (stops k e i) = ap is_ended (stopped_at k e i)
  runs_ended (ends k v e g i) = ap is_ended (ended_at k v e i)
  runs_ended (fails k f e g i) = ap is_ended (failed_at k f e i)
  runs_ended (goes k q go v m e g visit rest) = runs_ended rest

  runs_equation : {p : P} {r : Run P V F} {s t : S} → Runs space tree p r s t → (u : S) → Later space t u → Equation r (values space u) (space.at t p)
  runs_equation {r = r} (stops k e i) u h = equation_at r (values space u) (stopped_at k e i) tt
  runs_equation {r = r} (ends k v e g i) u h = equation_at r (values space u) (ended_at k v e i) (ap (λ (x : Run P V F). answer x (values space u)) g)
  runs_equation {r = r} (fails k f e g i) u h = equation_at r (values space u) (failed_at k f e i) (ap (λ (x : Run P V F). answer x (values space u)) g)
  runs_equation {p = p} {r = r} {t = t} (goes k q go v m e g visit rest) u h =
      let there = later_clean space q (later_again space (runs_later space tree rest) h) (visits_clean space tree visit) in
      let value : value_of (space.at u q) ≡ v = clean_value (space.at u q) there in
      equation_past r (go v) (values space u) (space.at t p)
      (ap (λ (x : Run P V F). answer x (values space u)) g ∙ ap (λ (x : V). answer (go x) (values space u)) value) (runs_equation rest u h)

  -- the place has ended, and its equation holds
  pub record IsFulfilled (u : S) (q : P) : Type 0 where
    pub holds : Holds space tree u q
    pub ended : is_ended (space.at u q) ≡ true

  runs_fulfilled : {p : P} {s t : S} → Runs space tree p (tree p) s t → (u : S) → Later space t u → IsFulfilled u p
  runs_fulfilled {p = p} r u h =
      let same = becomes_ended (h p) (runs_ended r) in
      record { holds = equation_at (tree p) (values space u) same (runs_equation r u h); ended = ap is_ended same ∙ runs_ended r }

  -- a fresh place is fresh after what is put at a place that isn't
  fresh_elsewhere : (s : S) (p : P) (c : Cell V F) (q : P) (b : Bool) → space.are_same p q ≡ b → is_fresh (space.at s p) ≡ false → is_fresh (space.at s q) ≡ true
      → is_fresh (space.at (space.put s p c) q) ≡ true
  fresh_elsewhere s p c q true h f g = let same = ap (λ (x : P). is_fresh (space.at s x)) (space.one_place p q h) in cc
  fresh_elsewhere s p c q false h f g = ap is_fresh (space.elsewhere s p c q h) ∙ g

  stays_fresh : {A : Type 0} {s t : S} (p : P) (c : Cell V F) (q : P) → t ≡ space.put s p c → is_fresh (space.at s p) ≡ false
      → is_fresh (space.at s q) ≡ true → is_fresh (space.at t q) ≡ false → A
  stays_fresh {s = s} p c q i f g h =
      let there = fresh_elsewhere s p c q (space.are_same p q) refl f g in
      let same = ap (λ (x : S). is_fresh (space.at x q)) i in
      cc

  pub first_fulfilled : {s t : S} (p : P) (k : Kept V F) (q : P) (b : Bool) → space.are_same p q ≡ b → Runs space tree p (tree p) (space.put s p (under_way k)) t
      → (u : S) → Later space t u → (is_fresh (space.at (space.put s p (under_way k)) q) ≡ true → IsFulfilled u q)
      → is_fresh (space.at s q) ≡ true → IsFulfilled u q
  first_fulfilled p k q true h r u l inner f = subst (λ (x : P). IsFulfilled u x) (space.one_place p q h) (runs_fulfilled r u l)
  first_fulfilled {s = s} p k q false h r u l inner f = inner (ap is_fresh (space.elsewhere s p (under_way k) q h) ∙ f)

  pub between : (b : Bool) (c : Cell V F) → is_fresh c ≡ b → {A : Type 0} → (is_fresh c ≡ true → A) → (is_fresh c ≡ false → A) → A
  between true c h while_fresh otherwise = while_fresh h
  between false c h while_fresh otherwise = otherwise h

  mutual
    -- each place that was fresh before a visit and isn't afterwards
    pub visits_fulfilled : {s : S} {p : P} {v : V} {t : S} → Visits space tree s p v t → (u : S) → Later space t u → (q : P)
        → is_fresh (space.at s q) ≡ true → is_fresh (space.at t q) ≡ false → IsFulfilled u q
    visits_fulfilled (done e i) u l q f g = let same = ap (λ (x : S). is_fresh (space.at x q)) i in cc
    visits_fulfilled {p = p} (again k e w i) u l q f g = stays_fresh p (stopped k) q i (ap is_fresh e) f g
    visits_fulfilled {p = p} (first k e r c) u l q f g = first_fulfilled p k q (space.are_same p q) refl r u l (λ h. runs_fulfilled_within r u l q h g) f

    pub runs_fulfilled_within : {p : P} {r : Run P V F} {s t : S} → Runs space tree p r s t → (u : S) → Later space t u → (q : P)
        → is_fresh (space.at s q) ≡ true → is_fresh (space.at t q) ≡ false → IsFulfilled u q
    runs_fulfilled_within {p = p} (stops k e i) u l q f g = stays_fresh p (suspended k) q i (ap is_fresh e) f g
    runs_fulfilled_within {p = p} (ends k v e j i) u l q f g = stays_fresh p (active v) q i (ap is_fresh e) f g
    runs_fulfilled_within {p = p} (fails k x e j i) u l q f g = stays_fresh p (marked k.value x) q i (ap is_fresh e) f g
    runs_fulfilled_within (goes k x go v m e j visit rest) u l q f g =
        between (is_fresh (space.at m q)) (space.at m q) refl (λ h. runs_fulfilled_within rest u l q h g)
        (λ h. visits_fulfilled visit u (later_again space (runs_later space tree rest) l) q f h)

  pub settles_later : {ps : List P} {s t : S} → Settles space tree ps s t → Later space s t
  settles_later {s = s} (none e i) = subst (λ (x : S). Later space s x) (sym i) (later_itself space s)
  settles_later (more p qs v m e visit rest) = later_again space (visits_later space tree visit) (settles_later rest)

  settles_fulfilled : {ps : List P} {s t : S} → Settles space tree ps s t → (u : S) → Later space t u → (q : P)
      → is_fresh (space.at s q) ≡ true → is_fresh (space.at t q) ≡ false → IsFulfilled u q
  settles_fulfilled (none e i) u l q f g = let same = ap (λ (x : S). is_fresh (space.at x q)) i in cc
  settles_fulfilled (more p qs v m e visit rest) u l q f g =
      between (is_fresh (space.at m q)) (space.at m q) refl (λ h. settles_fulfilled rest u l q h g)
      (λ h. visits_fulfilled visit u (later_again space (settles_later rest) l) q f h)

  among_one : (p : P) (qs : List P) (q : P) (b : Bool) → space.are_same p q ≡ b → is_among space (p ∷ qs) q ≡ true → (b ≡ true → ⊥) → is_among space qs q ≡ true
  among_one p qs q true h a n = absurd (n refl)
  among_one p qs q false h a n = rw h at a

  -- no place that was among those visited is fresh
  settles_visited : {ps : List P} {s t : S} → Settles space tree ps s t → (q : P) → is_among space ps q ≡ true → is_fresh (space.at t q) ≡ false
  settles_visited (none e i) q a = let no_more = ap (λ (x : List P). is_among space x q) e in cc
  settles_visited {t = t} (more p qs v m e visit rest) q a = by (space.are_same p q) refl (settles_visited rest q)
    where
      by : (b : Bool) → space.are_same p q ≡ b → (is_among space qs q ≡ true → is_fresh (space.at t q) ≡ false) → is_fresh (space.at t q) ≡ false
      by true h others = subst (λ (x : P). is_fresh (space.at t x) ≡ false) (space.one_place p q h)
          (becomes_fresh (settles_later rest p) (clean_fresh (space.at m p) (visits_clean space tree visit)))
      by false h others = others (among_one p qs q false h (subst (λ (x : List P). is_among space x q ≡ true) e a) (λ x. cc))

  -- Each place that was fresh has ended, and its equation holds over this same state.
  pub settles_hold : {ps : List P} {s t : S} → Settles space tree ps s t → Covers space ps s → (q : P) → is_fresh (space.at s q) ≡ true → IsFulfilled t q
  settles_hold {t = t} h covers q f = settles_fulfilled h t (later_itself space t) q f (settles_visited h q (covers q f))

  -- after a settle each place has ended
  pub settles_end : {ps : List P} {s t : S} → Settles space tree ps s t → Covers space ps s → IsReady space s → (q : P) → is_ended (space.at t q) ≡ true
  settles_end {s = s} h covers ready q = between (is_fresh (space.at s q)) (space.at s q) refl (λ f. (settles_hold h covers q f).ended)
      (λ f. let old = ready_ended (space.at s q) (ready q) f in ap is_ended (becomes_ended (settles_later h q) old) ∙ old)
