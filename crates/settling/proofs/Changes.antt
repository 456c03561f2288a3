-- What putting a cell at a place changes.
use Rattle.std.proofs.Common.{◌≡◌, Bool, true, false, Some, refl, sym, ap, subst}
use Rattle.settling.specs.Cells.{Cell, clean, is_plain, Step, begins, stops, ends, fails, suspends, Becomes, stays}
use Rattle.settling.specs.Spaces.{Space}
use Rattle.settling.specs.Holding.{Later}
use Rattle.settling.proofs.Steps.{becomes_itself, becomes_by, becomes_again, becomes_clean}

module _ {V F : Type 0} where
  step_from : {c d : Cell V F} → Step c d → is_plain c ≡ false
  step_from (begins k e i) = ap is_plain e
  step_from (stops k e i) = ap is_plain e
  step_from (ends k w e i) = ap is_plain e
  step_from (fails k f e i) = ap is_plain e
  step_from (suspends k e i) = ap is_plain e

  step_to : {c d : Cell V F} → Step c d → is_plain d ≡ false
  step_to (begins k e i) = ap is_plain i
  step_to (stops k e i) = ap is_plain i
  step_to (ends k w e i) = ap is_plain i
  step_to (fails k f e i) = ap is_plain i
  step_to (suspends k e i) = ap is_plain i

module _ {S P V F : Type 0} (space : Space S P V F) where
  -- the place has the cell that a step puts there
  pub put_there : {s : S} {p : P} {c : Cell V F} → Step (space.at s p) c → space.at (space.put s p c) p ≡ c
  put_there {s = s} {p = p} {c = c} step = space.there s p c (step_from step) (step_to step)

  later_at : (s : S) (p : P) (c : Cell V F) → Step (space.at s p) c → (q : P) (b : Bool) → space.are_same p q ≡ b → Becomes (space.at s q) (space.at (space.put s p c) q)
  later_at s p c step q true h =
      subst (λ (x : P). Becomes (space.at s x) (space.at (space.put s p c) x)) (space.one_place p q h) (subst (λ (d : Cell V F). Becomes (space.at s p) d) (sym (put_there step)) (becomes_by step))
  later_at s p c step q false h = stays (space.elsewhere s p c q h)

  -- a step at one place is a step of the state
  pub later_put : {s : S} {p : P} {c : Cell V F} → Step (space.at s p) c → Later space s (space.put s p c)
  later_put {s = s} {p = p} {c = c} step q = later_at s p c step q (space.are_same p q) refl

  pub later_itself : (s : S) → Later space s s
  later_itself s q = becomes_itself (space.at s q)

  pub later_again : {s m t : S} → Later space s m → Later space m t → Later space s t
  later_again h g q = becomes_again (h q) (g q)

  pub later_clean : {s t : S} (q : P) {v : V} → Later space s t → clean (space.at s q) ≡ Some v → clean (space.at t q) ≡ Some v
  later_clean q h c = becomes_clean (h q) c
