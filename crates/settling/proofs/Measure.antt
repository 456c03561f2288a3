-- Each turn lowers a sum over the places.
use Rattle.std.proofs.Common.{◌≡◌, ℕ, ◌<◌, ◌≤◌, Bool, true, ◌||◌, List, [], ◌∷◌, ◌++◌, refl, sym, ap, subst, ◌∙◌, arith}
use Rattle.settling.specs.Runs.{Run}
use Rattle.settling.specs.Cells.{Kept, Cell, plain, resting, fresh, under_way, stopped, active, marked, suspended, is_fresh, is_open, Step, begins, stops, ends, fails, suspends, Becomes, stays, goes_on}
use Rattle.settling.specs.Cells as cells
use Rattle.settling.specs.Spaces.{Space}
use Rattle.settling.specs.Holding.{Later}
use Rattle.settling.specs.Turns.{Meets, enters, Turns, gives_up, comes_to_end, needs}
use Rattle.settling.specs.Turns as turn
use Rattle.settling.specs.Stacks.{IsWithin}
use Rattle.settling.proofs.Changes.{put_there, later_put}
use Rattle.settling.proofs.Resumed.{evaluated_needs}
use Rattle.settling.proofs.Standing.{evaluated_puts}
use Rattle.settling.specs.Work.{total}
use Rattle.settling.proofs.Fuel.{total_lt}

module _ {V F : Type 0} where
  -- how many steps a place can still take
  abbrev pub weight : Cell V F → ℕ
  weight (plain k) = 0
  weight (resting k) = 0
  weight (fresh k) = 3
  weight (under_way k) = 2
  weight (stopped k) = 1
  weight (active v) = 0
  weight (marked v f) = 0
  weight (suspended k) = 0

  step_weight : {c d : Cell V F} → Step c d → weight d < weight c
  step_weight (begins k e i) = let from = ap weight e in let to = ap weight i in omega arith
  step_weight (stops k e i) = let from = ap weight e in let to = ap weight i in omega arith
  step_weight (ends k v e i) = let from = ap weight e in let to = ap weight i in omega arith
  step_weight (fails k f e i) = let from = ap weight e in let to = ap weight i in omega arith
  step_weight (suspends k e i) = let from = ap weight e in let to = ap weight i in omega arith

  becomes_weight : {c d : Cell V F} → Becomes c d → weight d ≤ weight c
  becomes_weight (stays e) = let same = ap weight e in omega arith
  becomes_weight (goes_on m step rest) = let one = step_weight step in let more = becomes_weight rest in omega arith

  abbrev waits : Cell V F → Bool
  waits c = is_fresh c || is_open c

  pub step_waits : {c d : Cell V F} → Step c d → (is_fresh c || is_open c) ≡ true
  step_waits (begins k e i) = ap waits e
  step_waits (stops k e i) = ap waits e
  step_waits (ends k v e i) = ap waits e
  step_waits (fails k f e i) = ap waits e
  step_waits (suspends k e i) = ap waits e

  becomes_waits : {c d : Cell V F} → Becomes c d → (is_fresh d || is_open d) ≡ true → (is_fresh c || is_open c) ≡ true
  becomes_waits (stays e) h = sym (ap waits e) ∙ h
  becomes_waits (goes_on m step rest) h = step_waits step

module _ {S P V F : Type 0} (space : Space S P V F) where
  pub within_later : (places : List P) {s t : S} → IsWithin space places s → Later space s t → IsWithin space places t
  within_later places within later q h = within q (becomes_waits (later q) h)

  -- what the loop's measure counts
  abbrev pub waiting : List P → S → ℕ
  waiting places s = total (λ q. weight (space.at s q)) places

  -- one step of one place
  pub record IsMoved (s t : S) : Type 0 where
    pub place : P
    pub cell : Cell V F
    pub step : Step (space.at s place) cell
    pub put : t ≡ space.put s place cell

  pub moved_later : {s t : S} → IsMoved s t → Later space s t
  moved_later {s = s} h = subst (λ (x : S). Later space s x) (sym h.put) (later_put space h.step)

  pub moved_falls : (places : List P) {s t : S} → IsWithin space places s → IsMoved s t → waiting places t < waiting places s
  moved_falls places {s} {t} within h =
      let there : space.at t h.place ≡ h.cell = ap (λ (x : S). space.at x h.place) h.put ∙ put_there space h.step in
      let less = step_weight h.step in
      let same = ap weight there in
      total_lt space (λ q. weight (space.at t q)) (λ q. weight (space.at s q)) (λ q. becomes_weight (moved_later h q)) places h.place
      (within h.place (step_waits h.step)) (omega arith)

module _ {S P V F : Type 0} (space : Space S P V F) (tree : P → Run P V F) where
  meets_moves : (q : P) (stack : List P) (s : S) (loops : List (P × List P)) (stack' : List P) (t : S) (loops' : List (P × List P))
      → Meets space q stack s loops stack' t loops' → IsMoved space s t
  meets_moves q stack s loops stack' t loops' (enters k e i pushed l) = record { place = q; cell = under_way k; step = cells.begins k e refl; put = i }
  meets_moves q stack s loops stack' t loops' (turn.stops k e i same l) = record { place = q; cell = stopped k; step = cells.stops k e refl; put = i }

  pub turns_move : (top : P) (below : List P) (s : S) (loops : List (P × List P)) (stack : List P) (t : S) (loops' : List (P × List P))
      → Turns space tree top below s loops stack t loops' → IsMoved space s t
  turns_move top below s loops stack t loops' (gives_up k e i same l) = record { place = top; cell = suspended k; step = cells.suspends k e refl; put = i }
  turns_move top below s loops stack t loops' (comes_to_end k e h same l) =
      let puts = evaluated_puts space tree top (tree top) s k e h in record { place = top; cell = puts.cell; step = puts.step; put = puts.put }
  turns_move top below s loops stack t loops' (needs k q m e h meets) =
      let same = (evaluated_needs space top (tree top) s h).1 in
      subst (λ (x : S). IsMoved space x t) same (meets_moves q (below ++ top ∷ []) m loops stack t loops' meets)
