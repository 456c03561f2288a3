-- What was paid for, through a visit and a settle.
use Rattle.std.proofs.Common.{◌≡◌, ℕ, ◌+◌, ◌-◌, ◌≤◌, List, [], ◌∷◌, ◌++◌, length, refl, sym, ap, subst, ◌∙◌, arith}
use Rattle.settling.specs.Runs.{Run}
use Rattle.settling.specs.Cells.{Cell}
use Rattle.settling.specs.Cells as cells
use Rattle.settling.specs.Spaces.{Space}
use Rattle.settling.specs.Settling.{IsReady}
use Rattle.settling.specs.Holding.{Later}
use Rattle.settling.specs.Phases.{phase_of, Moves, begun}
use Rattle.settling.specs.declared.field.Phase.TheVariants.{Fresh}
use Rattle.settling.specs.Turns.{Turns}
use Rattle.settling.specs.Stacks.{IsVisited}
use Rattle.settling.specs.Work.{work, owing, IsPaid, MaySpend}
use Rattle.settling.proofs.Changes.{later_put, later_itself, later_again}
use Rattle.settling.proofs.Visited.{visits_later}
use Rattle.settling.proofs.Calls.{fresh_by}
use Rattle.settling.proofs.Going.{IsGoing}
use Rattle.settling.proofs.Paying.{owing_later, owing_work, turns_pay}

module _ {S P V F : Type 0} (space : Space S P V F) (tree : P → Run P V F) (places : List P) where
  pub none_paid : (s : S) (count : ℕ) → IsPaid space tree places count s count [] s
  none_paid s count u onward = omega arith

  -- no evaluation was made so far
  pub first_paid : (place : P) (s t : S) (stack : List P) (m n : ℕ) → phase_of (space.at s place) ≡ Fresh → Moves space begun s place t → n ≡ m
      → IsPaid space tree places m s n stack t
  first_paid place s t stack m n phase moves same u onward =
      let cell = fresh_by space (space.at s place) phase in
      let put : t ≡ space.put s place (begun (space.at s place)) = moves in
      let step : Later space s t = subst (λ (x : S). Later space s x) (sym (put ∙ ap (λ (c : Cell V F). space.put s place (begun c)) cell.1)) (later_put space (cells.begins cell.0 cell.1 refl)) in
      let falls = owing_later space tree places step u in
      omega arith

  -- a turn, for expressions that are the same as before
  pub paid_turn : (other : P → Run P V F) (start : S) (place top : P) (all below : List P) (s : S) (loops : List (P × List P)) (stack : List P) (t : S)
      (loops' : List (P × List P)) (first m n : ℕ) → other ≡ tree → all ≡ below ++ top ∷ [] → IsGoing space tree places start place all s loops
      → Turns space other top below s loops stack t loops' → MaySpend (space.at s top) m n
      → IsPaid space tree places first start m all s → IsPaid space tree places first start n stack t
  paid_turn other start place top all below s loops stack t loops' first m n same popped h turn spends paid =
      let turned : Turns space tree top below s loops stack t loops' = subst (λ (x : P → Run P V F). Turns space x top below s loops stack t loops') same turn in
      let going = subst (λ (x : List P). IsGoing space tree places start place x s loops) popped h in
      turns_pay space tree places first start top below s loops stack t loops' m n going.stands going.within turned spends
      (subst (λ (x : List P). IsPaid space tree places first start m x s) popped paid)

  -- one visit after others
  pub paid_visit : (other : P → Run P V F) (these : List P) (start : S) (place : P) (s t : S) (first m n : ℕ) → other ≡ tree → these ≡ places → IsVisited space other s place t
      → IsPaid space other these m s n [] t → IsPaid space tree places first start m [] s → IsPaid space tree places first start n [] t
  paid_visit other these start place s t first m n same all visit more before u onward =
      let one : n + owing space tree places t u ≤ m + owing space tree places s u + (length {A = P} [] - 1) =
      subst (λ (xs : List P). n + owing space tree xs t u ≤ m + owing space tree xs s u + (length {A = P} [] - 1)) all
      (subst (λ (x : P → Run P V F). n + owing space x these t u ≤ m + owing space x these s u + (length {A = P} [] - 1)) same (more u onward)) in
      let others = before u (later_again space (visits_later space other visit.1) onward) in
      omega arith

  -- at the end of a settle
  pub paid_work : (start t : S) (first n : ℕ) → IsReady space start → IsPaid space tree places first start n [] t → n ≤ first + work space tree places start t
  paid_work start t first n ready paid = let one = paid t (later_itself space t) in let owed = owing_work space tree places start t ready in omega arith
