-- What is so of both ends of a gate, between any two steps of either.
use Rattle.std.specs.Prelude.{◌≡◌, List, [], ◌∷◌, ◌++◌, Option, ◌⊎◌}
use Rattle.atomic_table.specs.Table.{State}
use Rattle.baton.specs.declared.view.Stage.TheVariants.{Asked, Ended, Working}
use Rattle.baton.specs.declared.view.View.{View}
use Rattle.baton.specs.declared.view.Cargo.{Cargo}
use Rattle.baton.specs.Rule.{Kept}
use Rattle.baton.specs.Sides.{IsServer}

module _ {Q A : Type 0} where
  -- The server's turns are the asker's; or these and the turn of the question that is open, whose answer is lawful
  abbrev pub Follows : (List (Q × A) → Q → A → Type 0) → View Q A → View Q A → Type 0
  Follows may_answer asker server =
      (server.turns ≡ asker.turns)
      ⊎ ((q : Q) × (a : A) × (asker.stage ≡ Asked q) × may_answer asker.turns q a × (server.turns ≡ asker.turns ++ (q, a) ∷ []))

  -- what the server has taken is the question that is open, and it hasn't been answered
  abbrev pub WorksOnTheOpen : View Q A → View Q A → Type 0
  WorksOnTheOpen asker server = (q : Q) → server.stage ≡ Working q → (asker.stage ≡ Asked q) × (server.turns ≡ asker.turns)

  -- once the asker has ended, the server has the asker's turns and no question
  abbrev pub NothingAfterTheEnd : View Q A → View Q A → Type 0
  NothingAfterTheEnd asker server = asker.stage ≡ Ended → (server.turns ≡ asker.turns) × ((q : Q) → ¬ (server.stage ≡ Working q))

module _ {X Y Q A : Type 0} where
  -- it is so of the two ends at each state that the rule allows, until the server was taken back
  abbrev pub Always : (X → Q) → (Y → A) → (List (Q × A) → Q → Type 0) → (List (Q × A) → Q → A → Type 0) → (View Q A → View Q A → Type 0) → Type 0
  Always asked_of told_of may_ask may_answer law =
      (s : State (Option (Cargo X Y)) (View Q A)) → Kept asked_of told_of may_ask may_answer s
      → (asker server : View Q A) → s.views ≡ asker ∷ server ∷ [] → IsServer server.stage → law asker server
