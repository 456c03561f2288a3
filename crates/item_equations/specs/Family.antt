-- How items stand in each other, and what was set of them.
use Rattle.std.specs.Prelude.{ℕ, Bool, List, Option}
use Rattle.qml_ast.specs.declared.place.Place.{Place}

pub record Family : Type 0 where
  -- the item in which an item stands
  pub parent : ℕ → Option ℕ
  -- the objects that an object owns, in the order in which they were made
  pub owned : ℕ → List ℕ
  -- the slot of the place had an initialiser or a write
  pub is_set : Place → Bool
