-- What an equation asks of places, told without their values: each read is a branch for every value that the place
-- could have.
use Rattle.std.specs.Prelude.{Bool, Option, None, Some, Result, Ok, Err}
use Rattle.qml_ast.specs.declared.eval_fault.EvalFault.TheVariants as fault
use Rattle.qml_ast.specs.declared.place.Place.{Place}
use Rattle.qml_ast.specs.declared.value.Value.{Value}
use Rattle.expr_eval.specs.Meanings.{Meanings, seen}
use Rattle.expr_eval.specs.Trees.{Tree}
use Rattle.settling.specs.Runs as runs
use Rattle.item_equations.specs.declared.stop.Stop.{Stop}
use Rattle.item_equations.specs.declared.stop.Stop.TheVariants.{Overflow, Needs}

-- what is left of an equation: it gives its value, it leaves the range, or it asks for a place's value and goes on with it
pub data Asking (A : Type 0) : Type 0 where
  gives : A → Asking A
  overflows : Asking A
  asks : Place → (Value → Asking A) → Asking A

-- the values of the places that have one already
unfoldable pub sight : (Place → Bool) → Meanings → Place → Option Value
sight clean means place = seen clean means place

module _ {A : Type 0} where
  -- where only some places have a value: what comes of it, or the first place that it asks for and that has none
  abbrev pub arrive : Option Value → Place → (Value → Result A Stop) → Result A Stop
  arrive None place next = Err (Needs place)
  arrive (Some v) place next = next v

  unfoldable pub walk : (Place → Option Value) → Asking A → Result A Stop
  walk see (gives x) = Ok x
  walk see overflows = Err Overflow
  walk see (asks place next) = arrive (see place) place (λ v. walk see (next v))

module _ {A B : Type 0} where
  -- one thing after another
  unfoldable pub bind : Asking A → (A → Asking B) → Asking B
  bind (gives x) next = next x
  bind overflows next = overflows
  bind (asks place rest) next = asks place (λ v. bind (rest v) next)

  unfoldable pub bind_to : Result A Stop → (A → Result B Stop) → Result B Stop
  bind_to (Ok x) next = next x
  bind_to (Err stop) next = Err stop

-- the same as the tree of an expression, where values are read so
unfoldable pub as_tree : (Value → Value) → Asking Value → Tree
as_tree read (gives v) = runs.gives v
as_tree read overflows = runs.faults fault.Overflow
as_tree read (asks place next) = runs.asks place (λ v. as_tree read (next (read v)))
