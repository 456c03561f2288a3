-- What a store means to expressions, apart from the values of its places.
use Rattle.std.specs.Prelude.{ℕ, List, Option}
use Rattle.qml_ast.specs.declared.place.Place.{Place}
use Rattle.qml_ast.specs.declared.value.Value.{Value}
use Rattle.expr_eval.specs.Meanings.{Meanings, Function}
use Rattle.expr_eval.specs.declared.found.Frame.{Frame}
use Rattle.expr_eval.specs.declared.found.Found.{Found}
use Rattle.expr_eval.specs.declared.found.GroupName.{GroupName}

-- what names and members stand for, the methods that expressions can call, and as what a value is read
pub record Shape : Type 0 where
  pub look : Frame → List ℕ → Found
  pub member : ℕ → Option GroupName → List ℕ → Found
  pub method : ℕ → ℕ → Option Function
  pub as_read : Value → Value

-- a store of this shape, in which the places have these values
abbrev pub meanings : Shape → (Place → Value) → Meanings
meanings shape values = record {
  look = shape.look;
  member = shape.member;
  read = λ place. shape.as_read (values place);
  method = shape.method;
}
