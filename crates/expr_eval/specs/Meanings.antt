-- What a store means to an expression.
use Rattle.std.specs.Prelude.{ℕ, Bool, List, Option, Some, None, if◌then◌else◌}
use Rattle.qml_ast.specs.declared.expr.Expr.{Expr}
use Rattle.qml_ast.specs.declared.place.Place.{Place}
use Rattle.qml_ast.specs.declared.value.Value.{Value}
use Rattle.expr_eval.specs.declared.found.Frame.{Frame}
use Rattle.expr_eval.specs.declared.found.Found.{Found}
use Rattle.expr_eval.specs.declared.found.GroupName.{GroupName}
use Rattle.expr_eval.specs.declared.reader.Method.{Method}

-- a method whose body is one `return` with an expression
pub record Function : Type 0 where
  pub frame : Frame
  pub params : List (List ℕ)
  pub body : Expr

-- what names stand for, each place's value, and the methods that expressions can call
pub record Meanings : Type 0 where
  pub look : Frame → List ℕ → Found
  pub member : ℕ → Option GroupName → List ℕ → Found
  pub read : Place → Value
  pub method : ℕ → ℕ → Option Function

-- how many arguments methods and signals take where a call of one stands as a whole statement
pub record Arities : Type 0 where
  pub method : ℕ → ℕ → Option ℕ
  pub signal : ℕ → ℕ → Option ℕ

-- a place's value, where it has one already
abbrev pub seen : (Place → Bool) → Meanings → Place → Option Value
seen clean means place = if clean place then Some (means.read place) else None

-- a method that is lent
abbrev pub method_of : Method → Function
method_of method = record { frame = method.frame; params = method.params.now; body = method.body.now }
