-- The locals of a handler or a method by their names.
use Rattle.std.specs.Prelude.{ℕ, suc, Bool, true, false, List, [], ◌∷◌, if◌then◌else◌, Option, None, Some, option_map, find, bytes_eq, Result, Ok, Err}
use Rattle.qml_ast.specs.declared.eval_fault.EvalFault.{EvalFault}
use Rattle.qml_ast.specs.declared.eval_fault.EvalFault.TheVariants.{UnknownName, ReadOnly}
use Rattle.qml_ast.specs.declared.value.Value.{Value}
use Rattle.expr_eval.specs.declared.locals.Local.{Local}
use Rattle.expr_eval.specs.declared.locals.Local.TheVariants.{Plain, Mouse}
use Rattle.expr_eval.specs.declared.locals.NamedLocal.{NamedLocal}

abbrev pub is_named : List ℕ → NamedLocal → Bool
is_named name local = bytes_eq local.name name

-- what the local of a name holds
abbrev pub local_named : List ℕ → List NamedLocal → Option Local
local_named name locals = option_map (λ (local : NamedLocal). local.held) (find (is_named name) locals)

-- the locals with one more, which takes the place of one of its name
abbrev pub declared : List ℕ → Local → Bool → List NamedLocal → List NamedLocal
declared name held fixed [] = record { name = name; held = held; fixed = fixed } ∷ []
declared name held fixed (local ∷ locals) =
    if is_named name local then record { name = name; held = held; fixed = fixed } ∷ locals
    else local ∷ declared name held fixed locals

-- nothing can be assigned to it
abbrev pub is_fixed : Local → Bool → Bool
is_fixed (Plain value) fixed = fixed
is_fixed (Mouse x y) fixed = true

-- what an assignment answers where the local is this one
abbrev pub assignable_to : Option NamedLocal → Result (Unit {0}) EvalFault
assignable_to None = Err UnknownName
assignable_to (Some local) = if is_fixed local.held local.fixed then Err ReadOnly else Ok tt

-- what an assignment to a name answers
abbrev pub assignable : List ℕ → List NamedLocal → Result (Unit {0}) EvalFault
assignable name locals = assignable_to (find (is_named name) locals)

-- the locals after an assignment
abbrev pub assigned : List ℕ → Value → List NamedLocal → List NamedLocal
assigned name value [] = []
assigned name value (local ∷ locals) =
    if is_named name local then record local { held = Plain value } ∷ locals
    else local ∷ assigned name value locals

-- where the local of a name stands
abbrev pub index_named : List ℕ → List NamedLocal → Option ℕ
index_named name [] = None
index_named name (local ∷ locals) = if is_named name local then Some 0 else option_map suc (index_named name locals)

-- a method's parameters with the arguments of a call
abbrev pub bound : List (List ℕ) → List Value → List NamedLocal
bound [] values = []
bound params [] = []
bound (param ∷ params) (value ∷ values) = record { name = param; held = Plain value; fixed = false } ∷ bound params values
