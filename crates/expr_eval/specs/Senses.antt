-- What names and members stand for, before their values are asked for.
use Rattle.std.specs.Prelude.{ℕ, ℤ, pos, ◌==◌, if◌then◌else◌, List, [], ◌∷◌, Option, None, Some, codes, bytes_eq, Result, Ok, Err}
use Rattle.qml_ast.specs.declared.eval_fault.EvalFault.{EvalFault}
use Rattle.qml_ast.specs.declared.eval_fault.EvalFault.TheVariants.{WrongKind, UnknownName, NullMember}
use Rattle.qml_ast.specs.declared.value.Value.{Value}
use Rattle.qml_ast.specs.declared.value.Value.TheVariants.{Int, Obj}
use Rattle.expr_eval.specs.Meanings.{Meanings}
use Rattle.expr_eval.specs.declared.found.Found.{Found}
use Rattle.expr_eval.specs.declared.found.Found.TheVariants as found
use Rattle.expr_eval.specs.declared.found.GlobalName.{GlobalName}
use Rattle.expr_eval.specs.declared.found.GlobalName.TheVariants.{Qt, Math, Console, Loader}
use Rattle.expr_eval.specs.declared.functions.Function.TheVariants.{Min, Max, Abs, Floor, Ceil, Round, Log}
use Rattle.expr_eval.specs.declared.locals.Local.{Local}
use Rattle.expr_eval.specs.declared.locals.Local.TheVariants.{Plain, Mouse as MouseLocal}
use Rattle.expr_eval.specs.declared.sense.Sense.{Sense}
use Rattle.expr_eval.specs.declared.sense.Sense.TheVariants.{Is, At, Group, Method, Signal, Global, Function, Mouse}

-- what a name or a member stands for; it is an unknown name where it stands for nothing
abbrev pub meaning : Found → Result Sense EvalFault
meaning (found.Place place) = Ok (At place)
meaning (found.Object serial) = Ok (Is (Obj serial))
meaning (found.Group serial group) = Ok (Group serial group)
meaning (found.Method serial method) = Ok (Method serial method)
meaning (found.Signal serial signal) = Ok (Signal serial signal)
meaning (found.Global global) = Ok (Global global)
meaning found.None = Err UnknownName

-- what the first entry of a name has
abbrev pub entry_named : {X : Type 0} → List ℕ → List (List ℕ × X) → Option X
entry_named name [] = None
entry_named name (entry ∷ entries) = if bytes_eq name entry.0 then Some entry.1 else entry_named name entries

-- it is an unknown name where there is none
abbrev pub known : Option Sense → Result Sense EvalFault
known None = Err UnknownName
known (Some sense) = Ok sense

abbrev pub whole : ℕ → Sense
whole n = Is (Int (pos n))

abbrev pub members : GlobalName → List (List ℕ × Sense)
members Qt = (codes "LeftToRight", whole 0) ∷ (codes "RightToLeft", whole 1) ∷ []
members Math = (codes "min", Function Min) ∷ (codes "max", Function Max) ∷ (codes "abs", Function Abs) ∷ (codes "floor", Function Floor) ∷ (codes "ceil", Function Ceil) ∷ (codes "round", Function Round) ∷ []
members Console = (codes "log", Function Log) ∷ []
members Loader = (codes "Null", whole 0) ∷ (codes "Ready", whole 1) ∷ (codes "Loading", whole 2) ∷ (codes "Error", whole 3) ∷ []

unfoldable pub global_member : GlobalName → List ℕ → Result Sense EvalFault
global_member global name = known (entry_named name (members global))

unfoldable pub mouse_member : ℤ → ℤ → List ℕ → Result Sense EvalFault
mouse_member x y name = known (entry_named name ((codes "x", Is (Int x)) ∷ (codes "y", Is (Int y)) ∷ []))

-- a member of a value: only objects have any
abbrev pub value_member : Meanings → Value → List ℕ → Result Sense EvalFault
value_member means (Obj serial) name = if serial == 0 then Err NullMember else meaning (means.member serial None name)
value_member means _ name = Err WrongKind

-- a local's name stands for what it holds
abbrev pub held_sense : Local → Sense
held_sense (Plain value) = Is value
held_sense (MouseLocal x y) = Mouse x y
