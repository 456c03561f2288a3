-- What assignments give.
use Rattle.std.specs.Prelude.{ℕ, pos, if◌then◌else◌, List, is_some, Option, None, Some, Result, Ok, Err}
use Rattle.qml_ast.specs.Arithmetic.{sum_of, difference_of, product_of, quotient_of}
use Rattle.qml_ast.specs.declared.eval_fault.EvalFault.{EvalFault}
use Rattle.qml_ast.specs.declared.eval_fault.EvalFault.TheVariants.{WrongKind, UnknownName, ReadOnly}
use Rattle.qml_ast.specs.declared.expr.Expr.{Expr, out-Expr}
use Rattle.qml_ast.specs.declared.expr.Expr.TheOpen.{Expr-F}
use Rattle.qml_ast.specs.declared.place.Place.{Place}
use Rattle.qml_ast.specs.declared.place.Side.TheVariants.{Set}
use Rattle.qml_ast.specs.declared.stmt.AssignOp.{AssignOp}
use Rattle.qml_ast.specs.declared.stmt.AssignOp.TheVariants as op
use Rattle.qml_ast.specs.declared.value.Value.{Value}
use Rattle.qml_ast.specs.declared.value.Value.TheVariants.{Int}
use Rattle.type_table.specs.declared.slot.SlotInfo.{SlotInfo}
use Rattle.expr_eval.specs.Names.{local_named}
use Rattle.expr_eval.specs.declared.found.Frame.{Frame}
use Rattle.expr_eval.specs.declared.answer.Aim.{Aim}
use Rattle.expr_eval.specs.declared.answer.Aim.TheVariants as aim
use Rattle.expr_eval.specs.declared.locals.Local.{Local}
use Rattle.expr_eval.specs.declared.locals.Local.TheVariants.{Plain, Mouse}
use Rattle.expr_eval.specs.declared.locals.NamedLocal.{NamedLocal}
use Rattle.object_tree.specs.Changes.{value_or_null}
use Rattle.object_tree.specs.Reading.{info_at, is_place}
use Rattle.object_tree.specs.Store.{Store}
use Rattle.object_tree.specs.Taking.{taken}
use Rattle.signals.specs.Values.{value_in}
use Rattle.signals.specs.declared.assigning.Right.{Right}
use Rattle.signals.specs.declared.assigning.Right.TheVariants.{Of, One}

-- the local that a target names, if it names one
abbrev pub local_step : List NamedLocal → Expr-F Expr → Option (List ℕ)
local_step locals (Expr-F.Name name) = if is_some (local_named name locals) then Some name else None
local_step locals _ = None

abbrev pub local_target : Expr → List NamedLocal → Option (List ℕ)
local_target target locals = local_step locals (out-Expr target)

-- what a local holds; where the mouse is, is no value
abbrev pub held_value : Option Local → Result Value EvalFault
held_value None = Err UnknownName
held_value (Some (Plain v)) = Ok v
held_value (Some (Mouse x y)) = Err WrongKind

-- the value that comes of an old one and the one on the right
abbrev pub compound : AssignOp → Value → Value → Result Value EvalFault
compound op.Set old right = Ok right
compound op.Add old right = sum_of old right
compound op.Sub old right = difference_of old right
compound op.Mul old right = product_of old right
compound op.Div old right = quotient_of old right

abbrev pub then_with : {A B : Type 0} → Result A EvalFault → (A → Result B EvalFault) → Result B EvalFault
then_with (Ok v) next = next v
then_with (Err fault) next = Err fault

-- `=` asks for no old value; otherwise that comes first
abbrev pub combined : AssignOp → Result Value EvalFault → Result Value EvalFault → Result Value EvalFault
combined op.Set old right = right
combined op.Add old right = then_with old (λ a. then_with right (compound op.Add a))
combined op.Sub old right = then_with old (λ a. then_with right (compound op.Sub a))
combined op.Mul old right = then_with old (λ a. then_with right (compound op.Mul a))
combined op.Div old right = then_with old (λ a. then_with right (compound op.Div a))

-- the place on which a slot is set, where what is set and what is shown are two
abbrev pub set_place : Place → Store → Place
set_place place store = if is_place (record place { side = Set }) store then record place { side = Set } else place

abbrev pub taken_or_wrong : Option Value → Result Value EvalFault
taken_or_wrong None = Err WrongKind
taken_or_wrong (Some v) = Ok v

abbrev pub writable_as : Option SlotInfo → Store → Value → Result Value EvalFault
writable_as None store v = Err WrongKind
writable_as (Some info) store v = if info.read_only then Err ReadOnly else taken_or_wrong (taken store info.kind v)

-- the value as a slot takes it that a document writes; a slot that is read only is refused first
abbrev pub writable : Place → Store → Value → Result Value EvalFault
writable place store v = writable_as (info_at place store) store v

-- ---- assignments to places
-- what a target aims at
abbrev pub aimed_place : Aim → Result Place EvalFault
aimed_place (aim.At place) = Ok place
aimed_place (aim.Needs place) = Err WrongKind
aimed_place (aim.Faulted fault) = Err fault

-- where a slot is set, with the value as it takes it
abbrev pub placed : Place → Store → Value → Result (Place × Value) EvalFault
placed place store v = then_with (writable place store v) (λ t. Ok (place, t))

-- what is written, and where: the target is found first, then the old value where one is asked for, and then the one on the right
unfoldable pub assignment : Aim → AssignOp → Result Value EvalFault → Store → Result (Place × Value) EvalFault
assignment target op right store =
    then_with (aimed_place target) (λ place.
    then_with (combined op (Ok (value_or_null place store)) right) (λ v.
    placed (set_place place store) store v))

-- ---- what stands on the right
abbrev pub right_in : Frame → Store → List NamedLocal → Right → Result Value EvalFault
right_in frame store locals (Of e) = value_in frame store locals e.now
right_in frame store locals One = Ok (Int (pos 1))
