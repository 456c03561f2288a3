-- Equations that hold of a store, without any order of evaluation.
use Rattle.std.specs.Prelude.{◌≡◌, Bool, true, false, not, ◌&&◌, ◌||◌, if◌then◌else◌, Option, None, Some, is_some, List, [], ◌∷◌, filter, Result, Ok, Err}
use Rattle.std.specs.List.{list_any}
use Rattle.qml_ast.specs.declared.eval_fault.EvalFault.{EvalFault}
use Rattle.qml_ast.specs.declared.eval_fault.EvalFault.TheVariants.{WrongKind}
use Rattle.qml_ast.specs.declared.place.Place.{Place}
use Rattle.qml_ast.specs.declared.value.Value.{Value}
use Rattle.expr_eval.specs.Meanings.{Meanings}
use Rattle.expr_eval.specs.Needs.{value_and_reads}
use Rattle.expr_eval.specs.Shapes.{meanings}
use Rattle.expr_eval.specs.Traces.{are_same}
use Rattle.expr_eval.specs.declared.answer.Eval.{Eval}
use Rattle.expr_eval.specs.declared.answer.Eval.TheVariants as said
use Rattle.item_equations.specs.Values.{value_shown}
use Rattle.item_equations.specs.declared.native.Native.{Native}
use Rattle.settling.specs.Loops.{has_loop, AreOnce}
use Rattle.settling.specs.Runs.{reads}
use Rattle.object_tree.specs.declared.property.Binding.{Binding}
use Rattle.object_tree.specs.declared.property.Held.{Held}
use Rattle.object_tree.specs.Places.{places_of}
use Rattle.object_tree.specs.Reading.{instance_at, binding_at, info_at, held_at, value_read}
use Rattle.object_tree.specs.Store.{Store}
use Rattle.binding_engine.specs.Equations.{shape_of, taken_in, family_of, native_tree, native_at, has_owner}
use Rattle.binding_engine.specs.Standing.{space, kept_in, is_suspended_in}

-- what a place of a store holds
abbrev pub value_in : Store → Place → Value
value_in store place = (kept_in (held_at place store)).value

-- what a store means to expressions, each place having its value
abbrev pub meanings_of : Store → Meanings
meanings_of store = meanings (shape_of store) (value_in store)

-- a value as its slot takes it; what it does not take is a fault
abbrev pub taken_or_wrong : Option Value → Result Value EvalFault
taken_or_wrong None = Err WrongKind
taken_or_wrong (Some v) = Ok v

-- what an expression's answer is at its place. Nothing is needed where each place has its value.
abbrev pub result_of : Store → Place → Eval → Result Value EvalFault
result_of store place (said.Is v) = taken_or_wrong (taken_in (info_at place store) store v)
result_of store place (said.Faulted f) = Err f
result_of store place (said.Needs p) = Err WrongKind

abbrev pub result_by : Store → Place → Option Binding → Option Native → Option (Result Value EvalFault)
result_by store place (Some b) native = Some (result_of store place (value_and_reads (meanings_of store) b.expr b.frame []).0)
result_by store place None (Some native) = Some (value_shown (family_of store) (λ p. value_read store (value_in store p)) native place.serial)
result_by store place None None = None

-- The value, or the fault, of the expression that a place is bound to over this store, as its slot takes it; of what an item shows by an equation of
-- its own, that of the equation. Other places have none.
unfoldable pub result_at : Store → Place → Option (Result Value EvalFault)
result_at store place =
    if has_owner (instance_at place.serial store) then result_by store place (binding_at place store) (native_at store place) else None

-- the place has the value and no mark, or the mark of the fault
abbrev pub Fulfils : Result Value EvalFault → Held → Type 0
Fulfils (Ok v) held = (held.value ≡ v) × (held.marks.fault ≡ None)
Fulfils (Err f) held = held.marks.fault ≡ Some f

abbrev pub Unless : Bool → Type 0 → Type 0
Unless true P = Unit {0}
Unless false P = P

abbrev pub HoldsOf : Option (Result Value EvalFault) → Option Held → Type 0
HoldsOf None held = Unit {0}
HoldsOf (Some result) None = Unit {0}
HoldsOf (Some result) (Some held) = Unless held.marks.suspended (Fulfils result held)

-- Each place that has an expression and is not suspended has the value of that expression over this same store, or its expression faults there and
-- the place has the mark of that fault.
abbrev pub EquationsHold : Store → Type 0
EquationsHold store = (place : Place) → HoldsOf (result_at store place) (held_at place store)

-- ---- reads
-- the places that the expression of a place reads over this store, in the order of their first reads
abbrev pub reads_by : Store → Place → Option Binding → Option Native → List Place
reads_by store place (Some b) native = (value_and_reads (meanings_of store) b.expr b.frame []).1
reads_by store place None (Some native) = reads (native_tree store native place.serial) (value_in store)
reads_by store place None None = []

unfoldable pub reads_at : Store → Place → List Place
reads_at store place =
    if has_owner (instance_at place.serial store) then reads_by store place (binding_at place store) (native_at store place) else []

-- the expression of one place reads the other place
abbrev pub ReadsIn : Store → Place → Place → Type 0
ReadsIn store p q = list_any (λ r. are_same r q) (reads_at store p) ≡ true

-- from the first place on, each one's expression reads the next of these, and the last one's reads the end
abbrev pub IsPathIn : Store → Place → List Place → Place → Type 0
IsPathIn store p [] end = ReadsIn store p end
IsPathIn store p (q ∷ qs) end = ReadsIn store p q × IsPathIn store q qs end

-- the expression of each loop's place reads the first of its chain, each one's the next, and the last one's the place
abbrev pub AreChainsIn : Store → List (Place × List Place) → Type 0
AreChainsIn store [] = Unit {0}
AreChainsIn store (found ∷ loops) = IsPathIn store found.0 found.1 found.0 × AreChainsIn store loops

-- ---- marks
-- the mark of a fault that a place has
abbrev pub mark_in : Store → Place → Option EvalFault
mark_in store place = (kept_in (held_at place store)).mark

-- A place that has the mark of a fault, or is suspended, has the value that it had in the other store.
abbrev pub KeepsLast : Store → Store → Type 0
KeepsLast before store =
    (place : Place) → (is_some (mark_in store place) || is_suspended_in (held_at place store)) ≡ true → value_in store place ≡ value_in before place

-- the place is suspended in the one store and was not in the other
abbrev pub is_newly_suspended : Store → Store → Place → Bool
is_newly_suspended before store place = is_suspended_in (held_at place store) && not (is_suspended_in (held_at place before))

-- the places that are suspended in the one store and were not in the other, in their order
abbrev pub looped_in : Store → Store → List Place
looped_in before store = filter (is_newly_suspended before store) (places_of store)

-- These are the loops that were found: those of the places that were suspended, each once.
pub record AreLoopsIn (before store : Store) (loops : List (Place × List Place)) : Type 0 where
  pub suspended : (place : Place) → has_loop space loops place ≡ is_newly_suspended before store place
  pub once : AreOnce space loops
