-- What slots take, and what is written to them.
use Rattle.std.specs.Prelude.{◌≡◌, ℕ, true, false, Option, None, Some, Result, Ok, Err, is_some, option_map}
use Rattle.color_text.specs.Spelled.{spelled_color}
use Rattle.type_table.specs.declared.built_in.BuiltIn.TheVariants as built_in
use Rattle.type_table.specs.declared.slot.Kind.{Kind}
use Rattle.type_table.specs.declared.slot.Kind.TheVariants as kind
use Rattle.type_table.specs.declared.slot.SlotInfo.{SlotInfo}
use Rattle.qml_ast.specs.TextForm.{text_of}
use Rattle.qml_ast.specs.declared.eval_fault.EvalFault.{EvalFault}
use Rattle.qml_ast.specs.declared.eval_fault.EvalFault.TheVariants.{WrongKind, ReadOnly, NoMemory}
use Rattle.qml_ast.specs.declared.place.Place.{Place}
use Rattle.qml_ast.specs.declared.value.Value.{Value}
use Rattle.qml_ast.specs.declared.value.Value.TheVariants as value
use Rattle.object_tree.specs.declared.instance.Instance.{Instance}
use Rattle.object_tree.specs.Reading.{instance_at}
use Rattle.object_tree.specs.Store.{Store}
use Rattle.object_tree.specs.Writing.{written}

abbrev pub taken_int : Value → Option Value
taken_int (value.Int n) = Some (value.Int n)
taken_int _ = None

abbrev pub taken_bool : Value → Option Value
taken_bool (value.Bool b) = Some (value.Bool b)
taken_bool _ = None

abbrev pub taken_text : Value → Option Value
taken_text (value.Str text) = Some (value.Str text)
taken_text (value.Int n) = Some (value.Str (text_of (value.Int n)))
taken_text (value.Bool b) = Some (value.Str (text_of (value.Bool b)))
taken_text (value.Color argb) = Some (value.Str (text_of (value.Color argb)))
taken_text _ = None

abbrev pub taken_color : Value → Option Value
taken_color (value.Color argb) = Some (value.Color argb)
taken_color (value.Str text) = option_map (λ argb. value.Color argb) (spelled_color text)
taken_color _ = None

abbrev pub taken_object : Value → Option Value
taken_object (value.Obj serial) = Some (value.Obj serial)
taken_object (value.Line None) = Some (value.Obj 0)
taken_object _ = None

abbrev pub taken_line : Value → Option Value
taken_line (value.Line line) = Some (value.Line line)
taken_line _ = None

-- a component, or null; one that is no more is null
abbrev pub component_at : Option Instance → ℕ → Option Value
component_at None serial = Some (value.Obj 0)
component_at (Some i) serial = elim i.built_in [ built_in.Component ↦ Some (value.Obj serial) | _ ↦ None ]

abbrev pub taken_component : Store → Value → Option Value
taken_component store (value.Obj serial) = component_at (instance_at serial store) serial
taken_component store _ = None

-- the value as a slot of this kind takes it; none where it does not take it
abbrev pub taken : Store → Kind → Value → Option Value
taken store kind.Int v = taken_int v
taken store kind.Bool v = taken_bool v
taken store kind.Str v = taken_text v
taken store kind.Color v = taken_color v
taken store kind.Obj v = taken_object v
taken store kind.Line v = taken_line v
taken store kind.Component v = taken_component store v
taken store kind.Var v = Some v

-- what a document's write answers, and what it makes of the store
abbrev pub TakesOrNot : Option Value → Result Value EvalFault → Type 0
TakesOrNot gives (Ok v) = gives ≡ Some v
TakesOrNot gives (Err NoMemory) = Unit {0}
TakesOrNot gives (Err fault) = (gives ≡ None) × (fault ≡ WrongKind)

-- ---- what a document writes
-- the store with the value that the slot takes
abbrev pub written_taken : Place → Option Value → Store → Store
written_taken place None store = store
written_taken place (Some v) store = written place v store

-- a read-only slot is refused first, and then a value that the slot does not take; a refusal changes nothing
abbrev pub SetsSlot : SlotInfo → Place → Value → Store → Store → Result (Unit {0}) EvalFault → Type 0
SetsSlot info place v before after (Ok u) = (info.read_only ≡ false) × (is_some (taken before info.kind v) ≡ true) × (after ≡ written_taken place (taken before info.kind v) before)
SetsSlot info place v before after (Err ReadOnly) = (info.read_only ≡ true) × (after ≡ before)
SetsSlot info place v before after (Err NoMemory) = after ≡ before
SetsSlot info place v before after (Err fault) = (fault ≡ WrongKind) × (info.read_only ≡ false) × (taken before info.kind v ≡ None) × (after ≡ before)

abbrev pub Sets : Option SlotInfo → Place → Value → Store → Store → Result (Unit {0}) EvalFault → Type 0
Sets None place v before after result = after ≡ before
Sets (Some info) place v before after result = SetsSlot info place v before after result
