-- What one making of a component adds to a store.
use Rattle.std.specs.Prelude.{ℕ, ◌+◌, Bool, true, false, nat_eq, if◌then◌else◌, Option, None, Some, option_map, List, [], ◌∷◌, ◌++◌, map, fold, length}
use Rattle.std.specs.Option.{option_or}
use Rattle.type_table.specs.Slots.{slots, find_slot, NamedSlot}
use Rattle.type_table.specs.declared.built_in.BuiltIn.{BuiltIn}
use Rattle.type_table.specs.declared.item_slots.TheConstants.{LEFT, RIGHT, TOP, BOTTOM, HORIZONTAL_CENTER}
use Rattle.type_table.specs.declared.slot.Initial.{Initial}
use Rattle.type_table.specs.declared.slot.Initial.TheVariants as initial
use Rattle.type_table.specs.declared.slot.Slot.{Slot}
use Rattle.type_table.specs.declared.slot.SlotInfo.{SlotInfo}
use Rattle.qml_ast.specs.declared.path.Path.{Path}
use Rattle.qml_ast.specs.declared.value.Edge.{Edge}
use Rattle.qml_ast.specs.declared.value.Edge.TheVariants as edge
use Rattle.qml_ast.specs.declared.value.Value.{Value}
use Rattle.qml_ast.specs.declared.value.Value.TheVariants as value
use Rattle.qml_types.specs.declared.component.InitDecl.{InitDecl}
use Rattle.qml_types.specs.declared.component.MethodDecl.{MethodDecl}
use Rattle.qml_types.specs.declared.component.ObjectDecl.{ObjectDecl, out-ObjectDecl}
use Rattle.qml_types.specs.declared.component.Role.{Role}
use Rattle.qml_types.specs.declared.component.Role.TheVariants as role
use Rattle.qml_types.specs.declared.component.SignalDecl.{SignalDecl}
use Rattle.qml_types.specs.declared.component.SlotDecl.{SlotDecl}
use Rattle.qml_types.specs.Scope.{dotted}
use Rattle.object_tree.specs.declared.instance.Feature.{Feature}
use Rattle.object_tree.specs.declared.instance.Feature.TheVariants as feature
use Rattle.object_tree.specs.declared.instance.Instance.{Instance}
use Rattle.object_tree.specs.declared.instance.Layer.{Layer}
use Rattle.object_tree.specs.declared.property.Held.{Held}
use Rattle.object_tree.specs.declared.property.Property.{Property}
use Rattle.object_tree.specs.Names.{named, with_name}
use Rattle.object_tree.specs.Writing.{with_property}

-- ---- slots
-- the line that a slot of items has the number of
abbrev pub edge_of : ℕ → Edge
edge_of slot =
    if nat_eq slot LEFT then edge.Left
    else (if nat_eq slot RIGHT then edge.Right
    else (if nat_eq slot TOP then edge.Top
    else (if nat_eq slot BOTTOM then edge.Bottom
    else (if nat_eq slot HORIZONTAL_CENTER then edge.HCenter else edge.VCenter))))

-- what a slot of this object holds at first
abbrev pub initial_value : ℕ → ℕ → Initial → Value
initial_value serial slot (initial.Int n) = value.Int n
initial_value serial slot (initial.Bool b) = value.Bool b
initial_value serial slot initial.Empty = value.Str []
initial_value serial slot (initial.Color argb) = value.Color argb
initial_value serial slot initial.Null = value.Obj 0
initial_value serial slot initial.NoLine = value.Line None
initial_value serial slot initial.OwnLine = value.Line (Some (record { serial = serial; edge = edge_of slot }))

abbrev pub fresh : Value → Held
fresh v = record { value = v; marks = record { suspended = false; fault = None } }

-- a slot of an object that was made in this settle
abbrev pub new_property : ℕ → ℕ → ℕ → SlotInfo → Property
new_property settle serial slot info = record {
  info = info;
  set = if info.sided then Some (fresh (initial_value serial slot info.initial)) else None;
  shown = fresh (initial_value serial slot info.initial);
  binding = None;
  is_given = false;
  written_in = settle;
  before = None;
}

-- one slot more
abbrev pub with_new : ℕ → ℕ → List Property → SlotInfo → List Property
with_new settle serial properties info = properties ++ (new_property settle serial (length properties) info ∷ [])

abbrev pub info_of : NamedSlot → SlotInfo
info_of slot = slot.info

-- the slots of a built-in type
abbrev pub new_properties : ℕ → ℕ → BuiltIn → List Property
new_properties settle serial t = fold (with_new settle serial) [] (map info_of (slots t))

-- ---- what a document declares
abbrev pub declared_info : SlotDecl → SlotInfo
declared_info slot = record { kind = slot.kind; initial = slot.initial; read_only = slot.read_only; sided = false }

abbrev pub with_declared_slot : ℕ → Instance → SlotDecl → Instance
with_declared_slot settle instance slot = record instance {
  names = with_name instance.names slot.name (feature.Slot (length instance.properties));
  properties = with_new settle instance.object.serial instance.properties (declared_info slot);
}

abbrev pub with_declared_signal : Instance → SignalDecl → Instance
with_declared_signal instance signal =
    record instance { names = with_name instance.names signal.name (feature.Signal instance.signals); signals = instance.signals + 1 }

abbrev pub with_declared_method : Instance → MethodDecl → Instance
with_declared_method instance method =
    record instance { names = with_name instance.names method.name (feature.Method instance.methods); methods = instance.methods + 1 }

abbrev pub number_of : Slot → ℕ
number_of slot = slot.index

abbrev pub slot_among : Option Feature → Option ℕ
slot_among (Some (feature.Slot slot)) = Some slot
slot_among _ = None

-- the slot under a path of one name or two; only built-in groups have paths of two
abbrev pub slot_under : Instance → List ℕ → Option (List ℕ) → Option ℕ
slot_under instance first None = option_or (option_map number_of (find_slot instance.built_in first)) (slot_among (named first instance.names))
slot_under instance first (Some second) = option_map number_of (find_slot instance.built_in (dotted first second))

abbrev pub with_binding : ℕ → ℕ → InitDecl → Property → Property
with_binding context serial init property = record property {
  binding = Some (record { expr = init.expr; frame = record { context = context; scope = serial }; span = init.span });
  is_given = true;
}

-- the object with f of the slot under a path, if there is one there
abbrev pub with_slot_under : (Property → Property) → Path → Instance → Instance
with_slot_under f path instance = elim (slot_under instance path.first path.second) [ None ↦ instance | Some slot ↦ with_property f slot instance ]

abbrev pub with_init : ℕ → Instance → InitDecl → Instance
with_init context instance init = with_slot_under (with_binding context instance.object.serial init) init.path instance

abbrev pub with_layer : Instance → Layer → Instance
with_layer instance layer = record instance { layers = instance.layers ++ (layer ∷ []) }

abbrev pub with_features : ℕ → ObjectDecl → Instance → Instance
with_features settle decl instance =
    fold with_declared_method (fold with_declared_signal (fold (with_declared_slot settle) instance (out-ObjectDecl decl).slots) (out-ObjectDecl decl).signals) (out-ObjectDecl decl).methods

-- what one component declares of an object, after what the components below it declare
unfoldable pub layered : ℕ → Layer → ObjectDecl → Instance → Instance
layered settle layer decl instance = fold (with_init layer.context) (with_features settle decl (with_layer instance layer)) (out-ObjectDecl decl).inits

-- ---- an object that is the value of a slot
-- what this context gives comes before what the other one gives, and so is replaced by it
abbrev pub is_replaced : ℕ → ℕ → List Layer → Bool
is_replaced context other [] = false
is_replaced context other (layer ∷ layers) =
    if nat_eq layer.context other then false
    else (if nat_eq layer.context context then true else is_replaced context other layers)

abbrev pub is_bound_over : ℕ → List Layer → Property → Bool
is_bound_over context layers property = elim property.binding [ None ↦ false | Some b ↦ is_replaced context b.frame.context layers ]

abbrev pub with_given : ℕ → Property → Property
with_given serial property = record property { binding = None; is_given = true; shown = record property.shown { value = value.Obj serial } }

abbrev pub with_object : ℕ → List Layer → ℕ → Property → Property
with_object context layers serial property = if is_bound_over context layers property then property else with_given serial property

abbrev pub given_object : ℕ → ℕ → Role → Instance → Instance
given_object context serial (role.Value path) instance = with_slot_under (with_object context instance.layers serial) path instance
given_object context serial _ instance = instance

abbrev pub is_child : Role → Bool
is_child (role.Value path) = false
is_child _ = true
