-- What documents declare of an object.
use Rattle.std.specs.Prelude.{ℕ, ◌-◌, Option, None, Some, List, [], length, nat_lt, if◌then◌else◌, option_map, slice_get}
use Rattle.std.specs.List.{flat_map}
use Rattle.type_table.specs.Slots.{slots, NamedSlot}
use Rattle.qml_types.specs.declared.component.ComponentType.{out-ComponentType}
use Rattle.qml_types.specs.declared.component.ObjectDecl.{ObjectDecl, out-ObjectDecl}
use Rattle.qml_types.specs.declared.component.SlotDecl.{SlotDecl}
use Rattle.object_tree.specs.declared.instance.Instance.{Instance}
use Rattle.object_tree.specs.declared.instance.Layer.{Layer}

-- the object's declaration
abbrev pub decl_of : Layer → Option ObjectDecl
decl_of layer = slice_get (out-ComponentType layer.component).objects layer.index

abbrev pub slots_in : Option ObjectDecl → List SlotDecl
slots_in None = []
slots_in (Some decl) = (out-ObjectDecl decl).slots

-- the slots that documents declare, the innermost document's first
abbrev pub declared_slots : List Layer → List SlotDecl
declared_slots layers = flat_map (λ l. slots_in (decl_of l)) layers

abbrev pub path_of : NamedSlot → List ℕ
path_of slot = slot.path

abbrev pub name_of : SlotDecl → List ℕ
name_of slot = slot.name

-- the path of a slot: one of the built-in type, or else a declared one
abbrev pub slot_path_of : ℕ → Instance → Option (List ℕ)
slot_path_of slot instance =
    if nat_lt slot (length (slots instance.built_in)) then option_map path_of (slice_get (slots instance.built_in) slot)
    else option_map name_of (slice_get (declared_slots instance.layers) (slot - length (slots instance.built_in)))
