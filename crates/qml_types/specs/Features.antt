-- What a type has: the built-in type that it is in the end, and what documents have added to that.
use Rattle.std.specs.Prelude.{ℕ, nat_eq, Option, None, Some, List, [], ◌∷◌, ◌++◌, map, fold, is_some, if◌then◌else◌}
use Rattle.std.specs.Cmp.Lexicographic.{pointwise}
use Rattle.std.specs.Map.{lookup}
use Rattle.type_table.specs.declared.built_in.BuiltIn.{BuiltIn}
use Rattle.type_table.specs.declared.built_in.BuiltIn.TheVariants as built_in
use Rattle.qml_types.specs.declared.component.Base.{Base, fold-Base}
use Rattle.qml_types.specs.declared.component.Base.TheOpen.{Base-F, ComponentType-F, ObjectDecl-F}
use Rattle.qml_types.specs.declared.component.ComponentType.{ComponentType, fold-ComponentType}
use Rattle.qml_types.specs.declared.component.MethodDecl.{MethodDecl}
use Rattle.qml_types.specs.declared.component.SignalDecl.{SignalDecl}
use Rattle.qml_types.specs.declared.component.SlotDecl.{SlotDecl}
use Rattle.qml_types.specs.declared.features.Feature.{Feature}
use Rattle.qml_types.specs.declared.features.Feature.TheVariants.{Slot, Signal, Method}

-- names with what each of them is
abbrev pub Features : Type 0
Features = List (List ℕ × Feature)

-- what a name is: what the first of its entries says
abbrev pub meaning : List ℕ → Features → Option Feature
meaning name features = lookup (pointwise nat_eq name) features

-- the names with this one, which goes last unless it is there
unfoldable pub with_feature : Features → List ℕ × Feature → Features
with_feature features entry = if is_some (meaning entry.0 features) then features else features ++ (entry ∷ [])

-- a type
pub record TypeView : Type 0 where
  -- the built-in type on which it stands
  pub built_in : BuiltIn
  -- the names that documents declared for it, those of the innermost document first; of a name that is declared
  -- twice the first declaration counts
  pub features : Features

-- what the members of an object declare
abbrev pub slot_feature : SlotDecl → List ℕ × Feature
slot_feature slot = (slot.name, Slot (record { kind = Some slot.kind; read_only = slot.read_only }))

abbrev pub signal_feature : SignalDecl → List ℕ × Feature
signal_feature signal = (signal.name, Signal)

abbrev pub method_feature : MethodDecl → List ℕ × Feature
method_feature method = (method.name, Method)

abbrev pub base_step : Base-F TypeView TypeView TypeView → TypeView
base_step (Base-F.BuiltIn built_in) = record { built_in = built_in; features = [] }
base_step (Base-F.Document type) = type

-- a component is of the type of its root
abbrev pub root_type : List TypeView → TypeView
root_type [] = record { built_in = built_in.QtObject; features = [] }
root_type (root ∷ _) = root

abbrev pub component_step : ComponentType-F TypeView TypeView TypeView → TypeView
component_step component = root_type component.objects

abbrev pub object_step : ObjectDecl-F TypeView TypeView TypeView → TypeView
object_step object = record {
  built_in = object.base.built_in;
  features = fold with_feature object.base.features (map slot_feature object.slots ++ (map signal_feature object.signals ++ map method_feature object.methods));
}

-- the type that a document declares
unfoldable pub type_of : ComponentType → TypeView
type_of = fold-ComponentType TypeView TypeView TypeView base_step component_step object_step

-- the type of objects that are made of this first
unfoldable pub view_of : Base → TypeView
view_of = fold-Base TypeView TypeView TypeView base_step component_step object_step
