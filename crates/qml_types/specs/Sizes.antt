-- How many objects and contexts a component makes, and how deep the objects stand in one another.
use Rattle.std.specs.Prelude.{ℕ, ◌+◌, ◌-◌, ◌^◌, min, max, Option, None, Some, List, [], ◌∷◌, ◌++◌, map, sum, slice_index}
use Rattle.std.specs.List.{sum_by}
use Rattle.qml_types.specs.declared.component.Base.{Base, out-Base}
use Rattle.qml_types.specs.declared.component.Base.TheOpen.{Base-F, ComponentType-F, ObjectDecl-F}
use Rattle.qml_types.specs.declared.component.ComponentType.{ComponentType, fold-ComponentType, out-ComponentType}
use Rattle.qml_types.specs.declared.component.ObjectDecl.{ObjectDecl, out-ObjectDecl}
use Rattle.qml_types.specs.declared.component.Sizes.{Sizes}

-- ---- objects
-- an object of a document's type is that document's root, with all that stands in it
abbrev pub base_objects : Base-F ℕ ℕ ℕ → ℕ
base_objects (Base-F.BuiltIn t) = 1
base_objects (Base-F.Document objects) = objects

abbrev pub component_objects : ComponentType-F ℕ ℕ ℕ → ℕ
component_objects component = sum component.objects

abbrev pub object_objects : ObjectDecl-F ℕ ℕ ℕ → ℕ
object_objects object = object.base

-- how many objects one making of the component makes
unfoldable pub objects_made : ComponentType → ℕ
objects_made = fold-ComponentType ℕ ℕ ℕ base_objects component_objects object_objects

-- ---- contexts
abbrev pub base_contexts : Base-F ℕ ℕ ℕ → ℕ
base_contexts (Base-F.BuiltIn t) = 0
base_contexts (Base-F.Document contexts) = contexts

-- a component has a context of its own
abbrev pub component_contexts : ComponentType-F ℕ ℕ ℕ → ℕ
component_contexts component = sum component.objects + 1

-- how many contexts one making of the component makes
unfoldable pub contexts_made : ComponentType → ℕ
contexts_made = fold-ComponentType ℕ ℕ ℕ base_contexts component_contexts object_objects

-- ---- depth
-- an object's owner, and how many levels the object's own type has
pub record Level : Type 0 where
  pub owner : Option ℕ
  pub levels : ℕ

-- at which level an object stands, where those before it stand at these
abbrev pub level_of : List ℕ → Option ℕ → ℕ
level_of before None = 1
level_of before (Some owner) = slice_index before owner + 1

-- the greatest level of these objects and of those that their types have below them
abbrev pub greatest : List ℕ → List Level → ℕ
greatest before [] = 0
greatest before (object ∷ objects) =
    max (level_of before object.owner + object.levels - 1) (greatest (before ++ (level_of before object.owner ∷ [])) objects)

abbrev pub base_levels : Base-F ℕ ℕ Level → ℕ
base_levels (Base-F.BuiltIn t) = 1
base_levels (Base-F.Document levels) = levels

abbrev pub component_levels : ComponentType-F ℕ ℕ Level → ℕ
component_levels component = greatest [] component.objects

abbrev pub object_level : ObjectDecl-F ℕ ℕ Level → Level
object_level object = record { owner = object.owner; levels = object.base }

-- The number of levels on which the objects of one making stand: 1 where the root owns none, and one more for each
-- object that owns the one before.
unfoldable pub levels_made : ComponentType → ℕ
levels_made = fold-ComponentType ℕ ℕ Level base_levels component_levels object_level

-- ---- what a component type keeps
-- these numbers, each capped at the greatest of its type
unfoldable pub sizes_made : ComponentType → Sizes
sizes_made component = record {
  objects = min (objects_made component) (2 ^ 64 - 1);
  contexts = min (contexts_made component) (2 ^ 64 - 1);
  levels = min (levels_made component) (2 ^ 32 - 1);
}

abbrev pub layer_sizes : Base-F Base ComponentType ObjectDecl → Sizes
layer_sizes (Base-F.BuiltIn t) = record { objects = 1; contexts = 0; levels = 1 }
layer_sizes (Base-F.Document component) = (out-ComponentType component).sizes

-- the sizes of what is made of this first: those that a document's component type keeps
unfoldable pub sizes_on : Base → Sizes
sizes_on base = layer_sizes (out-Base base)

abbrev pub objects_on : ObjectDecl → ℕ
objects_on object = (sizes_on (out-ObjectDecl object).base).objects

abbrev pub contexts_on : ObjectDecl → ℕ
contexts_on object = (sizes_on (out-ObjectDecl object).base).contexts

abbrev pub level_on : ObjectDecl → Level
level_on object = record { owner = (out-ObjectDecl object).owner; levels = (sizes_on (out-ObjectDecl object).base).levels }

-- The sizes of a component that has these objects, by what the types keep on which they stand. Where those keep
-- their numbers capped, so does this one.
unfoldable pub sizes_of : List ObjectDecl → Sizes
sizes_of objects = record {
  objects = min (sum_by objects_on objects) (2 ^ 64 - 1);
  contexts = min (sum_by contexts_on objects + 1) (2 ^ 64 - 1);
  levels = min (greatest [] (map level_on objects)) (2 ^ 32 - 1);
}
