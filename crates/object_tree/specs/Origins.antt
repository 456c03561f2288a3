-- Where documents declare what a store holds.
use Rattle.std.specs.Prelude.{ℕ, ◌-◌, Option, None, Some, is_some, option_and_then, option_map, List, length, slice_get, if◌then◌else◌}
use Rattle.qml_ast.specs.declared.place.Place.{Place}
use Rattle.qml_ast.specs.declared.span.At.{At}
use Rattle.qml_ast.specs.declared.span.Span.{Span}
use Rattle.qml_types.specs.declared.component.ComponentType.{out-ComponentType}
use Rattle.qml_types.specs.declared.component.ObjectDecl.{ObjectDecl, out-ObjectDecl}
use Rattle.object_tree.specs.declared.context.Context.{Context}
use Rattle.object_tree.specs.declared.instance.Instance.{Instance}
use Rattle.object_tree.specs.declared.instance.Layer.{Layer}
use Rattle.object_tree.specs.declared.property.Binding.{Binding}
use Rattle.object_tree.specs.Growing.{context_at}
use Rattle.object_tree.specs.Layers.{decl_of, slot_path_of}
use Rattle.object_tree.specs.Reading.{instance_at, property_at, binding_at, is_place}
use Rattle.object_tree.specs.Store.{Store}

-- the path of a place's slot
abbrev pub path_at : Place → Store → Option (List ℕ)
path_at place store = if is_some (property_at place.serial place.slot store) then option_and_then (slot_path_of place.slot) (instance_at place.serial store) else None

-- a place in a document
pub record Origin : Type 0 where
  pub file : List ℕ
  pub span : Span

abbrev pub seen_at : At → Origin
seen_at at = record { file = at.file.now; span = at.span }

abbrev pub origin_in : Layer → ObjectDecl → Origin
origin_in layer decl = record { file = (out-ComponentType layer.component).file; span = (out-ObjectDecl decl).span }

-- where the name of an object's type stands: in the outermost document that declares the object
abbrev pub type_origin : List Layer → Option Origin
type_origin layers = option_and_then (λ (l : Layer). option_map (origin_in l) (decl_of l)) (slice_get layers (length layers - 1))

abbrev pub binding_origin : Store → Binding → Option Origin
binding_origin store b =
    option_map (λ (c : Context). record { file = (out-ComponentType c.component).file; span = b.span }) (context_at b.frame.context store)

abbrev pub type_origin_at : ℕ → Store → Option Origin
type_origin_at serial store = option_and_then (λ (i : Instance). type_origin i.layers) (instance_at serial store)

-- where notes on a place stand
abbrev pub origin_of : Place → Store → Option Origin
origin_of place store = by (binding_at place store)
  where
    by : Option Binding → Option Origin
    by (Some b) = binding_origin store b
    by None = if is_place place store then type_origin_at place.serial store else None
