-- The objects of a component, as the code adds them.
use Rattle.std.proofs.Common.{◌≡◌, ◌∙◌, ℕ, map, fold, length, Option, None, List, [], ◌∷◌, ◌++◌, refl, sym, ap}
use Rattle.std.specs.List.{flat_map}
use Rattle.std.specs.Option.{unwrap_or}
use Rattle.type_table.specs.declared.built_in.BuiltIn.TheVariants as built_in
use Rattle.qml_ast.specs.declared.decl.Decl.{Decl, out-Decl}
use Rattle.qml_ast.specs.declared.decl.Member.{Member}
use Rattle.qml_ast.specs.declared.span.Span.{Span}
use Rattle.qml_types.specs.declared.component.Base.{Base}
use Rattle.qml_types.specs.declared.component.Base.TheVariants as base
use Rattle.qml_types.specs.declared.component.ComponentType.{ComponentType, roll-ComponentType}
use Rattle.qml_types.specs.declared.component.ObjectDecl.{ObjectDecl, roll-ObjectDecl}
use Rattle.qml_types.specs.declared.component.Role.TheVariants as role
use Rattle.qml_types.specs.declared.component.Sizes.{Sizes}
use Rattle.qml_types.specs.declared.content.Content.{Content}
use Rattle.qml_types.specs.Contents.{content_in}
use Rattle.qml_types.specs.Known.{KnownTypes}
use Rattle.qml_types.specs.Parts.{Part, Reading, Stand}
use Rattle.qml_types.specs.Placed.{component_of, component_with, inner_of, object_of, with_part, with_object}
use Rattle.qml_types.specs.Readings.{part_of, reading_of, scope_of}
use Rattle.qml_types.specs.Scope.{Scope}
use Rattle.qml_types.specs.Sizes.{sizes_of}
use Rattle.qml_types.proofs.Turns.{reading_unrolled}

-- a component with the objects of its root
pub component_placed : (known : KnownTypes) (file copied : List ℕ) (reading : Reading) (start objects : List ObjectDecl) (sizes : Sizes) → start ≡ [] → copied ≡ file →
    objects ≡ reading.placed known (record { file = file; owner = None; role = role.Root }) start → sizes ≡ sizes_of objects →
    roll-ComponentType (record { file = copied; objects = objects; sizes = sizes }) ≡ component_of known file reading
unfolding component_of
component_placed known file copied reading start objects sizes fresh same all counted =
    ap (λ f. roll-ComponentType (record { file = f; objects = objects; sizes = sizes })) same
    ∙ (ap (λ n. roll-ComponentType (record { file = file; objects = objects; sizes = n })) counted
    ∙ ap (component_with file) (all ∙ ap (reading.placed known (record { file = file; owner = None; role = role.Root })) fresh))

-- an object with what its members declare
pub object_made : (scope : Scope) (stand : Stand) (at : Span) (parts : List Part) (content : Content) (b : Base) (inner : Option ComponentType) →
    content ≡ content_in scope.known parts → b ≡ unwrap_or scope.type (base.BuiltIn built_in.QtObject) → inner ≡ inner_of scope stand.file parts →
    roll-ObjectDecl (record {
      base = b;
      owner = stand.owner;
      role = stand.role;
      id = content.id;
      slots = content.interface.slots;
      signals = content.interface.signals;
      methods = content.interface.methods;
      inits = content.behaviour.inits;
      handlers = content.behaviour.handlers;
      inner = inner;
      span = at;
    })
    ≡ object_of scope stand at parts
unfolding object_of
object_made scope stand at parts content b inner same based declares =
    λ j. roll-ObjectDecl (record {
      base = based j;
      owner = stand.owner;
      role = stand.role;
      id = (same j).id;
      slots = (same j).interface.slots;
      signals = (same j).interface.signals;
      methods = (same j).interface.methods;
      inits = (same j).behaviour.inits;
      handlers = (same j).behaviour.handlers;
      inner = declares j;
      span = at;
    })

placed_joined : (scope : Scope) (at : Span) (parts : List Part) (stand : Stand) (objects : List ObjectDecl) →
    fold (with_part scope stand.file (length objects)) (objects ++ object_of scope stand at parts ∷ []) parts ≡ with_object scope at parts stand objects
unfolding with_object
placed_joined scope at parts stand objects = refl

-- an object and those in it
pub object_placed : (decl : Decl) (known : KnownTypes) (scope : Scope) (members : List Member) (stand : Stand) (index : ℕ) (object : ObjectDecl) (o1 o2 o3 : List ObjectDecl) →
    members ≡ (out-Decl decl).members → scope ≡ scope_of known (out-Decl decl).name (map part_of members) → index ≡ length o1 →
    object ≡ object_of scope stand (out-Decl decl).span (map part_of members) → o2 ≡ o1 ++ object ∷ [] →
    o3 ≡ fold (with_part scope stand.file index) o2 (map part_of members) → o3 ≡ (reading_of decl).placed known stand o1
object_placed decl known scope members stand index object o1 o2 o3 same seen at made pushed all =
    let parts = map part_of members in
    let span = (out-Decl decl).span in
    all ∙ ap (λ i. fold (with_part scope stand.file i) o2 parts) at
    ∙ ap (λ os. fold (with_part scope stand.file (length o1)) os parts) (pushed ∙ ap (λ o. o1 ++ o ∷ []) made)
    ∙ placed_joined scope span parts stand o1
    ∙ ap (λ s. with_object s span parts stand o1) seen
    ∙ ap (λ ms. with_object (scope_of known (out-Decl decl).name (map part_of ms)) span (map part_of ms) stand o1) same
    ∙ sym (ap (λ r. r.placed known stand o1) (reading_unrolled decl))
