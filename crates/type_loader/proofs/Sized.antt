-- The component types of a unit keep their sizes.
use Rattle.std.proofs.Common.{◌≡◌, ℕ, List, [], ◌∷◌, ◌++◌, Option, None, Some, Result, Ok, Err, IfOk, refl, sym, subst, ◌∙◌}
use Rattle.std.proofs.lemmas.List.Elements.{All-cons, All-map, All-nil, All-push}
use Rattle.std.specs.List.{All, cons_option}
use Rattle.outside.specs.Store.{Store}
use Rattle.qml_ast.specs.declared.fault.DocFault.{DocFault}
use Rattle.qml_ast.specs.declared.fault.LoadFault.{LoadFault}
use Rattle.qml_types.proofs.Keeps.{compiled_keeps, lookup_keeps}
use Rattle.qml_types.specs.Compiled.{compiled}
use Rattle.qml_types.specs.Sized.{AreSized, IsSized}
use Rattle.qml_types.specs.declared.component.ComponentType.{ComponentType}
use Rattle.type_loader.specs.Entries.{Entries}
use Rattle.type_loader.specs.Loads.{IsLoaded}
use Rattle.type_loader.specs.Order.{component_named, components_of, in_order, known_of, made_by, made_with, with_component}
use Rattle.type_loader.specs.Sources.{source_named}
use Rattle.type_loader.specs.Units.{AreMadeTo}
use Rattle.type_loader.specs.declared.made.Made.{Made}
use Rattle.type_loader.specs.declared.source.Source.{Source}
use Rattle.type_loader.specs.declared.unit.Unit.{Unit as UnitOf}
use Rattle.type_loader.proofs.Making.{known_made}

abbrev AllKeep : List Made → Type 0
AllKeep made = All (λ m. IsSized m.component) made

known_keeps : (made : List Made) → AllKeep made → AreSized (known_of made)
known_keeps made all = All-map (λ e. IsSized e.1) (λ (m : Made). (m.name, m.component)) made all

component_keeps : (made : List Made) (source : Source) (result : Result ComponentType DocFault) (more : List Made) → AllKeep made → ((c : ComponentType) → result ≡ Ok c → IsSized c) →
    with_component made source result ≡ Ok more → AllKeep more
component_keeps made source (Ok c) more all keeps is =
    let same : made ++ record { name = source.name; component = c } ∷ [] ≡ more = cc in
    subst AllKeep same (All-push (λ m. IsSized m.component) made (record { name = source.name; component = c }) all (keeps c refl))
component_keeps made source (Err fault) more all keeps is = absurd cc

one_more_keeps : (made : List Made) (source : Option Source) (more : List Made) → AllKeep made → made_with made source ≡ Ok more → AllKeep more
one_more_keeps made None more all is = let same : made ≡ more = cc in subst AllKeep same all
one_more_keeps made (Some source) more all is = by (component_named made source.name) is
  where
    by : (o : Option ComponentType) →
        ◌≡◌ {A = Result (List Made) LoadFault} (elim o [ None ↦ with_component made source (compiled source.file source.document (known_of made)) | Some component ↦ Ok made ]) (Ok more) → AllKeep more
    by None made_now = component_keeps made source (compiled source.file source.document (known_of made)) more all (λ c. compiled_keeps source.file source.document (known_of made) c (known_keeps made all)) made_now
    by (Some c) made_before = let same : made ≡ more = cc in subst AllKeep same all

all_keep : (sources : List Source) (names : List (List ℕ)) (made all_made : List Made) → AllKeep made → made_by sources made names ≡ Ok all_made → AllKeep all_made
all_keep sources [] made all_made all is = let same : made ≡ all_made = cc in subst AllKeep same all
all_keep sources (name ∷ names) made all_made all is =
    by (made_with made (source_named sources name)) is (λ more. one_more_keeps made (source_named sources name) more all) (λ more. all_keep sources names more all_made)
  where
    by : (r : Result (List Made) LoadFault) → ◌≡◌ {A = Result (List Made) LoadFault} (elim r [ Ok more ↦ made_by sources more names | Err fault ↦ Err fault ]) (Ok all_made) →
        ((more : List Made) → r ≡ Ok more → AllKeep more) → ((more : List Made) → AllKeep more → made_by sources more names ≡ Ok all_made → AllKeep all_made) → AllKeep all_made
    by (Ok more) made_rest one rest = rest more (one more refl) made_rest
    by (Err fault) made_rest one rest = absurd cc

named_keeps : (made : List Made) → AllKeep made → (name : List ℕ) (component : ComponentType) → component_named made name ≡ Some component → IsSized component
named_keeps made all name component is = lookup_keeps (known_of made) (known_keeps made all) name component (known_made made name ∙ is)

components_keep : (made : List Made) (sources : List Source) → AllKeep made → All IsSized (components_of made sources)
components_keep made [] all = All-nil IsSized
components_keep made (source ∷ sources) all = by (component_named made source.name) (named_keeps made all source.name) (components_keep made sources all)
  where
    by : (o : Option ComponentType) → ((c : ComponentType) → o ≡ Some c → IsSized c) → All IsSized (components_of made sources) →
        All IsSized (cons_option o (components_of made sources))
    by None one rest = rest
    by (Some c) one rest = All-cons IsSized c (components_of made sources) (one c refl) rest

unit_keeps : (root : List ℕ) (sources : List Source) (unit : UnitOf) → AreMadeTo root sources unit → All IsSized unit.components
unit_keeps root sources unit made =
    subst (All IsSized) (sym made.components)
    (components_keep made.made sources (all_keep sources (in_order root sources) [] made.made (All-nil (λ m. IsSized m.component)) made.are))

pub if_keeps : {F : Type 0} (held : Option Store) (old new : Entries) (before after : F) (file : List ℕ) (result : Result UnitOf LoadFault) →
    IfOk result (IsLoaded held old new before after file) → IfOk result (λ unit. All IsSized unit.components)
if_keeps held old new before after file (Ok unit) loaded = unit_keeps loaded.root loaded.sources unit loaded.made
if_keeps held old new before after file (Err fault) loaded = tt
