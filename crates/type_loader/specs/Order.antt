-- The order in which documents are compiled, and what they are compiled to.
use Rattle.std.specs.Prelude.{◌≡◌, ℕ, zero, suc, nat_eq, true, false, List, [], ◌∷◌, ◌++◌, length, map, fold, find, Option, None, Some, Result, Ok, Err, if◌then◌else◌}
use Rattle.std.specs.Cmp.Lexicographic.{pointwise}
use Rattle.std.specs.List.{filter_map}
use Rattle.std.specs.Option.{option_map}
use Rattle.qml_ast.specs.declared.fault.DocFault.{DocFault}
use Rattle.qml_ast.specs.declared.fault.LoadFault.{LoadFault}
use Rattle.qml_ast.specs.declared.fault.LoadFault.TheVariants as load
use Rattle.qml_types.specs.Compiled.{compiled}
use Rattle.qml_types.specs.Known.{KnownTypes}
use Rattle.qml_types.specs.declared.component.ComponentType.{ComponentType}
use Rattle.type_loader.specs.Cycles.{mentioned_by}
use Rattle.type_loader.specs.Naming.{among, with_name}
use Rattle.type_loader.specs.Sources.{source_named}
use Rattle.type_loader.specs.declared.source.Source.{Source}
use Rattle.type_loader.specs.declared.made.Made.{Made}

-- the names in postorder of mentions, from one on, behind those that are done; no path is longer than `levels`
abbrev pub post : List Source → ℕ → List (List ℕ) → List ℕ → List (List ℕ)
post sources zero done name = done
post sources (suc levels) done name =
    if among done name then done else with_name (fold (post sources levels) done (mentioned_by sources name)) name

-- the names of the documents, each behind those that it mentions
abbrev pub in_order : List ℕ → List Source → List (List ℕ)
in_order root sources = post sources (length sources) [] root

-- the component types that are made, by their types' names
abbrev pub known_of : List Made → KnownTypes
known_of made = map (λ m. (m.name, m.component)) made

-- the component type that was made of that name
abbrev pub component_named : List Made → List ℕ → Option ComponentType
component_named made name = option_map (λ m. m.component) (find (λ m. pointwise nat_eq name m.name) made)

-- what is made with one more document, or its fault
abbrev pub with_component : List Made → Source → Result ComponentType DocFault → Result (List Made) LoadFault
with_component made source (Ok component) = Ok (made ++ record { name = source.name; component = component } ∷ [])
with_component made source (Err fault) = Err (load.Doc source.file fault)

-- what is made with the document, unless it was made before
abbrev pub made_with : List Made → Option Source → Result (List Made) LoadFault
made_with made None = Ok made
made_with made (Some source) =
    elim (component_named made source.name) [ None ↦ with_component made source (compiled source.file source.document (known_of made)) | Some component ↦ Ok made ]

-- what is made of the documents of these names, one after another, or the first fault
abbrev pub made_by : List Source → List Made → List (List ℕ) → Result (List Made) LoadFault
made_by sources made [] = Ok made
made_by sources made (name ∷ names) =
    elim (made_with made (source_named sources name)) [ Ok more ↦ made_by sources more names | Err fault ↦ Err fault ]

-- the component types of the documents, in the order of the documents
abbrev pub components_of : List Made → List Source → List ComponentType
components_of made sources = filter_map (λ s. component_named made s.name) sources

-- the fault tells why the document of that file is not compiled
abbrev pub IsFaultOf : List ℕ → Result ComponentType DocFault → LoadFault → Type 0
IsFaultOf file (Ok component) fault = ⊥
IsFaultOf file (Err why) fault = fault ≡ load.Doc file why
