-- Component types that are made one after another.
use Rattle.std.proofs.Common.{◌≡◌, ℕ, Bool, true, false, nat_eq, cond, List, [], ◌∷◌, ◌++◌, map, find, Option, None, Some, is_some, Result, Ok, Err, refl, sym, ap, subst, ◌∙◌, true≢false}
use Rattle.std.specs.Cmp.Lexicographic.{pointwise}
use Rattle.std.specs.Map.{lookup}
use Rattle.std.specs.Option.{option_map}
use Rattle.qml_ast.specs.declared.fault.DocFault.{DocFault}
use Rattle.qml_ast.specs.declared.fault.LoadFault.{LoadFault}
use Rattle.qml_types.specs.Compiled.{compiled}
use Rattle.qml_types.specs.Known.{known_type}
use Rattle.qml_types.specs.declared.component.ComponentType.{ComponentType}
use Rattle.type_loader.specs.Order.{IsFaultOf, component_named, known_of, made_with, with_component}
use Rattle.type_loader.specs.declared.made.Made.{Made}
use Rattle.type_loader.specs.declared.source.Source.{Source}

-- what is known of a name is what was made of it
pub known_made : (made : List Made) (name : List ℕ) → known_type (known_of made) name ≡ component_named made name
known_made [] name = refl
known_made (m ∷ made) name =
    elim (pointwise nat_eq name m.name) as (λ b. cond b (Some m.component) (known_type (known_of made) name) ≡ option_map (λ m. m.component) (cond b (Some m) (find (λ m. pointwise nat_eq name m.name) made)))
    [ true ↦ refl | false ↦ known_made made name ]

none_of : {A : Type 0} (o : Option A) → is_some o ≡ false → o ≡ None
none_of None h = refl
none_of (Some x) h = absurd (true≢false h)

-- and so nothing is known of a name of which nothing was made
pub none_known : (made : List Made) (name : List ℕ) → is_some (component_named made name) ≡ false → known_type (known_of made) name ≡ None
none_known made name none = known_made made name ∙ none_of (component_named made name) none

-- a document is not compiled twice
pub made_before : (made : List Made) (source : Source) → is_some (component_named made source.name) ≡ true → made_with made (Some source) ≡ Ok made
made_before made source some = by (component_named made source.name) some
  where
    by : (o : Option ComponentType) → is_some o ≡ true → ◌≡◌ {A = Result (List Made) LoadFault} (elim o [ None ↦ with_component made source (compiled source.file source.document (known_of made)) | Some component ↦ Ok made ]) (Ok made)
    by None h = absurd (true≢false (sym h))
    by (Some c) h = refl

-- a document of which nothing was made is compiled
pub made_now : (made : List Made) (source : Source) → is_some (component_named made source.name) ≡ false
    → made_with made (Some source) ≡ with_component made source (compiled source.file source.document (known_of made))
made_now made source none = by (component_named made source.name) none
  where
    by : (o : Option ComponentType) → is_some o ≡ false → ◌≡◌ {A = Result (List Made) LoadFault} (elim o [ None ↦ with_component made source (compiled source.file source.document (known_of made)) | Some component ↦ Ok made ]) (with_component made source (compiled source.file source.document (known_of made)))
    by None h = refl
    by (Some c) h = absurd (true≢false h)

pub made_new : (made : List Made) (source : Source) (component : ComponentType) → is_some (component_named made source.name) ≡ false → compiled source.file source.document (known_of made) ≡ Ok component
    → made_with made (Some source) ≡ Ok (made ++ record { name = source.name; component = component } ∷ [])
made_new made source component none is = made_now made source none ∙ ap (with_component made source) is

-- or has a fault
pub made_faulty : (made : List Made) (source : Source) (fault : LoadFault) → is_some (component_named made source.name) ≡ false → IsFaultOf source.file (compiled source.file source.document (known_of made)) fault
    → made_with made (Some source) ≡ Err fault
made_faulty made source fault none is = made_now made source none ∙ by (compiled source.file source.document (known_of made)) is
  where
    by : (r : Result ComponentType DocFault) → IsFaultOf source.file r fault → with_component made source r ≡ Err fault
    by (Ok c) told = absurd told
    by (Err why) told = ap (λ f. Err f) (sym told)
