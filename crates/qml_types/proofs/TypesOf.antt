-- The type that a component's root has.
use Rattle.std.proofs.lemmas.List.Sums.{fold-append}
use Rattle.std.proofs.Common.{◌≡◌, ◌∙◌, ℕ, ◌≤◌, ◌<◌, length, get_or, map, List, [], ◌∷◌, ◌++◌, fold, refl, sym, ap, rules, arith}
use Rattle.type_table.specs.declared.built_in.BuiltIn.{BuiltIn}
use Rattle.type_table.specs.declared.built_in.BuiltIn.TheVariants as built_in
use Rattle.qml_types.specs.declared.component.Base.{Base, the_lemmas}
use Rattle.qml_types.specs.declared.component.Base.TheVariants as base
use Rattle.qml_types.specs.declared.component.ComponentType.{ComponentType, out-ComponentType}
use Rattle.qml_types.specs.declared.component.ObjectDecl.{ObjectDecl, out-ObjectDecl, fold-ObjectDecl}
use Rattle.qml_types.specs.Features.{TypeView, Features, with_feature, slot_feature, signal_feature, method_feature, type_of, view_of, root_type, base_step, component_step, object_step}

-- the type of one object
abbrev pub object_type : ObjectDecl → TypeView
object_type = fold-ObjectDecl TypeView TypeView TypeView base_step component_step object_step

pub type_unrolled : (component : ComponentType) → type_of component ≡ root_type (map object_type (out-ComponentType component).objects)
unfolding type_of
type_unrolled component = search (rules, the_lemmas)

abbrev pub with_members : TypeView → ObjectDecl → TypeView
with_members type object = record {
  built_in = type.built_in;
  features = fold with_feature type.features (map slot_feature (out-ObjectDecl object).slots ++ (map signal_feature (out-ObjectDecl object).signals ++ map method_feature (out-ObjectDecl object).methods));
}

pub object_unrolled : (object : ObjectDecl) → object_type object ≡ with_members (view_of (out-ObjectDecl object).base) object
unfolding view_of
object_unrolled object = search (rules, the_lemmas)

pub document_view : (component : ComponentType) → view_of (base.Document component) ≡ type_of component
unfolding view_of type_of
document_view component = search (rules, the_lemmas)

pub built_in_view : (t : BuiltIn) → view_of (base.BuiltIn t) ≡ record { built_in = t; features = [] }
unfolding view_of
built_in_view t = search (rules, the_lemmas)

root_of_list : (objects : List ObjectDecl) (root : ObjectDecl) → 1 ≤ length objects → root ≡ get_or objects 0 root → root_type (map object_type objects) ≡ object_type root
root_of_list [] root some is = absurd (omega arith)
root_of_list (o ∷ os) root some is = ap object_type (sym is)

-- a component is of the type of its root
pub root_has_type : (component : ComponentType) (objects : List ObjectDecl) (root : ObjectDecl) → objects ≡ (out-ComponentType component).objects →
    1 ≤ length objects → root ≡ get_or objects 0 root → type_of component ≡ with_members (view_of (out-ObjectDecl root).base) root
root_has_type component objects root same some is =
    type_unrolled component ∙ ap (λ os. root_type (map object_type os)) (sym same) ∙ root_of_list objects root some is ∙ object_unrolled root

-- the members of an object, added one kind after another
pub members_added : (root : ObjectDecl) (view : TypeView) (b : BuiltIn) (f0 f1 f2 f3 : Features) → view ≡ record { built_in = b; features = f0 } →
    f1 ≡ fold with_feature f0 (map slot_feature (out-ObjectDecl root).slots) → f2 ≡ fold with_feature f1 (map signal_feature (out-ObjectDecl root).signals) →
    f3 ≡ fold with_feature f2 (map method_feature (out-ObjectDecl root).methods) → with_members view root ≡ record { built_in = b; features = f3 }
members_added root view b f0 f1 f2 f3 is a1 a2 a3 =
    let A = map slot_feature (out-ObjectDecl root).slots in
    let B = map signal_feature (out-ObjectDecl root).signals in
    let C = map method_feature (out-ObjectDecl root).methods in
    ap (λ v. with_members v root) is
    ∙ ap (λ fs. record { built_in = b; features = fs })
    (fold-append with_feature f0 A (B ++ C) ∙ ap (λ f. fold with_feature f (B ++ C)) (sym a1)
    ∙ fold-append with_feature f1 B C ∙ ap (λ f. fold with_feature f C) (sym a2) ∙ sym a3)

-- a component without objects
pub type_of_none : (component : ComponentType) (objects : List ObjectDecl) → objects ≡ (out-ComponentType component).objects → length objects < 1 →
    type_of component ≡ record { built_in = built_in.QtObject; features = [] }
type_of_none component objects same none = type_unrolled component ∙ ap (λ os. root_type (map object_type os)) (sym same ∙ nil objects none)
  where
    nil : (os : List ObjectDecl) → length os < 1 → os ≡ []
    nil [] few = refl
    nil (x ∷ xs) few = absurd (omega arith)

pub ruleset views = (document_view, built_in_view)
