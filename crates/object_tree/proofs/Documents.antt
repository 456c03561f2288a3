-- How many contexts come with a root: one for each of the documents of which it is made.
use Rattle.std.proofs.Common.{◌≡◌, ◌∙◌, ℕ, ◌+◌, ◌-◌, ◌<◌, ◌≤◌, Bool, map, length, get_or, List, [], ◌∷◌, Option, None, Some, refl, sym, ap, subst, rules, arith}
use Rattle.std.specs.Prelude.{slice_get, slice_set}
use Rattle.std.proofs.lemmas.List.{length-set, length_push}
use Rattle.type_table.specs.declared.built_in.BuiltIn.{BuiltIn}
use Rattle.qml_types.specs.declared.component.Base.{Base, roll-Base, map-Base, the_lemmas}
use Rattle.qml_types.specs.declared.component.Base.TheOpen.{Base-F, ComponentType-F, ObjectDecl-F}
use Rattle.qml_types.specs.declared.component.Base.TheVariants as base
use Rattle.qml_types.specs.declared.component.ComponentType.{ComponentType, out-ComponentType, roll-ComponentType, map-ComponentType, ind-ComponentType}
use Rattle.qml_types.specs.declared.component.ObjectDecl.{ObjectDecl, out-ObjectDecl, roll-ObjectDecl, map-ObjectDecl, fold-ObjectDecl, ind-ObjectDecl}
use Rattle.qml_types.specs.declared.component.Sizes.{Sizes}
use Rattle.object_tree.specs.declared.context.Context.{Context}
use Rattle.object_tree.specs.Growing.{Grower, grower_of, grower_under, born, declared, with_context, new_context, last_context, root_declared, next_serial}
use Rattle.object_tree.specs.Store.{Store}
use Rattle.object_tree.specs.Undoing.{base_documents, root_documents, component_documents, object_documents, documents_of, documents_under}
use Rattle.object_tree.specs.Writing.{with_item}
use Rattle.object_tree.proofs.Growers.{built_in_is, document_grower, rooted_none, rooted_some}

-- ---- one level of the definition
abbrev documents_in : ObjectDecl → ℕ
documents_in = fold-ObjectDecl ℕ ℕ ℕ base_documents component_documents object_documents

documents_are : (c : ComponentType) → documents_of c ≡ root_documents (map documents_in (out-ComponentType c).objects)
unfolding documents_of
documents_are c = search (rules, the_lemmas)

in_object : (o : ObjectDecl) → documents_in o ≡ documents_under (out-ObjectDecl o).base
unfolding documents_under
in_object o = search (rules, the_lemmas)

pub of_document : (c : ComponentType) → documents_under (base.Document c) ≡ documents_of c
unfolding documents_of documents_under
of_document c = search (rules, the_lemmas)

of_built_in : (t : BuiltIn) → documents_under (base.BuiltIn t) ≡ 0
unfolding documents_under
of_built_in t = search (rules, the_lemmas)

of_none : (c : ComponentType) (objects : List ObjectDecl) → objects ≡ (out-ComponentType c).objects → length objects < 1 → documents_of c ≡ 0
of_none c objects same none = documents_are c ∙ ap (λ os. root_documents (map documents_in os)) (sym same) ∙ empty objects none
  where
    empty : (os : List ObjectDecl) → length os < 1 → root_documents (map documents_in os) ≡ 0
    empty [] few = refl
    empty (o ∷ os) few = absurd (omega arith)

pub of_some : (c : ComponentType) (objects : List ObjectDecl) (root : ObjectDecl) → objects ≡ (out-ComponentType c).objects → 1 ≤ length objects → root ≡ get_or objects 0 root →
    documents_of c ≡ documents_under (out-ObjectDecl root).base + 1
of_some c objects root same some is =
    documents_are c ∙ ap (λ os. root_documents (map documents_in os)) (sym same) ∙ first objects some is ∙ ap (λ n. n + 1) (in_object root)
  where
    first : (os : List ObjectDecl) → 1 ≤ length os → root ≡ get_or os 0 root → root_documents (map documents_in os) ≡ documents_in root + 1
    first [] few is = absurd (omega arith)
    first (o ∷ os) few is = ap (λ (r : ObjectDecl). documents_in r + 1) (sym is)

-- ---- contexts
changed_length : (f : Context → Context) (at : ℕ) (cs : List Context) → length (with_item f at cs) ≡ length cs
changed_length f at cs = by (slice_get cs at)
  where
    by : (o : Option Context) → length {A = Context} (elim o [ None ↦ cs | Some c ↦ slice_set cs at (f c) ]) ≡ length cs
    by None = refl
    by (Some c) = length-set cs at (f c)

born_contexts : (t : BuiltIn) (parent : ℕ) (as_child : Bool) (store : Store) → last_context (born t parent as_child store) ≡ last_context store
unfolding born
born_contexts t parent as_child store = refl

declared_contexts : (c : ComponentType) (o : ObjectDecl) (number serial : ℕ) (store : Store) → last_context (declared c o number serial store) ≡ last_context store
unfolding declared
declared_contexts c o number serial store = changed_length _ (number - 1) store.contexts

root_contexts : (c : ComponentType) (o : ObjectDecl) (around : Option ℕ) (serial : ℕ) (store : Store) → last_context (root_declared c o around serial store) ≡ last_context store + 1
root_contexts c o around serial store =
    let added = with_context (new_context c around) store in
    declared_contexts c o (last_context added) serial added ∙ length_push store.contexts (new_context c around)

abbrev BaseCounts : Base → Type 0
BaseCounts b = (parent : ℕ) (as_child : Bool) (store : Store) → last_context ((grower_under b).rooted parent as_child None store) ≡ last_context store + documents_under b

abbrev ComponentCounts : ComponentType → Type 0
ComponentCounts c = (parent : ℕ) (as_child : Bool) (around : Option ℕ) (store : Store) → last_context ((grower_of c).rooted parent as_child around store) ≡ last_context store + documents_of c

abbrev ObjectCounts : ObjectDecl → Type 0
ObjectCounts o = BaseCounts (out-ObjectDecl o).base

built_in_counts : (t : BuiltIn) → BaseCounts (base.BuiltIn t)
built_in_counts t parent as_child store =
    ap (λ (g : Grower). last_context (g.rooted parent as_child None store)) (built_in_is t)
    ∙ born_contexts t parent as_child store
    ∙ (let none = of_built_in t in omega (arith, none))

document_counts : (c : ComponentType) → ComponentCounts c → BaseCounts (base.Document c)
document_counts c counts parent as_child store =
    ap (λ (g : Grower). last_context (g.rooted parent as_child None store)) (document_grower c)
    ∙ counts parent as_child None store
    ∙ ap (λ n. last_context store + n) (sym (of_document c))

-- a component whose root is of a base that counts
some_count : (c : ComponentType) (root : ObjectDecl) (objects : List ObjectDecl) → root ∷ objects ≡ (out-ComponentType c).objects → ObjectCounts root → ComponentCounts c
some_count c root objects same counts parent as_child around store =
    let some : 1 ≤ length (root ∷ objects) = omega arith in
    let based = (grower_under (out-ObjectDecl root).base).rooted parent as_child None store in
    let rooted = rooted_some c (root ∷ objects) root parent as_child around store same some refl in
    let documents = of_some c (root ∷ objects) root same some refl in
    let level = root_contexts c root around (next_serial store) based in
    let below = counts parent as_child store in
    ap last_context (sym rooted) ∙ level ∙ omega (arith, below, documents)

none_count : (c : ComponentType) → [] ≡ (out-ComponentType c).objects → ComponentCounts c
none_count c same parent as_child around store =
    let none : length {A = ObjectDecl} [] < 1 = omega arith in
    let documents = of_none c [] same none in
    ap last_context (rooted_none c [] parent as_child around store same none) ∙ omega (arith, documents)

component_out : (file : List ℕ) (objects : List ObjectDecl) (sizes : Sizes) → (out-ComponentType (roll-ComponentType (record { file = file; objects = objects; sizes = sizes }))).objects ≡ objects
component_out file objects sizes = search (rules, the_lemmas)

object_out : (y : ObjectDecl-F Base ComponentType ObjectDecl) → (out-ObjectDecl (roll-ObjectDecl y)).base ≡ y.base
object_out y = search (rules, the_lemmas)

module _ (B C O : Type 0) (b : B → Base) (c : C → ComponentType) (o : O → ObjectDecl) (bases : (x : B) → BaseCounts (b x)) (components : (x : C) → ComponentCounts (c x)) (decls : (x : O) → ObjectCounts (o x)) where
  base_level : (y : Base-F B C O) → BaseCounts (roll-Base (map-Base B C O Base ComponentType ObjectDecl b c o y))
  base_level (Base-F.BuiltIn t) = subst BaseCounts (sym (base.rolls-BuiltIn t)) (built_in_counts t)
  base_level (Base-F.Document x) = subst BaseCounts (sym (base.rolls-Document (c x))) (document_counts (c x) (components x))

  component_level : (y : ComponentType-F B C O) → ComponentCounts (roll-ComponentType (map-ComponentType B C O Base ComponentType ObjectDecl b c o y))
  component_level y = by y.objects
    where
      by : (objects : List O) → ComponentCounts (roll-ComponentType (record { file = y.file; objects = map o objects; sizes = y.sizes }))
      by [] = none_count _ (sym (component_out y.file [] y.sizes))
      by (x ∷ objects) = some_count _ (o x) (map o objects) (sym (component_out y.file (o x ∷ map o objects) y.sizes)) (decls x)

  object_level : (y : ObjectDecl-F B C O) → ObjectCounts (roll-ObjectDecl (map-ObjectDecl B C O Base ComponentType ObjectDecl b c o y))
  object_level y = subst BaseCounts (sym (object_out (map-ObjectDecl B C O Base ComponentType ObjectDecl b c o y))) (bases y.base)

pub component_counts : (x : ComponentType) → ComponentCounts x
component_counts = ind-ComponentType BaseCounts ComponentCounts ObjectCounts
    (λ x y is. subst (λ l. BaseCounts (roll-Base l)) is (base_level _ _ _ (λ z. z.0) (λ z. z.0) (λ z. z.0) (λ z. z.1) (λ z. z.1) (λ z. z.1) y))
    (λ x y is. subst (λ l. ComponentCounts (roll-ComponentType l)) is (component_level _ _ _ (λ z. z.0) (λ z. z.0) (λ z. z.0) (λ z. z.1) (λ z. z.1) (λ z. z.1) y))
    (λ x y is. subst (λ l. ObjectCounts (roll-ObjectDecl l)) is (object_level _ _ _ (λ z. z.0) (λ z. z.0) (λ z. z.0) (λ z. z.1) (λ z. z.1) (λ z. z.1) y))

pub object_counts : (x : ObjectDecl) → ObjectCounts x
object_counts = ind-ObjectDecl BaseCounts ComponentCounts ObjectCounts
    (λ x y is. subst (λ l. BaseCounts (roll-Base l)) is (base_level _ _ _ (λ z. z.0) (λ z. z.0) (λ z. z.0) (λ z. z.1) (λ z. z.1) (λ z. z.1) y))
    (λ x y is. subst (λ l. ComponentCounts (roll-ComponentType l)) is (component_level _ _ _ (λ z. z.0) (λ z. z.0) (λ z. z.0) (λ z. z.1) (λ z. z.1) (λ z. z.1) y))
    (λ x y is. subst (λ l. ObjectCounts (roll-ObjectDecl l)) is (object_level _ _ _ (λ z. z.0) (λ z. z.0) (λ z. z.0) (λ z. z.1) (λ z. z.1) (λ z. z.1) y))
