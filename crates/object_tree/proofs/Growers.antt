-- Growers of components, one level at a time.
use Rattle.std.proofs.Common.{◌≡◌, ◌∙◌, ℕ, ◌-◌, ◌<◌, ◌≤◌, Bool, map, fold, drop, length, get_or, List, [], ◌∷◌, Option, None, Some, refl, sym, ap, subst, rules, arith}
use Rattle.type_table.specs.declared.built_in.BuiltIn.{BuiltIn}
use Rattle.qml_types.specs.declared.component.Base.{Base, roll-Base, map-Base, the_lemmas}
use Rattle.qml_types.specs.declared.component.Base.TheOpen.{Base-F, ComponentType-F, ObjectDecl-F}
use Rattle.qml_types.specs.declared.component.Base.TheVariants as base
use Rattle.qml_types.specs.declared.component.ComponentType.{ComponentType, out-ComponentType, roll-ComponentType, map-ComponentType, ind-ComponentType}
use Rattle.qml_types.specs.declared.component.ObjectDecl.{ObjectDecl, out-ObjectDecl, roll-ObjectDecl, map-ObjectDecl, ind-ObjectDecl}
use Rattle.qml_types.specs.declared.component.Sizes.{Sizes}
use Rattle.object_tree.specs.Growing.{Grower, BaseGrower, ComponentGrower, ObjectGrower, component_step, object_step, component_again, decl_in, component_grower, base_grower, object_grower, grower_of, grower_under, grown_by, built_in_grower, rooted_by, below_by, root_declared, next_serial, last_context, object_rooted, object_placed, object_grown, with_grown}
use Rattle.object_tree.specs.Store.{Store}

-- ---- what they are growers of
abbrev SameBase : Base → Type 0
SameBase b = (base_grower b).base ≡ b

abbrev SameComponent : ComponentType → Type 0
SameComponent c = (component_grower c).component ≡ c

abbrev SameDecl : ObjectDecl → Type 0
SameDecl o = (object_grower o).decl ≡ o

base_unrolled_b : (t : BuiltIn) → (base_grower (base.BuiltIn t)).base ≡ base.BuiltIn t
base_unrolled_b t = search (rules, the_lemmas)

base_unrolled_d : (c : ComponentType) → (base_grower (base.Document c)).base ≡ base.Document (component_grower c).component
base_unrolled_d c = search (rules, the_lemmas)

pub component_unrolled : (c : ComponentType) → component_grower c ≡ component_step (record { file = (out-ComponentType c).file; objects = map object_grower (out-ComponentType c).objects; sizes = (out-ComponentType c).sizes })
component_unrolled c = search (rules, the_lemmas)

pub object_unrolled : (o : ObjectDecl) →
    object_grower o ≡ object_step (map-ObjectDecl Base ComponentType ObjectDecl BaseGrower ComponentGrower ObjectGrower base_grower component_grower object_grower (out-ObjectDecl o))
object_unrolled o = search (rules, the_lemmas)

component_rolled : (file : List ℕ) (objects : List ObjectDecl) (sizes : Sizes) →
    component_grower (roll-ComponentType (record { file = file; objects = objects; sizes = sizes })) ≡ component_step (record { file = file; objects = map object_grower objects; sizes = sizes })
component_rolled file objects sizes = search (rules, the_lemmas)

object_rolled : (y : ObjectDecl-F Base ComponentType ObjectDecl) →
    object_grower (roll-ObjectDecl y) ≡ object_step (map-ObjectDecl Base ComponentType ObjectDecl BaseGrower ComponentGrower ObjectGrower base_grower component_grower object_grower y)
object_rolled y = search (rules, the_lemmas)

abbrev again : {B C O : Type 0} → ObjectDecl-F B C O → Base → Option ComponentType → ObjectDecl
again y b inner = roll-ObjectDecl (record {
  base = b;
  owner = y.owner;
  role = y.role;
  id = y.id;
  slots = y.slots;
  signals = y.signals;
  methods = y.methods;
  inits = y.inits;
  handlers = y.handlers;
  inner = inner;
  span = y.span;
})

module _ (B C O : Type 0) (b : B → Base) (c : C → ComponentType) (o : O → ObjectDecl) (bases : (x : B) → SameBase (b x)) (components : (x : C) → SameComponent (c x)) (decls : (x : O) → SameDecl (o x)) where
  decls_same : (xs : List O) → map decl_in (map object_grower (map o xs)) ≡ map o xs
  decls_same [] = refl
  decls_same (x ∷ xs) = λ i. decls x i ∷ decls_same xs i

  base_level : (y : Base-F B C O) → SameBase (roll-Base (map-Base B C O Base ComponentType ObjectDecl b c o y))
  base_level (Base-F.BuiltIn t) = subst SameBase (sym (base.rolls-BuiltIn t)) (base_unrolled_b t)
  base_level (Base-F.Document x) = subst SameBase (sym (base.rolls-Document (c x))) (base_unrolled_d (c x) ∙ ap (λ d. base.Document d) (components x))

  component_level : (y : ComponentType-F B C O) → SameComponent (roll-ComponentType (map-ComponentType B C O Base ComponentType ObjectDecl b c o y))
  component_level y =
      ap (λ (g : ComponentGrower). g.component) (component_rolled y.file (map o y.objects) y.sizes)
      ∙ ap (λ os. roll-ComponentType (record { file = y.file; objects = os; sizes = y.sizes })) (decls_same y.objects)

  object_level : (y : ObjectDecl-F B C O) → SameDecl (roll-ObjectDecl (map-ObjectDecl B C O Base ComponentType ObjectDecl b c o y))
  object_level y = within y.inner
    where
      within : (inner : Option C) → SameDecl (roll-ObjectDecl (map-ObjectDecl B C O Base ComponentType ObjectDecl b c o (record y { inner = inner })))
      within None =
          ap (λ (g : ObjectGrower). g.decl) (object_rolled (map-ObjectDecl B C O Base ComponentType ObjectDecl b c o (record y { inner = None })))
          ∙ (λ i. again y (bases y.base i) None)
      within (Some x) =
          ap (λ (g : ObjectGrower). g.decl) (object_rolled (map-ObjectDecl B C O Base ComponentType ObjectDecl b c o (record y { inner = Some x })))
          ∙ (λ i. again y (bases y.base i) (Some (components x i)))

pub same_component : (x : ComponentType) → SameComponent x
same_component = ind-ComponentType SameBase SameComponent SameDecl
    (λ x y is. subst (λ l. SameBase (roll-Base l)) is (base_level _ _ _ (λ z. z.0) (λ z. z.0) (λ z. z.0) (λ z. z.1) (λ z. z.1) (λ z. z.1) y))
    (λ x y is. subst (λ l. SameComponent (roll-ComponentType l)) is (component_level _ _ _ (λ z. z.0) (λ z. z.0) (λ z. z.0) (λ z. z.1) (λ z. z.1) (λ z. z.1) y))
    (λ x y is. subst (λ l. SameDecl (roll-ObjectDecl l)) is (object_level _ _ _ (λ z. z.0) (λ z. z.0) (λ z. z.0) (λ z. z.1) (λ z. z.1) (λ z. z.1) y))

pub same_decl : (x : ObjectDecl) → SameDecl x
same_decl = ind-ObjectDecl SameBase SameComponent SameDecl
    (λ x y is. subst (λ l. SameBase (roll-Base l)) is (base_level _ _ _ (λ z. z.0) (λ z. z.0) (λ z. z.0) (λ z. z.1) (λ z. z.1) (λ z. z.1) y))
    (λ x y is. subst (λ l. SameComponent (roll-ComponentType l)) is (component_level _ _ _ (λ z. z.0) (λ z. z.0) (λ z. z.0) (λ z. z.1) (λ z. z.1) (λ z. z.1) y))
    (λ x y is. subst (λ l. SameDecl (roll-ObjectDecl l)) is (object_level _ _ _ (λ z. z.0) (λ z. z.0) (λ z. z.0) (λ z. z.1) (λ z. z.1) (λ z. z.1) y))

-- ---- one level
pub grower_is : (c : ComponentType) → grower_of c ≡ grown_by c (map object_grower (out-ComponentType c).objects)
unfolding grower_of
grower_is c =
    let level = component_unrolled c in
    let self : component_again (record { file = (out-ComponentType c).file; objects = map object_grower (out-ComponentType c).objects; sizes = (out-ComponentType c).sizes }) ≡ c = ap (λ (g : ComponentGrower). g.component) (sym level) ∙ same_component c in
    ap (λ (g : ComponentGrower). g.grower) level ∙ ap (λ d. grown_by d (map object_grower (out-ComponentType c).objects)) self

pub base_is : (o : ObjectDecl) → (object_grower o).base ≡ grower_under (out-ObjectDecl o).base
unfolding grower_under
base_is o = ap (λ (g : ObjectGrower). g.base) (object_unrolled o)

pub document_grower : (c : ComponentType) → grower_under (base.Document c) ≡ grower_of c
unfolding grower_under grower_of
document_grower c = search (rules, the_lemmas)

pub built_in_is : (t : BuiltIn) → grower_under (base.BuiltIn t) ≡ built_in_grower t
unfolding grower_under
built_in_is t = search (rules, the_lemmas)

-- ---- the lists of a component's objects
pub rooted_none : (c : ComponentType) (objects : List ObjectDecl) (parent : ℕ) (as_child : Bool) (around : Option ℕ) (store : Store) →
    objects ≡ (out-ComponentType c).objects → length objects < 1 → (grower_of c).rooted parent as_child around store ≡ store
rooted_none c objects parent as_child around store same none =
    ap (λ (g : Grower). g.rooted parent as_child around store) (grower_is c) ∙ ap (λ os. rooted_by c (map object_grower os) parent as_child around store) (sym same) ∙ empty objects none
  where
    empty : (os : List ObjectDecl) → length os < 1 → rooted_by c (map object_grower os) parent as_child around store ≡ store
    empty [] few = refl
    empty (o ∷ os) few = absurd (omega arith)

abbrev root_made : ComponentType → ObjectDecl → Grower → ℕ → Bool → Option ℕ → Store → Store
root_made c root base parent as_child around store = root_declared c root around (next_serial store) (base.rooted parent as_child None store)

pub rooted_some : (c : ComponentType) (objects : List ObjectDecl) (root : ObjectDecl) (parent : ℕ) (as_child : Bool) (around : Option ℕ) (store : Store) →
    objects ≡ (out-ComponentType c).objects → 1 ≤ length objects → root ≡ get_or objects 0 root →
    root_declared c root around (next_serial store) ((grower_under (out-ObjectDecl root).base).rooted parent as_child None store) ≡ (grower_of c).rooted parent as_child around store
rooted_some c objects root parent as_child around store same some is =
    ap (λ g. root_made c root g parent as_child around store) (sym (base_is root))
    ∙ ap (λ d. root_made c d (object_grower root).base parent as_child around store) (sym (same_decl root))
    ∙ first objects some is
    ∙ ap (λ os. rooted_by c (map object_grower os) parent as_child around store) same
    ∙ sym (ap (λ (g : Grower). g.rooted parent as_child around store) (grower_is c))
  where
    first : (os : List ObjectDecl) → 1 ≤ length os → root ≡ get_or os 0 root →
        root_made c (object_grower root).decl (object_grower root).base parent as_child around store ≡ rooted_by c (map object_grower os) parent as_child around store
    first [] few is = absurd (omega arith)
    first (o ∷ os) few is = ap (λ (r : ObjectDecl). root_made c (object_grower r).decl (object_grower r).base parent as_child around store) is

pub below_none : (c : ComponentType) (objects : List ObjectDecl) (number serial : ℕ) (store : Store) →
    objects ≡ (out-ComponentType c).objects → length objects < 1 → (grower_of c).below number serial store ≡ store
below_none c objects number serial store same none =
    ap (λ (g : Grower). g.below number serial store) (grower_is c) ∙ ap (λ os. below_by c (map object_grower os) number serial store) (sym same) ∙ empty objects none
  where
    empty : (os : List ObjectDecl) → length os < 1 → below_by c (map object_grower os) number serial store ≡ store
    empty [] few = refl
    empty (o ∷ os) few = absurd (omega arith)

pub below_some : (c : ComponentType) (objects : List ObjectDecl) (root : ObjectDecl) (number serial : ℕ) (store : Store) →
    objects ≡ (out-ComponentType c).objects → 1 ≤ length objects → root ≡ get_or objects 0 root →
    fold (with_grown c number) ((grower_under (out-ObjectDecl root).base).below (number - 1) serial store) (map object_grower (drop 1 objects)) ≡ (grower_of c).below number serial store
below_some c objects root number serial store same some is =
    ap (λ (g : Grower). fold (with_grown c number) (g.below (number - 1) serial store) (map object_grower (drop 1 objects))) (sym (base_is root))
    ∙ first objects some is
    ∙ ap (λ os. below_by c (map object_grower os) number serial store) same
    ∙ sym (ap (λ (g : Grower). g.below number serial store) (grower_is c))
  where
    first : (os : List ObjectDecl) → 1 ≤ length os → root ≡ get_or os 0 root →
        fold (with_grown c number) ((object_grower root).base.below (number - 1) serial store) (map object_grower (drop 1 os)) ≡ below_by c (map object_grower os) number serial store
    first [] few is = absurd (omega arith)
    first (o ∷ os) few is = ap (λ (r : ObjectDecl). fold (with_grown c number) ((object_grower r).base.below (number - 1) serial store) (map object_grower os)) is

pub grown_is : (c : ComponentType) (number : ℕ) (store : Store) (o : ObjectDecl) →
    object_grown c number o (grower_under (out-ObjectDecl o).base) store ≡ with_grown c number store (object_grower o)
grown_is c number store o =
    ap (λ g. object_grown c number o g store) (sym (base_is o)) ∙ ap (λ d. object_grown c number d (object_grower o).base store) (sym (same_decl o))

steps_are : (c : ComponentType) (number : ℕ) (o : ObjectDecl) (base : Grower) (before : Store) →
    base.below (last_context (object_rooted number o base before)) (next_serial before) (object_placed c number o base before) ≡ object_grown c number o base before
unfolding object_grown
steps_are c number o base before = refl

pub object_steps : (c : ComponentType) (number last serial : ℕ) (before placed after : Store) (o : ObjectDecl) →
    serial ≡ next_serial before → last ≡ last_context (object_rooted number o (grower_under (out-ObjectDecl o).base) before) →
    placed ≡ object_placed c number o (grower_under (out-ObjectDecl o).base) before → after ≡ (grower_under (out-ObjectDecl o).base).below last serial placed →
    after ≡ with_grown c number before (object_grower o)
object_steps c number last serial before placed after o one two three four =
    let base = grower_under (out-ObjectDecl o).base in
    four
    ∙ ap (λ n. base.below n serial placed) two
    ∙ ap (λ n. base.below (last_context (object_rooted number o base before)) n placed) one
    ∙ ap (λ s. base.below (last_context (object_rooted number o base before)) (next_serial before) s) three
    ∙ steps_are c number o base before
    ∙ grown_is c number before o
