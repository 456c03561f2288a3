-- What a component type keeps is what one making of it makes, where the types below it keep what theirs make.
use Rattle.std.proofs.Common.{◌≡◌, ◌∙◌, ℕ, ◌+◌, ◌-◌, ◌^◌, ◌≤◌, min, max, map, Option, Some, List, [], ◌∷◌, ◌++◌, refl, sym, ap, rules, arith}
use Rattle.std.proofs.lemmas.List.Elements.{All-contains, All-head, All-tail, All-weaker}
use Rattle.std.proofs.lemmas.List.Sums.{sum_by-cons}
use Rattle.std.specs.List.{All, sum, sum_by}
use Rattle.qml_types.specs.declared.component.Base.{Base, out-Base, map-Base, fold-Base, fold_out-Base, the_lemmas}
use Rattle.qml_types.specs.declared.component.Base.TheOpen.{Base-F}
use Rattle.qml_types.specs.declared.component.ComponentType.{ComponentType, fold-ComponentType, out-ComponentType}
use Rattle.qml_types.specs.declared.component.ObjectDecl.{ObjectDecl, fold-ObjectDecl, out-ObjectDecl}
use Rattle.qml_types.specs.declared.component.Sizes.{Sizes}
use Rattle.qml_types.specs.Sized.{IsSized, sized}
use Rattle.qml_types.specs.Sizes.{base_objects, component_objects, object_objects, objects_made, base_contexts, component_contexts, contexts_made, Level, level_of, greatest, base_levels, component_levels, object_level, levels_made, sizes_made, sizes_on, layer_sizes, objects_on, contexts_on, level_on, sizes_of}
use Rattle.qml_types.proofs.Counting.{level_low}

-- ---- what stands below
-- the document on which what is made of this first stands keeps its sizes
abbrev pub BaseKeeps : Base → Type 0
BaseKeeps b = (document : ComponentType) → out-Base b ≡ Base-F.Document document → IsSized document

abbrev pub InnerKeeps : Option ComponentType → Type 0
InnerKeeps declared = (inner : ComponentType) → declared ≡ Some inner → IsSized inner

pub record ObjectKeeps (object : ObjectDecl) : Type 0 where
  pub base : BaseKeeps (out-ObjectDecl object).base
  pub inner : InnerKeeps (out-ObjectDecl object).inner

-- ---- one level of the definitions
abbrev layer_number : (ComponentType → ℕ) → ℕ → Base-F Base ComponentType ObjectDecl → ℕ
layer_number made alone (Base-F.BuiltIn t) = alone
layer_number made alone (Base-F.Document document) = made document

abbrev base_objects_made : Base → ℕ
base_objects_made = fold-Base ℕ ℕ ℕ base_objects component_objects object_objects

abbrev object_objects_made : ObjectDecl → ℕ
object_objects_made = fold-ObjectDecl ℕ ℕ ℕ base_objects component_objects object_objects

abbrev base_contexts_made : Base → ℕ
base_contexts_made = fold-Base ℕ ℕ ℕ base_contexts component_contexts object_objects

abbrev object_contexts_made : ObjectDecl → ℕ
object_contexts_made = fold-ObjectDecl ℕ ℕ ℕ base_contexts component_contexts object_objects

abbrev base_levels_made : Base → ℕ
base_levels_made = fold-Base ℕ ℕ Level base_levels component_levels object_level

abbrev object_level_made : ObjectDecl → Level
object_level_made = fold-ObjectDecl ℕ ℕ Level base_levels component_levels object_level

component_objects_made : (component : ComponentType) → objects_made component ≡ sum (map object_objects_made (out-ComponentType component).objects)
unfolding objects_made
component_objects_made component = search (rules, the_lemmas)

component_contexts_made : (component : ComponentType) → contexts_made component ≡ sum (map object_contexts_made (out-ComponentType component).objects) + 1
unfolding contexts_made
component_contexts_made component = search (rules, the_lemmas)

component_levels_made : (component : ComponentType) → levels_made component ≡ greatest [] (map object_level_made (out-ComponentType component).objects)
unfolding levels_made
component_levels_made component = search (rules, the_lemmas)

of_base_objects : (object : ObjectDecl) → object_objects_made object ≡ base_objects_made (out-ObjectDecl object).base
of_base_objects object = search (rules, the_lemmas)

of_base_contexts : (object : ObjectDecl) → object_contexts_made object ≡ base_contexts_made (out-ObjectDecl object).base
of_base_contexts object = search (rules, the_lemmas)

of_base_level : (object : ObjectDecl) → object_level_made object ≡ record { owner = (out-ObjectDecl object).owner; levels = base_levels_made (out-ObjectDecl object).base }
of_base_level object = search (rules, the_lemmas)

objects_layer : (b : Base) → base_objects_made b ≡ layer_number objects_made 1 (out-Base b)
unfolding objects_made
objects_layer b = fold_out-Base ℕ ℕ ℕ base_objects component_objects object_objects b ∙ by (out-Base b)
  where
    by : (y : Base-F Base ComponentType ObjectDecl) →
        base_objects (map-Base Base ComponentType ObjectDecl ℕ ℕ ℕ base_objects_made (fold-ComponentType ℕ ℕ ℕ base_objects component_objects object_objects) object_objects_made y)
        ≡ layer_number (fold-ComponentType ℕ ℕ ℕ base_objects component_objects object_objects) 1 y
    by (Base-F.BuiltIn t) = refl
    by (Base-F.Document d) = refl

contexts_layer : (b : Base) → base_contexts_made b ≡ layer_number contexts_made 0 (out-Base b)
unfolding contexts_made
contexts_layer b = fold_out-Base ℕ ℕ ℕ base_contexts component_contexts object_objects b ∙ by (out-Base b)
  where
    by : (y : Base-F Base ComponentType ObjectDecl) →
        base_contexts (map-Base Base ComponentType ObjectDecl ℕ ℕ ℕ base_contexts_made (fold-ComponentType ℕ ℕ ℕ base_contexts component_contexts object_objects) object_contexts_made y)
        ≡ layer_number (fold-ComponentType ℕ ℕ ℕ base_contexts component_contexts object_objects) 0 y
    by (Base-F.BuiltIn t) = refl
    by (Base-F.Document d) = refl

levels_layer : (b : Base) → base_levels_made b ≡ layer_number levels_made 1 (out-Base b)
unfolding levels_made
levels_layer b = fold_out-Base ℕ ℕ Level base_levels component_levels object_level b ∙ by (out-Base b)
  where
    by : (y : Base-F Base ComponentType ObjectDecl) →
        base_levels (map-Base Base ComponentType ObjectDecl ℕ ℕ Level base_levels_made (fold-ComponentType ℕ ℕ Level base_levels component_levels object_level) object_level_made y)
        ≡ layer_number (fold-ComponentType ℕ ℕ Level base_levels component_levels object_level) 1 y
    by (Base-F.BuiltIn t) = refl
    by (Base-F.Document d) = refl

-- ---- one base
pub kept_sizes : (component : ComponentType) → IsSized component → (out-ComponentType component).sizes ≡ sizes_made component
kept_sizes component (sized _ keeps bases inners) = keeps

pub kept_objects : (component : ComponentType) → IsSized component → (out-ComponentType component).sizes.objects ≡ min (objects_made component) (2 ^ 64 - 1)
unfolding sizes_made
kept_objects component keeps = ap (λ s. s.objects) (kept_sizes component keeps)

pub kept_contexts : (component : ComponentType) → IsSized component → (out-ComponentType component).sizes.contexts ≡ min (contexts_made component) (2 ^ 64 - 1)
unfolding sizes_made
kept_contexts component keeps = ap (λ s. s.contexts) (kept_sizes component keeps)

pub kept_levels : (component : ComponentType) → IsSized component → (out-ComponentType component).sizes.levels ≡ min (levels_made component) (2 ^ 32 - 1)
unfolding sizes_made
kept_levels component keeps = ap (λ s. s.levels) (kept_sizes component keeps)

-- the sizes of a base are those of what is made of it
base_objects_kept : (b : Base) → BaseKeeps b → (sizes_on b).objects ≡ min (base_objects_made b) (2 ^ 64 - 1)
unfolding sizes_on
base_objects_kept b keeps = by (out-Base b) keeps ∙ ap (λ n. min n (2 ^ 64 - 1)) (sym (objects_layer b))
  where
    by : (y : Base-F Base ComponentType ObjectDecl) → ((document : ComponentType) → y ≡ Base-F.Document document → IsSized document) →
        (layer_sizes y).objects ≡ min (layer_number objects_made 1 y) (2 ^ 64 - 1)
    by (Base-F.BuiltIn t) all = refl
    by (Base-F.Document d) all = kept_objects d (all d refl)

base_contexts_kept : (b : Base) → BaseKeeps b → (sizes_on b).contexts ≡ min (base_contexts_made b) (2 ^ 64 - 1)
unfolding sizes_on
base_contexts_kept b keeps = by (out-Base b) keeps ∙ ap (λ n. min n (2 ^ 64 - 1)) (sym (contexts_layer b))
  where
    by : (y : Base-F Base ComponentType ObjectDecl) → ((document : ComponentType) → y ≡ Base-F.Document document → IsSized document) →
        (layer_sizes y).contexts ≡ min (layer_number contexts_made 0 y) (2 ^ 64 - 1)
    by (Base-F.BuiltIn t) all = refl
    by (Base-F.Document d) all = kept_contexts d (all d refl)

base_levels_kept : (b : Base) → BaseKeeps b → (sizes_on b).levels ≡ min (base_levels_made b) (2 ^ 32 - 1)
unfolding sizes_on
base_levels_kept b keeps = by (out-Base b) keeps ∙ ap (λ n. min n (2 ^ 32 - 1)) (sym (levels_layer b))
  where
    by : (y : Base-F Base ComponentType ObjectDecl) → ((document : ComponentType) → y ≡ Base-F.Document document → IsSized document) →
        (layer_sizes y).levels ≡ min (layer_number levels_made 1 y) (2 ^ 32 - 1)
    by (Base-F.BuiltIn t) all = refl
    by (Base-F.Document d) all = kept_levels d (all d refl)

-- ---- sums and levels of all objects
capped_sum : (a b r s most : ℕ) → a ≡ min b most → min r most ≡ min s most → min (a + r) most ≡ min (b + s) most
capped_sum a b r s most one rest = omega arith

sums_kept : (f g : ObjectDecl → ℕ) (most : ℕ) (objects : List ObjectDecl) → All (λ o. f o ≡ min (g o) most) objects →
    min (sum_by f objects) most ≡ min (sum (map g objects)) most
sums_kept f g most [] all = refl
sums_kept f g most (o ∷ os) all =
    let P : ObjectDecl → Type 0 = λ x. f x ≡ min (g x) most in
    ap (λ n. min n most) (sum_by-cons f o os)
    ∙ (capped_sum (f o) (g o) (sum_by f os) (sum (map g os)) most (All-head P o os all) (sums_kept f g most os (All-tail P o os all))
    ∙ ap (λ n. min n most) (sym (sum_by-cons (λ n. n) (g o) (map g os))))

level_capped : (level a b r s most : ℕ) → 1 ≤ level → a ≡ min b most → min r most ≡ min s most →
    min (max (level + a - 1) r) most ≡ min (max (level + b - 1) s) most
level_capped level a b r s most low one rest = omega arith

levels_kept : (objects : List ObjectDecl) (before : List ℕ) → All (λ o. (sizes_on (out-ObjectDecl o).base).levels ≡ min (base_levels_made (out-ObjectDecl o).base) (2 ^ 32 - 1)) objects →
    min (greatest before (map level_on objects)) (2 ^ 32 - 1) ≡ min (greatest before (map object_level_made objects)) (2 ^ 32 - 1)
levels_kept [] before all = refl
levels_kept (o ∷ os) before all =
    let P : ObjectDecl → Type 0 = λ x. (sizes_on (out-ObjectDecl x).base).levels ≡ min (base_levels_made (out-ObjectDecl x).base) (2 ^ 32 - 1) in
    let level = level_of before (out-ObjectDecl o).owner in
    let after = before ++ (level ∷ []) in
    let b = (out-ObjectDecl o).base in
    level_capped level (sizes_on b).levels (base_levels_made b) (greatest after (map level_on os)) (greatest after (map object_level_made os)) (2 ^ 32 - 1)
    (level_low before (out-ObjectDecl o).owner) (All-head P o os all) (levels_kept os after (All-tail P o os all))
    ∙ ap (λ l. min (greatest before (l ∷ map object_level_made os)) (2 ^ 32 - 1)) (sym (of_base_level o))

one_more : (a b most : ℕ) → min a most ≡ min b most → min (a + 1) most ≡ min (b + 1) most
one_more a b most same = omega arith

-- ---- a component
made_sizes : (component : ComponentType) (a b c : ℕ) → a ≡ min (objects_made component) (2 ^ 64 - 1) → b ≡ min (contexts_made component) (2 ^ 64 - 1) →
    c ≡ min (levels_made component) (2 ^ 32 - 1) → ◌≡◌ {A = Sizes} (record { objects = a; contexts = b; levels = c }) (sizes_made component)
unfolding sizes_made
made_sizes component a b c x y z = λ i. record { objects = x i; contexts = y i; levels = z i }

counted : (component : ComponentType) → All ObjectKeeps (out-ComponentType component).objects → sizes_of (out-ComponentType component).objects ≡ sizes_made component
unfolding sizes_of
counted component all =
    let objects = (out-ComponentType component).objects in
    made_sizes component _ _ _
    (sums_kept objects_on object_objects_made (2 ^ 64 - 1) objects
    (All-weaker ObjectKeeps (λ o. objects_on o ≡ min (object_objects_made o) (2 ^ 64 - 1))
    (λ o keeps. base_objects_kept (out-ObjectDecl o).base keeps.base ∙ ap (λ n. min n (2 ^ 64 - 1)) (sym (of_base_objects o))) objects all)
    ∙ ap (λ n. min n (2 ^ 64 - 1)) (sym (component_objects_made component)))
    (one_more (sum_by contexts_on objects) (sum (map object_contexts_made objects)) (2 ^ 64 - 1)
    (sums_kept contexts_on object_contexts_made (2 ^ 64 - 1) objects
    (All-weaker ObjectKeeps (λ o. contexts_on o ≡ min (object_contexts_made o) (2 ^ 64 - 1))
    (λ o keeps. base_contexts_kept (out-ObjectDecl o).base keeps.base ∙ ap (λ n. min n (2 ^ 64 - 1)) (sym (of_base_contexts o))) objects all))
    ∙ ap (λ n. min n (2 ^ 64 - 1)) (sym (component_contexts_made component)))
    (levels_kept objects []
    (All-weaker ObjectKeeps (λ o. (sizes_on (out-ObjectDecl o).base).levels ≡ min (base_levels_made (out-ObjectDecl o).base) (2 ^ 32 - 1))
    (λ o keeps. base_levels_kept (out-ObjectDecl o).base keeps.base) objects all)
    ∙ ap (λ n. min n (2 ^ 32 - 1)) (sym (component_levels_made component)))

-- a component type that keeps the sizes of its objects' types, where those keep theirs
pub keeps_all : (component : ComponentType) → (out-ComponentType component).sizes ≡ sizes_of (out-ComponentType component).objects →
    All ObjectKeeps (out-ComponentType component).objects → IsSized component
keeps_all component is all =
    let objects = (out-ComponentType component).objects in
    sized component (is ∙ counted component all)
    (λ object document among stands. (All-contains ObjectKeeps objects object all among).base document stands)
    (λ object inner among declares. (All-contains ObjectKeeps objects object all among).inner inner declares)
