-- What is compiled keeps its sizes, where what is known keeps its own.
use Rattle.std.proofs.Common.{◌≡◌, ◌∙◌, ℕ, nat_eq, Bool, true, false, if◌then◌else◌, length, map, fold, Option, None, Some, Ok, List, [], ◌∷◌, ◌++◌, refl, sym, ap, subst, rules}
use Rattle.std.proofs.lemmas.List.Elements.{All-cons, All-head, All-nil, All-push, All-tail}
use Rattle.std.specs.Cmp.Lexicographic.{pointwise}
use Rattle.std.specs.List.{All, flat_map}
use Rattle.std.specs.Option.{option_map, option_or, unwrap_or}
use Rattle.type_table.specs.Names.{built_in_named}
use Rattle.type_table.specs.declared.built_in.BuiltIn.{BuiltIn}
use Rattle.type_table.specs.declared.built_in.BuiltIn.TheVariants as built_in
use Rattle.type_table.specs.declared.slot.Kind.{Kind}
use Rattle.qml_ast.specs.declared.decl.Decl.{Decl, ind-Decl, map-Decl, roll-Decl}
use Rattle.qml_ast.specs.declared.decl.Init.{Init, fold-roll-Init, map-Init, roll-Init}
use Rattle.qml_ast.specs.declared.decl.Init.{the_lemmas as the_lemmas_of_documents}
use Rattle.qml_ast.specs.declared.decl.Init.TheOpen.{Init-F, Member-F, Decl-F}
use Rattle.qml_ast.specs.declared.decl.Member.{Member, fold-roll-Member, map-Member, roll-Member}
use Rattle.qml_ast.specs.declared.document.Document.{Document}
use Rattle.qml_ast.specs.declared.fault.DocFault.{DocFault}
use Rattle.qml_ast.specs.declared.span.Span.{Span}
use Rattle.qml_types.specs.declared.component.Base.{Base, out-Base, the_lemmas}
use Rattle.qml_types.specs.declared.component.Base.TheOpen.{Base-F, ObjectDecl-F}
use Rattle.qml_types.specs.declared.component.Base.TheVariants as base
use Rattle.qml_types.specs.declared.component.ComponentType.{ComponentType, out-ComponentType}
use Rattle.qml_types.specs.declared.component.ObjectDecl.{ObjectDecl, out-ObjectDecl, roll-ObjectDecl}
use Rattle.qml_types.specs.declared.component.Role.TheVariants as role
use Rattle.qml_types.specs.Compiled.{answer, compiled, faults_of}
use Rattle.qml_types.specs.Faults.{told}
use Rattle.qml_types.specs.Known.{KnownTypes, known_type, type_named}
use Rattle.qml_types.specs.Parts.{Reading, Stand, Given, expression, object, Part, identity, property, signal, initialiser, handler, method, child}
use Rattle.qml_types.specs.Placed.{children_in, component_of, component_with, first_of_all, inner_of, object_of, with_given, with_object, with_part, within, wrapper_of}
use Rattle.qml_types.specs.Readings.{decl_step, given_of, init_step, member_step, part_of, reading_of, scope_of}
use Rattle.qml_types.specs.Rules.{is_plain_component, is_wrapped, is_component}
use Rattle.qml_types.specs.Scope.{Scope}
use Rattle.qml_types.specs.Sized.{AreSized, IsSized}
use Rattle.qml_types.specs.Sizes.{sizes_of}
use Rattle.qml_types.proofs.Counts.{BaseKeeps, InnerKeeps, ObjectKeeps, keeps_all}

-- ---- bases and objects
document_out : (component : ComponentType) → out-Base (base.Document component) ≡ Base-F.Document component
document_out component = search (rules, the_lemmas)

built_in_out : (t : BuiltIn) → out-Base (base.BuiltIn t) ≡ Base-F.BuiltIn t
built_in_out t = search (rules, the_lemmas)

document_keeps : (component : ComponentType) → IsSized component → BaseKeeps (base.Document component)
document_keeps component keeps other is =
    let same : component ≡ other = let e : Base-F.Document component ≡ Base-F.Document other = sym (document_out component) ∙ is in cc in
    subst IsSized same keeps

built_in_keeps : (t : BuiltIn) → BaseKeeps (base.BuiltIn t)
built_in_keeps t other is = let e : Base-F.BuiltIn t ≡ Base-F.Document other = sym (built_in_out t) ∙ is in absurd cc

object_out : (layer : ObjectDecl-F Base ComponentType ObjectDecl) → out-ObjectDecl (roll-ObjectDecl layer) ≡ layer
object_out layer = search (rules, the_lemmas)

object_keeps : (layer : ObjectDecl-F Base ComponentType ObjectDecl) → BaseKeeps layer.base → InnerKeeps layer.inner → ObjectKeeps (roll-ObjectDecl layer)
object_keeps layer b inner = record {
  base = subst (λ l. BaseKeeps l.base) (sym (object_out layer)) b;
  inner = subst (λ l. InnerKeeps l.inner) (sym (object_out layer)) inner;
}

objects_out : (file : List ℕ) (objects : List ObjectDecl) → out-ComponentType (component_with file objects) ≡ record { file = file; objects = objects; sizes = sizes_of objects }
objects_out file objects = search (rules, the_lemmas)

-- a component that has these objects
with_keeps : (file : List ℕ) (objects : List ObjectDecl) → All ObjectKeeps objects → IsSized (component_with file objects)
with_keeps file objects all =
    let out = objects_out file objects in
    keeps_all (component_with file objects)
    (ap (λ l. l.sizes) out ∙ sym (ap (λ l. sizes_of l.objects) out))
    (subst (λ l. All ObjectKeeps l.objects) (sym out) all)

-- ---- types
pub lookup_keeps : (known : KnownTypes) → AreSized known → (name : List ℕ) (component : ComponentType) → known_type known name ≡ Some component → IsSized component
lookup_keeps [] all name component is = absurd cc
lookup_keeps (entry ∷ known) all name component is =
    by (pointwise nat_eq name entry.0) refl (lookup_keeps known (All-tail (λ e. IsSized e.1) entry known all) name component)
  where
    by : (b : Bool) → pointwise nat_eq name entry.0 ≡ b → (known_type known name ≡ Some component → IsSized component) → IsSized component
    by true test rest =
        let found : Some entry.1 ≡ Some component = rw test at is in
        let same : entry.1 ≡ component = cc in
        subst IsSized same (All-head (λ e. IsSized e.1) entry known all)
    by false test rest =
        let left : known_type known name ≡ Some component = rw test at is in
        rest left

-- a type, if there is one
TypeKeeps : Option Base → Type 0
TypeKeeps type = (b : Base) → type ≡ Some b → BaseKeeps b

named_keeps : (known : KnownTypes) → AreSized known → (name : List ℕ) → TypeKeeps (type_named known name)
unfolding TypeKeeps type_named
named_keeps known all name = by (built_in_named name) (known_type known name) refl
  where
    by : (t : Option BuiltIn) (c : Option ComponentType) → known_type known name ≡ c → TypeKeeps (option_or (option_map (λ t. base.BuiltIn t) t) (option_map (λ c. base.Document c) c))
    by (Some t) c same b is = let e : base.BuiltIn t ≡ b = cc in subst BaseKeeps e (built_in_keeps t)
    by None None same b is = absurd cc
    by None (Some c) same b is = let e : base.Document c ≡ b = cc in subst BaseKeeps e (document_keeps c (lookup_keeps known all name c same))

or_plain_keeps : (type : Option Base) → TypeKeeps type → BaseKeeps (unwrap_or type (base.BuiltIn built_in.QtObject))
unfolding TypeKeeps
or_plain_keeps None all = built_in_keeps built_in.QtObject
or_plain_keeps (Some b) all = all b refl

-- ---- readings
-- the objects that are placed keep sizes
abbrev pub ReadingKeeps : Reading → Type 0
ReadingKeeps reading = (known : KnownTypes) → AreSized known → (stand : Stand) (objects : List ObjectDecl) → All ObjectKeeps objects → All ObjectKeeps (reading.placed known stand objects)

abbrev pub GivenKeeps : Given → Type 0
GivenKeeps (expression expr) = Unit {0}
GivenKeeps (object reading) = ReadingKeeps reading

abbrev pub PartKeeps : Part → Type 0
PartKeeps (property fixed k name (Some given) kind_at value_at at) = GivenKeeps given
PartKeeps (initialiser path given value_at at) = GivenKeeps given
PartKeeps (child reading) = ReadingKeeps reading
PartKeeps _ = Unit {0}

component_keeps : (known : KnownTypes) (file : List ℕ) (reading : Reading) → AreSized known → ReadingKeeps reading → IsSized (component_of known file reading)
unfolding component_of
component_keeps known file reading all keeps = with_keeps file _ (keeps known all _ [] (All-nil ObjectKeeps))

wrapper_keeps : (known : KnownTypes) (stand : Stand) (reading : Reading) → AreSized known → ReadingKeeps reading → ObjectKeeps (wrapper_of known stand reading)
unfolding wrapper_of
wrapper_keeps known stand reading all keeps =
    object_keeps _ (built_in_keeps built_in.Component)
    (λ inner is. let same : component_of known stand.file reading ≡ inner = cc in subst IsSized same (component_keeps known stand.file reading all keeps))

given_keeps : (known : KnownTypes) (k : Option Kind) (stand : Stand) (objects : List ObjectDecl) (given : Given) → AreSized known → GivenKeeps given → All ObjectKeeps objects →
    All ObjectKeeps (with_given known k stand objects given)
given_keeps known k stand objects (expression expr) all keeps so_far = so_far
given_keeps known k stand objects (object reading) all keeps so_far = by (is_wrapped known k reading)
  where
    by : (b : Bool) → All ObjectKeeps (if b then objects ++ (wrapper_of known stand reading ∷ []) else reading.placed known stand objects)
    by true = All-push ObjectKeeps objects (wrapper_of known stand reading) so_far (wrapper_keeps known stand reading all keeps)
    by false = keeps known all stand objects so_far

part_keeps : (scope : Scope) (file : List ℕ) (owner : ℕ) (objects : List ObjectDecl) (part : Part) → AreSized scope.known → PartKeeps part → All ObjectKeeps objects →
    All ObjectKeeps (with_part scope file owner objects part)
unfolding with_part
part_keeps scope file owner objects (identity name at) all keeps so_far = so_far
part_keeps scope file owner objects (property fixed k name None kind_at value_at at) all keeps so_far = so_far
part_keeps scope file owner objects (property fixed k name (Some given) kind_at value_at at) all keeps so_far = given_keeps scope.known _ _ objects given all keeps so_far
part_keeps scope file owner objects (signal name params at) all keeps so_far = so_far
part_keeps scope file owner objects (initialiser path given value_at at) all keeps so_far = given_keeps scope.known _ _ objects given all keeps so_far
part_keeps scope file owner objects (handler path body at) all keeps so_far = so_far
part_keeps scope file owner objects (method name params body at) all keeps so_far = so_far
part_keeps scope file owner objects (child reading) all keeps so_far = by (is_component scope.type)
  where
    by : (b : Bool) → All ObjectKeeps (if b then objects else reading.placed scope.known (within file owner role.Child) objects)
    by true = so_far
    by false = keeps scope.known all (within file owner role.Child) objects so_far

parts_keep : (scope : Scope) (file : List ℕ) (owner : ℕ) (parts : List Part) (objects : List ObjectDecl) → AreSized scope.known → All PartKeeps parts → All ObjectKeeps objects →
    All ObjectKeeps (fold (with_part scope file owner) objects parts)
parts_keep scope file owner [] objects all keep so_far = so_far
parts_keep scope file owner (part ∷ parts) objects all keep so_far =
    parts_keep scope file owner parts (with_part scope file owner objects part) all (All-tail PartKeeps part parts keep)
    (part_keeps scope file owner objects part all (All-head PartKeeps part parts keep) so_far)

-- the first child
child_keeps : (parts : List Part) → All PartKeeps parts → (reading : Reading) → first_of_all (flat_map children_in parts) ≡ Some reading → ReadingKeeps reading
child_keeps [] keep reading is = absurd cc
child_keeps (child first ∷ parts) keep reading is =
    let same : first ≡ reading = cc in
    subst ReadingKeeps same (All-head PartKeeps (child first) parts keep)
child_keeps (identity name at ∷ parts) keep reading is = child_keeps parts (All-tail PartKeeps _ parts keep) reading is
child_keeps (property fixed k name given kind_at value_at at ∷ parts) keep reading is = child_keeps parts (All-tail PartKeeps _ parts keep) reading is
child_keeps (signal name params at ∷ parts) keep reading is = child_keeps parts (All-tail PartKeeps _ parts keep) reading is
child_keeps (initialiser path given value_at at ∷ parts) keep reading is = child_keeps parts (All-tail PartKeeps _ parts keep) reading is
child_keeps (handler path body at ∷ parts) keep reading is = child_keeps parts (All-tail PartKeeps _ parts keep) reading is
child_keeps (method name params body at ∷ parts) keep reading is = child_keeps parts (All-tail PartKeeps _ parts keep) reading is

inner_keeps : (scope : Scope) (file : List ℕ) (parts : List Part) → AreSized scope.known → All PartKeeps parts → InnerKeeps (inner_of scope file parts)
inner_keeps scope file parts all keep inner is = by (is_plain_component scope.type) (first_of_all (flat_map children_in parts)) refl is
  where
    by : (b : Bool) (first : Option Reading) → first_of_all (flat_map children_in parts) ≡ first → (if b then option_map (component_of scope.known file) first else None) ≡ Some inner → IsSized inner
    by false first same made = absurd cc
    by true None same made = absurd cc
    by true (Some reading) same made =
        let e : component_of scope.known file reading ≡ inner = cc in
        subst IsSized e (component_keeps scope.known file reading all (child_keeps parts keep reading same))

object_of_keeps : (scope : Scope) (stand : Stand) (at : Span) (parts : List Part) → AreSized scope.known → TypeKeeps scope.type → All PartKeeps parts →
    ObjectKeeps (object_of scope stand at parts)
unfolding object_of
object_of_keeps scope stand at parts all type keep = object_keeps _ (or_plain_keeps scope.type type) (inner_keeps scope stand.file parts all keep)

with_object_keeps : (scope : Scope) (at : Span) (parts : List Part) (stand : Stand) (objects : List ObjectDecl) → AreSized scope.known → TypeKeeps scope.type → All PartKeeps parts →
    All ObjectKeeps objects → All ObjectKeeps (with_object scope at parts stand objects)
unfolding with_object
with_object_keeps scope at parts stand objects all type keep so_far =
    parts_keep scope stand.file (length objects) parts (objects ++ (object_of scope stand at parts ∷ [])) all keep
    (All-push ObjectKeeps objects (object_of scope stand at parts) so_far (object_of_keeps scope stand at parts all type keep))

-- ---- one level of a document
level_keeps : (name : List ℕ) (parts : List Part) (at : Span) → All PartKeeps parts → ReadingKeeps (decl_step (record { name = name; members = parts; span = at }))
level_keeps name parts at keep known all stand objects so_far =
    with_object_keeps (scope_of known name parts) at parts stand objects all (named_keeps known all name) keep so_far

reading_rolled : (layer : Decl-F Init Member Decl) → reading_of (roll-Decl layer) ≡ decl_step (record { name = layer.name; members = map part_of layer.members; span = layer.span })
reading_rolled layer = search (rules, the_lemmas_of_documents)

module _ (I M D : Type 0) (init : I → Init) (member : M → Member) (decl : D → Decl) (inits : (x : I) → GivenKeeps (given_of (init x))) (members : (x : M) → PartKeeps (part_of (member x)))
    (decls : (x : D) → ReadingKeeps (reading_of (decl x))) where
  members_keep : (xs : List M) → All PartKeeps (map part_of (map member xs))
  members_keep [] = All-nil PartKeeps
  members_keep (x ∷ xs) = All-cons PartKeeps (part_of (member x)) (map part_of (map member xs)) (members x) (members_keep xs)

  init_level : (y : Init-F I M D) → GivenKeeps (given_of (roll-Init (map-Init I M D Init Member Decl init member decl y)))
  init_level y = subst GivenKeeps (sym (fold-roll-Init Given Part Reading init_step member_step decl_step (map-Init I M D Init Member Decl init member decl y))) (by y)
    where
      by : (y : Init-F I M D) → GivenKeeps (init_step (map-Init Init Member Decl Given Part Reading given_of part_of reading_of (map-Init I M D Init Member Decl init member decl y)))
      by (Init-F.Expr x) = tt
      by (Init-F.Object x) = decls x

  member_level : (y : Member-F I M D) → PartKeeps (part_of (roll-Member (map-Member I M D Init Member Decl init member decl y)))
  member_level y = subst PartKeeps (sym (fold-roll-Member Given Part Reading init_step member_step decl_step (map-Member I M D Init Member Decl init member decl y))) (by y)
    where
      by : (y : Member-F I M D) → PartKeeps (member_step (map-Member Init Member Decl Given Part Reading given_of part_of reading_of (map-Member I M D Init Member Decl init member decl y)))
      by (Member-F.Id n at) = tt
      by (Member-F.Property fixed k n None a b c) = tt
      by (Member-F.Property fixed k n (Some x) a b c) = inits x
      by (Member-F.Signal n ps at) = tt
      by (Member-F.Init p x a b) = inits x
      by (Member-F.Handler p x at) = tt
      by (Member-F.Method n ps xs at) = tt
      by (Member-F.Child x) = decls x

  decl_level : (y : Decl-F I M D) → ReadingKeeps (reading_of (roll-Decl (map-Decl I M D Init Member Decl init member decl y)))
  decl_level y =
      subst ReadingKeeps (sym (reading_rolled (record { name = y.name; members = map member y.members; span = y.span })))
      (level_keeps y.name (map part_of (map member y.members)) y.span (members_keep y.members))

-- ---- whole documents
reading_keeps : (decl : Decl) → ReadingKeeps (reading_of decl)
reading_keeps = ind-Decl (λ x. GivenKeeps (given_of x)) (λ x. PartKeeps (part_of x)) (λ x. ReadingKeeps (reading_of x))
    (λ x y is. subst (λ l. GivenKeeps (given_of (roll-Init l))) is (init_level _ _ _ (λ z. z.0) (λ z. z.0) (λ z. z.0) (λ z. z.1) (λ z. z.1) (λ z. z.1) y))
    (λ x y is. subst (λ l. PartKeeps (part_of (roll-Member l))) is (member_level _ _ _ (λ z. z.0) (λ z. z.0) (λ z. z.0) (λ z. z.1) (λ z. z.1) (λ z. z.1) y))
    (λ x y is. subst (λ l. ReadingKeeps (reading_of (roll-Decl l))) is (decl_level _ _ _ (λ z. z.0) (λ z. z.0) (λ z. z.0) (λ z. z.1) (λ z. z.1) (λ z. z.1) y))

-- the component of a document's root
pub component_sized : (known : KnownTypes) (file : List ℕ) (decl : Decl) (component : ComponentType) → AreSized known → component ≡ component_of known file (reading_of decl) → IsSized component
component_sized known file decl component all is = subst IsSized (sym is) (component_keeps known file (reading_of decl) all (reading_keeps decl))

answered_keeps : (first : Option DocFault) (made component : ComponentType) → IsSized made → answer first made ≡ Ok component → IsSized component
answered_keeps None made component keeps is = let same : made ≡ component = cc in subst IsSized same keeps
answered_keeps (Some fault) made component keeps is = absurd cc

-- what a document is compiled to over types that keep their sizes
pub compiled_keeps : (file : List ℕ) (document : Document) (known : KnownTypes) (component : ComponentType) → AreSized known → compiled file document known ≡ Ok component → IsSized component
unfolding compiled
compiled_keeps file document known component all is =
    answered_keeps (told None (faults_of document known)) (component_of known file (reading_of document.root)) component
    (component_keeps known file (reading_of document.root) all (reading_keeps document.root)) is
