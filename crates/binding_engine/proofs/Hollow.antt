-- A store without what its places hold: what names stand for, and the expressions of places, depend on no more.
use Rattle.std.proofs.Common.{◌≡◌, ℕ, zero, suc, ◌+◌, Bool, true, false, List, [], ◌∷◌, ◌++◌, map, length, refl, sym, ap, ◌∙◌}
use Rattle.std.specs.Prelude.{Option, None, Some, is_some, option_and_then, option_map, if◌then◌else◌, slice_get, slice_set, nat_lt, ◌-◌, ◌^◌}
use Rattle.std.specs.Option.{option_or}
use Rattle.std.specs.Map.{lookup, set_value, keys_of}
use Rattle.std.specs.BTreeMap.{is_at}
use Rattle.std.specs.Ordering.{nat_cmp}
use Rattle.arena.specs.Arena.{thing_at, with_thing}
use Rattle.type_table.specs.declared.slot.Kind.{Kind}
use Rattle.type_table.specs.declared.slot.Kind.TheVariants as kind
use Rattle.type_table.specs.declared.slot.SlotInfo.{SlotInfo}
use Rattle.qml_ast.specs.declared.place.Place.{Place}
use Rattle.qml_ast.specs.declared.place.Side.{Side}
use Rattle.qml_ast.specs.declared.place.Side.TheVariants.{Set, Shown}
use Rattle.qml_ast.specs.declared.value.Value.{Value}
use Rattle.qml_ast.specs.declared.value.Value.TheVariants as value
use Rattle.expr_eval.specs.Trees.{Tree, tree}
use Rattle.expr_eval.specs.declared.found.Found.{Found}
use Rattle.expr_eval.specs.declared.found.Found.TheVariants as found
use Rattle.expr_eval.specs.declared.found.Frame.{Frame}
use Rattle.expr_eval.specs.declared.found.GroupName.{GroupName}
use Rattle.item_equations.specs.Asking.{as_tree}
use Rattle.item_equations.specs.Native as items
use Rattle.item_equations.specs.declared.native.Native.{Native}
use Rattle.object_tree.specs.declared.context.Context.{Context}
use Rattle.object_tree.specs.declared.instance.Instance.{Instance}
use Rattle.object_tree.specs.declared.property.Binding.{Binding}
use Rattle.object_tree.specs.declared.property.Held.{Held}
use Rattle.object_tree.specs.declared.property.Marks.{Marks}
use Rattle.object_tree.specs.declared.property.Property.{Property}
use Rattle.object_tree.specs.Growing.{context_at}
use Rattle.object_tree.specs.Handlers.{method_numbered, function_of, callable_at}
use Rattle.object_tree.specs.Looking.{member_named, member_in, member_of, or_none, id_found, member_at, root_of, root_member, found_here, found_in, global_named, looked_up}
use Rattle.object_tree.specs.Names.{named}
use Rattle.object_tree.specs.Places.{side_of, places_in_slot, places_from, places_in, places_under, places_of}
use Rattle.object_tree.specs.Properties.{held_of, binding_of, with_value, with_marks, restarted}
use Rattle.object_tree.specs.Reading.{instance_at, property_at, is_place, is_live, item_parent_at, owned_by, is_given_at, value_read, binding_at, info_in, info_at}
use Rattle.object_tree.specs.Store.{Store}
use Rattle.object_tree.specs.Taking.{taken, component_at}
use Rattle.object_tree.specs.Writing.{with_item, with_instance, with_property, with_slot, kept, marked, restarted_first, restarted_instance, restarted_up_to, ended}
use Rattle.binding_engine.specs.Equations.{shape_of, given, taken_in, bound_tree, family_of, native_tree, native_in, native_at, has_owner, equation_by, equation}

abbrev nothing : Held
nothing = record { value = value.Obj 0; marks = record { suspended = false; fault = None } }

abbrev emptied : Held → Held
emptied held = nothing

abbrev hollow_slot : Property → Property
hollow_slot p = record p { set = option_map emptied p.set; shown = nothing; written_in = 0; before = None }

abbrev hollow : Instance → Instance
hollow i = record i { properties = map hollow_slot i.properties }

abbrev hollow_things : List (ℕ × Instance) → List (ℕ × Instance)
hollow_things es = map (λ e. (e.0, hollow e.1)) es

abbrev pub hollowed : Store → Store
hollowed store = record store { objects = record store.objects { things = hollow_things store.objects.things }; settle = 0; ignored = [] }

-- ---- writes to what places hold leave the hollow store
abbrev Hollows : (Property → Property) → Type 0
Hollows f = (p : Property) → hollow_slot (f p) ≡ hollow_slot p

module _ (f : Property → Property) (same : Hollows f) where
  set_hollow : (xs : List Property) (i : ℕ) (x : Property) → slice_get xs i ≡ Some x → map hollow_slot (slice_set xs i (f x)) ≡ map hollow_slot xs
  set_hollow [] i x h = refl
  set_hollow (y ∷ ys) zero x h = let one : y ≡ x = cc in ap (λ z. z ∷ map hollow_slot ys) (same x ∙ ap hollow_slot (sym one))
  set_hollow (y ∷ ys) (suc i) x h = ap (λ zs. hollow_slot y ∷ zs) (set_hollow ys i x h)

  item_hollow : (xs : List Property) (i : ℕ) → map hollow_slot (with_item f i xs) ≡ map hollow_slot xs
  item_hollow xs i = by (slice_get xs i) refl
    where
      by : (o : Option Property) → slice_get xs i ≡ o → map hollow_slot (elim o [ None ↦ xs | Some x ↦ slice_set xs i (f x) ]) ≡ map hollow_slot xs
      by None h = refl
      by (Some x) h = set_hollow xs i x h

  property_hollow : (slot : ℕ) (i : Instance) → hollow (with_property f slot i) ≡ hollow i
  property_hollow slot i = ap (λ (ps : List Property). record i { properties = ps }) (item_hollow i.properties slot)

abbrev HollowsObject : (Instance → Instance) → Type 0
HollowsObject f = (i : Instance) → hollow (f i) ≡ hollow i

module _ (f : Instance → Instance) (same : HollowsObject f) where
  things_hollow : (es : List (ℕ × Instance)) (n : ℕ) (x : Instance) → lookup (is_at (nat_cmp n)) es ≡ Some x → hollow_things (set_value (is_at (nat_cmp n)) es (f x)) ≡ hollow_things es
  things_hollow [] n x h = refl
  things_hollow (e ∷ es) n x h = by (is_at (nat_cmp n) e.0) refl (λ g. things_hollow es n x g)
    where
      by : (b : Bool) → is_at (nat_cmp n) e.0 ≡ b → (lookup (is_at (nat_cmp n)) es ≡ Some x → hollow_things (set_value (is_at (nat_cmp n)) es (f x)) ≡ hollow_things es) →
          hollow_things (set_value (is_at (nat_cmp n)) (e ∷ es) (f x)) ≡ hollow_things (e ∷ es)
      by true is rest =
          let found : Some e.1 ≡ Some x = rw is at h in
          let one : e.1 ≡ x = cc in
          rw is (ap (λ (i : Instance). (e.0, i) ∷ hollow_things es) (same x ∙ ap hollow (sym one)))
      by false is rest = rw is (ap (λ xs. (e.0, hollow e.1) ∷ xs) (rest (rw is at h)))

  pub instance_hollow : (n : ℕ) (store : Store) → hollowed (with_instance f n store) ≡ hollowed store
  instance_hollow n store = by (thing_at n store.objects) refl
    where
      by : (o : Option Instance) → thing_at n store.objects ≡ o → hollowed (record store { objects = elim o [ None ↦ store.objects | Some x ↦ with_thing n store.objects (f x) ] }) ≡ hollowed store
      by None h = refl
      by (Some x) h = ap (λ (es : List (ℕ × Instance)). record (hollowed store) { objects = record store.objects { things = es } }) (things_hollow store.objects.things n x h)

slot_hollow : (f : Property → Property) → Hollows f → (serial slot : ℕ) (store : Store) → hollowed (with_slot f serial slot store) ≡ hollowed store
slot_hollow f same serial slot store = instance_hollow (with_property f slot) (property_hollow f same slot) serial store

emptied_twice : (g : Held → Held) (o : Option Held) → option_map emptied (option_map g o) ≡ option_map emptied o
emptied_twice g None = refl
emptied_twice g (Some h) = refl

value_hollow : (settle : ℕ) (v : Value) (side : Side) → Hollows (with_value settle side v)
value_hollow settle v Set p = ap (λ (o : Option Held). record (hollow_slot p) { set = o }) (emptied_twice (λ held. record held { value = v }) p.set)
value_hollow settle v Shown p = refl

marks_hollow : (m : Marks) (side : Side) → Hollows (with_marks side m)
marks_hollow m Set p = ap (λ (o : Option Held). record (hollow_slot p) { set = o }) (emptied_twice (λ held. record held { marks = m }) p.set)
marks_hollow m Shown p = refl

pub kept_hollow : (p : Place) (v : Value) (store : Store) → hollowed (kept p v store) ≡ hollowed store
kept_hollow p v store = slot_hollow (with_value store.settle p.side v) (value_hollow store.settle v p.side) p.serial p.slot store

pub marked_hollow : (p : Place) (m : Marks) (store : Store) → hollowed (marked p m store) ≡ hollowed store
marked_hollow p m store = slot_hollow (with_marks p.side m) (marks_hollow m p.side) p.serial p.slot store

first_hollow : (n : ℕ) (i : Instance) → hollow (restarted_first n i) ≡ hollow i
first_hollow zero i = refl
first_hollow (suc n) i = property_hollow restarted (λ p. refl) n (restarted_first n i) ∙ first_hollow n i

up_to_hollow : (n : ℕ) (store : Store) → hollowed (restarted_up_to n store) ≡ hollowed store
up_to_hollow zero store = refl
up_to_hollow (suc n) store = instance_hollow restarted_instance (λ i. first_hollow (length i.properties) i) (suc n) (restarted_up_to n store) ∙ up_to_hollow n store

pub ended_hollow : (store : Store) → hollowed (ended store) ≡ hollowed store
unfolding ended
ended_hollow store = by (nat_lt store.settle (2 ^ 64 - 1)) refl
  where
    by : (b : Bool) → nat_lt store.settle (2 ^ 64 - 1) ≡ b → hollowed (if b then record store { settle = store.settle + 1 } else record (restarted_up_to store.objects.last store) { settle = 1 }) ≡ hollowed store
    by true e = refl
    by false e = up_to_hollow store.objects.last store

-- ---- what the hollow store has as the store
found_hollow : (test : ℕ → Bool) (es : List (ℕ × Instance)) → lookup test (hollow_things es) ≡ option_map hollow (lookup test es)
found_hollow test [] = refl
found_hollow test (e ∷ es) = by (test e.0) refl (found_hollow test es)
  where
    by : (b : Bool) → test e.0 ≡ b → lookup test (hollow_things es) ≡ option_map hollow (lookup test es) → lookup test (hollow_things (e ∷ es)) ≡ option_map hollow (lookup test (e ∷ es))
    by true is rest = rw is refl
    by false is rest = rw is rest

module _ (store : Store) where
  abbrev bare : Store
  bare = hollowed store

  object : (n : ℕ) → instance_at n bare ≡ option_map hollow (instance_at n store)
  object n = found_hollow (is_at (nat_cmp n)) store.objects.things

  -- whatever asks an object for no slot answers the same
  asked : {A : Type 0} (ask : Option Instance → A) → ((i : Instance) → ask (Some (hollow i)) ≡ ask (Some i)) → (n : ℕ) → ask (instance_at n bare) ≡ ask (instance_at n store)
  asked {A} ask each n = ap ask (object n) ∙ by (instance_at n store)
    where
      by : (o : Option Instance) → ask (option_map hollow o) ≡ ask o
      by None = refl
      by (Some i) = each i

  live : (n : ℕ) → is_live n bare ≡ is_live n store
  live n = asked is_some (λ i. refl) n

  read_value : (v : Value) → value_read bare v ≡ value_read store v
  read_value (value.Int x) = refl
  read_value (value.Bool b) = refl
  read_value (value.Str t) = refl
  read_value (value.Color c) = refl
  read_value (value.Obj n) = ap (λ (b : Bool). if b then value.Obj n else value.Obj 0) (live n)
  read_value (value.Line None) = refl
  read_value (value.Line (Some line)) = ap (λ (b : Bool). if b then value.Line (Some line) else value.Line None) (live line.serial)

  member_here : (n : ℕ) (name : List ℕ) → member_at n name bare ≡ member_at n name store
  member_here n name = asked (option_and_then (member_named n name)) (λ i. refl) n

  in_group : (n : ℕ) (g : Option GroupName) (name : List ℕ) (i : Instance) → member_in n g name (hollow i) ≡ member_in n g name i
  in_group n None name i = refl
  in_group n (Some g) name i = refl

  members : (n : ℕ) (g : Option GroupName) (name : List ℕ) → member_of n g name bare ≡ member_of n g name store
  unfolding member_of
  members n g name = ap or_none (asked (option_and_then (member_in n g name)) (in_group n g name) n)

  ids : (name : List ℕ) (context : Context) → id_found name context bare ≡ id_found name context store
  ids name context = ap (λ (f : ℕ → Found). option_map f (named name context.ids)) (λ i n. if live n i then found.Object n else found.Object 0)

  roots : (name : List ℕ) (context : Context) → root_member name context bare ≡ root_member name context store
  roots name context = by (root_of context)
    where
      by : (o : Option ℕ) → option_and_then (λ n. member_at n name bare) o ≡ option_and_then (λ n. member_at n name store) o
      by None = refl
      by (Some n) = member_here n name

  here : (name : List ℕ) (scope : ℕ) (context : Context) → found_here name scope context bare ≡ found_here name scope context store
  here name scope context = λ i. option_or (ids name context i) (option_or (member_here scope name i) (roots name context i))

  inside : (left : ℕ) (name : List ℕ) (scope : ℕ) (number : Option ℕ) → found_in left name scope number bare ≡ found_in left name scope number store
  inside zero name scope number = refl
  inside (suc left) name scope None = refl
  inside (suc left) name scope (Some number) = by (context_at number store) refl (inside left name scope)
    where
      by : (o : Option Context) → context_at number store ≡ o → ((around : Option ℕ) → found_in left name scope around bare ≡ found_in left name scope around store) →
          found_in (suc left) name scope (Some number) bare ≡ found_in (suc left) name scope (Some number) store
      by None e rest = rw e refl
      by (Some context) e rest = rw e (λ i. option_or (here name scope context i) (rest context.around i))

  looks : (frame : Frame) (name : List ℕ) → looked_up frame name bare ≡ looked_up frame name store
  unfolding looked_up
  looks frame name = ap (λ (o : Option Found). elim o [ None ↦ global_named name | Some f ↦ f ]) (inside (length store.contexts) name frame.scope (Some frame.context))

  callables : (n number : ℕ) → callable_at n number bare ≡ callable_at n number store
  callables n number = asked (λ (o : Option Instance). option_and_then function_of (option_and_then (method_numbered n number) o)) (λ i. refl) n

  shapes : shape_of bare ≡ shape_of store
  shapes = λ i. record {
    look = λ frame name. looks frame name i;
    member = λ n g name. members n g name i;
    method = λ n number. callables n number i;
    as_read = λ v. read_value v i;
  }

  -- slots
  item : (xs : List Property) (k : ℕ) → slice_get (map hollow_slot xs) k ≡ option_map hollow_slot (slice_get xs k)
  item [] k = refl
  item (x ∷ xs) zero = refl
  item (x ∷ xs) (suc k) = item xs k

  slot : (n k : ℕ) → property_at n k bare ≡ option_map hollow_slot (property_at n k store)
  slot n k = ap (option_and_then (λ (i : Instance). slice_get i.properties k)) (object n) ∙ by (instance_at n store)
    where
      by : (o : Option Instance) → option_and_then (λ (i : Instance). slice_get i.properties k) (option_map hollow o) ≡ option_map hollow_slot (option_and_then (λ (i : Instance). slice_get i.properties k) o)
      by None = refl
      by (Some i) = item i.properties k

  some_emptied : (o : Option Held) → is_some (option_map emptied o) ≡ is_some o
  some_emptied None = refl
  some_emptied (Some h) = refl

  side_held : (side : Side) (p : Property) → is_some (held_of side (hollow_slot p)) ≡ is_some (held_of side p)
  side_held Set p = some_emptied p.set
  side_held Shown p = refl

  placed : (q : Place) → is_place q bare ≡ is_place q store
  placed q = ap (λ o. is_some (option_and_then (held_of q.side) o)) (slot q.serial q.slot) ∙ by (property_at q.serial q.slot store)
    where
      by : (o : Option Property) → is_some (option_and_then (held_of q.side) (option_map hollow_slot o)) ≡ is_some (option_and_then (held_of q.side) o)
      by None = refl
      by (Some p) = side_held q.side p

  side_bound : (side : Side) (p : Property) → binding_of side (hollow_slot p) ≡ binding_of side p
  side_bound Set p = ap (λ (b : Bool). if b then p.binding else None) (some_emptied p.set)
  side_bound Shown p = ap (λ (b : Bool). if (if b then false else true) then p.binding else None) (some_emptied p.set)

  bound : (q : Place) → binding_at q bare ≡ binding_at q store
  bound q = ap (option_and_then (binding_of q.side)) (slot q.serial q.slot) ∙ by (property_at q.serial q.slot store)
    where
      by : (o : Option Property) → option_and_then (binding_of q.side) (option_map hollow_slot o) ≡ option_and_then (binding_of q.side) o
      by None = refl
      by (Some p) = side_bound q.side p

  infos : (q : Place) → info_at q bare ≡ info_at q store
  infos q = ap (option_and_then (λ (i : Instance). option_map (info_in i) (slice_get i.properties q.slot))) (object q.serial) ∙ by (instance_at q.serial store)
    where
      each : (i : Instance) (o : Option Property) → option_map (info_in (hollow i)) (option_map hollow_slot o) ≡ option_map (info_in i) o
      each i None = refl
      each i (Some p) = refl

      by : (o : Option Instance) → option_and_then (λ (i : Instance). option_map (info_in i) (slice_get i.properties q.slot)) (option_map hollow o) ≡ option_and_then (λ (i : Instance). option_map (info_in i) (slice_get i.properties q.slot)) o
      by None = refl
      by (Some i) = ap (option_map (info_in (hollow i))) (item i.properties q.slot) ∙ each i (slice_get i.properties q.slot)

  takes_component : (v : Value) → taken bare kind.Component v ≡ taken store kind.Component v
  takes_component (value.Obj n) = asked (λ o. component_at o n) (λ i. refl) n
  takes_component (value.Int x) = refl
  takes_component (value.Bool b) = refl
  takes_component (value.Str t) = refl
  takes_component (value.Color c) = refl
  takes_component (value.Line l) = refl

  takes : (k : Kind) (v : Value) → taken bare k v ≡ taken store k v
  takes kind.Int v = refl
  takes kind.Bool v = refl
  takes kind.Str v = refl
  takes kind.Color v = refl
  takes kind.Obj v = refl
  takes kind.Line v = refl
  takes kind.Component v = takes_component v
  takes kind.Var v = refl

  takes_in : (o : Option SlotInfo) (v : Value) → taken_in o bare v ≡ taken_in o store v
  takes_in None v = refl
  takes_in (Some info) v = takes info.kind v

  bound_trees : (q : Place) (b : Binding) → bound_tree bare q b ≡ bound_tree store q b
  unfolding bound_tree
  bound_trees q b =
      (λ i. tree (shapes i) b.expr b.frame [] (λ v. given (taken_in (infos q i) bare v)))
      ∙ (λ i. tree (shape_of store) b.expr b.frame [] (λ v. given (takes_in (info_at q store) v i)))

  parents : (n : ℕ) → item_parent_at n bare ≡ item_parent_at n store
  parents n = asked (option_and_then (λ (i : Instance). i.item_parent)) (λ i. refl) n

  given_slots : (q : Place) → is_given_at q bare ≡ is_given_at q store
  given_slots q = ap is_given (slot q.serial q.slot) ∙ by (property_at q.serial q.slot store)
    where
      is_given : Option Property → Bool
      is_given None = false
      is_given (Some p) = p.is_given

      by : (o : Option Property) → is_given (option_map hollow_slot o) ≡ is_given o
      by None = refl
      by (Some p) = refl

  families : family_of bare ≡ family_of store
  families = λ i. record {
    parent = λ n. parents n i;
    owned = λ n. owned_of n i;
    is_set = λ q. given_slots q i;
  }
    where
      children_of : Option Instance → List ℕ
      children_of None = []
      children_of (Some i) = i.children

      owned_of : (n : ℕ) → owned_by n bare ≡ owned_by n store
      owned_of n = asked children_of (λ i. refl) n

  native_trees : (native : Native) (n : ℕ) → native_tree bare native n ≡ native_tree store native n
  unfolding native_tree
  native_trees native n = λ i. as_tree (λ v. read_value v i) (items.equation (families i) native n)

  by_parts : (q : Place) (b : Option Binding) (native : Option Native) → equation_by bare q b native ≡ equation_by store q b native
  by_parts q (Some b) native = ap Some (bound_trees q b)
  by_parts q None (Some native) = ap Some (native_trees native q.serial)
  by_parts q None None = refl

  natives : (q : Place) → native_at bare q ≡ native_at store q
  natives q = λ i. if placed q i then asked (λ o. native_in o q) (λ j. refl) q.serial i else None

  -- a place has the same expression there
  pub equations : (q : Place) → equation bare q ≡ equation store q
  unfolding equation
  equations q =
      (λ i. if asked has_owner (λ j. refl) q.serial i then equation_by bare q (bound q i) (natives q i) else None)
      ∙ ap (λ (t : Option Tree). if has_owner (instance_at q.serial store) then t else None) (by_parts q (binding_at q store) (native_at store q))

  -- there are the same places
  slots_listed : (n k : ℕ) (ps : List Property) → places_from n k (map hollow_slot ps) ≡ places_from n k ps
  slots_listed n k [] = refl
  slots_listed n k (p ∷ ps) =
      ap (λ (b : Bool). (if b then side_of n k Set ∷ side_of n k Shown ∷ [] else side_of n k Shown ∷ []) ++ places_from n (k + 1) (map hollow_slot ps)) (some_emptied p.set)
      ∙ ap (λ qs. places_in_slot n k p ++ qs) (slots_listed n (k + 1) ps)

  objects_listed : (ns : List ℕ) → places_under ns bare ≡ places_under ns store
  objects_listed [] = refl
  objects_listed (n ∷ ns) =
      ap (λ ps. ps ++ places_under ns bare) (asked (places_in n) (λ i. slots_listed n 0 i.properties) n)
      ∙ ap (λ qs. places_in n (instance_at n store) ++ qs) (objects_listed ns)

  serials : (es : List (ℕ × Instance)) → keys_of (hollow_things es) ≡ keys_of es
  serials [] = refl
  serials (e ∷ es) = ap (λ ns. e.0 ∷ ns) (serials es)

  pub listed : places_of bare ≡ places_of store
  unfolding places_of
  listed = ap (λ ns. places_under ns bare) (serials store.objects.things) ∙ objects_listed (keys_of store.objects.things)

-- stores that are alike but for what their places hold have the same places
pub same_places : (s t : Store) → hollowed s ≡ hollowed t → places_of s ≡ places_of t
same_places s t same = sym (listed s) ∙ ap places_of same ∙ listed t

-- and the same expressions
pub same_equations : (s t : Store) → hollowed s ≡ hollowed t → (q : Place) → equation s q ≡ equation t q
same_equations s t same q = sym (equations s q) ∙ ap (λ (x : Store). equation x q) same ∙ equations t q
