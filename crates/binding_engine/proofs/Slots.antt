-- What one slot of a store holds after writes to slots.
use Rattle.std.proofs.Common.{◌≡◌, ℕ, zero, suc, ◌+◌, Bool, true, false, List, [], ◌∷◌, length, refl, sym, ap, subst, ◌∙◌, arith}
use Rattle.std.specs.Prelude.{Option, None, Some, option_and_then, option_map, if◌then◌else◌, ◌&&◌, ◌==◌, nat_eq, slice_get, slice_set, nat_lt, ◌-◌, ◌^◌}
use Rattle.std.specs.Map.{lookup, set_value}
use Rattle.std.specs.BTreeMap.{is_at}
use Rattle.std.specs.Ordering.{nat_cmp}
use Rattle.std.proofs.lemmas.Bool.Decides.{nat_tests}
use Rattle.arena.specs.Arena.{Arena, thing_at, with_thing}
use Rattle.qml_ast.specs.declared.place.Place.{Place}
use Rattle.qml_ast.specs.declared.place.Side.{Side}
use Rattle.qml_ast.specs.declared.place.Side.TheVariants.{Set, Shown}
use Rattle.qml_ast.specs.declared.value.Value.{Value}
use Rattle.expr_eval.specs.Traces.{are_same, are_same_sides}
use Rattle.object_tree.specs.declared.instance.Instance.{Instance}
use Rattle.object_tree.specs.declared.property.Held.{Held}
use Rattle.object_tree.specs.declared.property.Marks.{Marks}
use Rattle.object_tree.specs.declared.property.Property.{Property}
use Rattle.object_tree.specs.Properties.{held_of, with_value, with_marks, restarted}
use Rattle.object_tree.specs.Reading.{instance_at, property_at, held_at}
use Rattle.object_tree.specs.Store.{Store}
use Rattle.object_tree.specs.Writing.{with_item, with_change, with_instance, with_property, with_slot, kept, marked, restarted_first, restarted_instance, restarted_up_to, ended}

-- ---- lists and arenas
module _ {X : Type 0} (f : X → X) where
  item_there : (xs : List X) (i : ℕ) → slice_get (with_item f i xs) i ≡ option_map f (slice_get xs i)
  item_there xs i = by (slice_get xs i) refl
    where
      set_there : (xs : List X) (i : ℕ) (x y : X) → slice_get xs i ≡ Some x → slice_get (slice_set xs i y) i ≡ Some y
      set_there [] i x y h = absurd cc
      set_there (z ∷ zs) zero x y h = refl
      set_there (z ∷ zs) (suc i) x y h = set_there zs i x y h

      by : (o : Option X) → slice_get xs i ≡ o → slice_get (elim o [ None ↦ xs | Some x ↦ slice_set xs i (f x) ]) i ≡ option_map f o
      by None h = h
      by (Some x) h = set_there xs i x (f x) h

  item_beside : (xs : List X) (i j : ℕ) → (i ≡ j → ⊥) → slice_get (with_item f i xs) j ≡ slice_get xs j
  item_beside xs i j apart = by (slice_get xs i) refl
    where
      set_beside : (xs : List X) (i j : ℕ) (y : X) → (i ≡ j → ⊥) → slice_get (slice_set xs i y) j ≡ slice_get xs j
      set_beside [] i j y apart = refl
      set_beside (z ∷ zs) zero zero y apart = absurd (apart refl)
      set_beside (z ∷ zs) zero (suc j) y apart = refl
      set_beside (z ∷ zs) (suc i) zero y apart = refl
      set_beside (z ∷ zs) (suc i) (suc j) y apart = set_beside zs i j y (λ e. apart (ap suc e))

      by : (o : Option X) → slice_get xs i ≡ o → slice_get (elim o [ None ↦ xs | Some x ↦ slice_set xs i (f x) ]) j ≡ slice_get xs j
      by None h = refl
      by (Some x) h = set_beside xs i j (f x) apart

  same_serial : (n m : ℕ) → is_at (nat_cmp n) m ≡ true → n ≡ m
  same_serial n m h = grind (arith, nat_tests)

  value_there : (es : List (ℕ × X)) (n : ℕ) (x y : X) → lookup (is_at (nat_cmp n)) es ≡ Some x → lookup (is_at (nat_cmp n)) (set_value (is_at (nat_cmp n)) es y) ≡ Some y
  value_there [] n x y h = absurd cc
  value_there (e ∷ es) n x y h = by (is_at (nat_cmp n) e.0) refl (λ g. value_there es n x y g)
    where
      by : (b : Bool) → is_at (nat_cmp n) e.0 ≡ b → (lookup (is_at (nat_cmp n)) es ≡ Some x → lookup (is_at (nat_cmp n)) (set_value (is_at (nat_cmp n)) es y) ≡ Some y) →
          lookup (is_at (nat_cmp n)) (set_value (is_at (nat_cmp n)) (e ∷ es) y) ≡ Some y
      by true is rest = rw (is, is) refl
      by false is rest = rw (is, is) (rest (rw is at h))

  value_beside : (es : List (ℕ × X)) (n m : ℕ) (y : X) → (n ≡ m → ⊥) → lookup (is_at (nat_cmp m)) (set_value (is_at (nat_cmp n)) es y) ≡ lookup (is_at (nat_cmp m)) es
  value_beside [] n m y apart = refl
  value_beside (e ∷ es) n m y apart = by (is_at (nat_cmp n) e.0) refl (is_at (nat_cmp m) e.0) refl (value_beside es n m y apart)
    where
      by : (b : Bool) → is_at (nat_cmp n) e.0 ≡ b → (c : Bool) → is_at (nat_cmp m) e.0 ≡ c → lookup (is_at (nat_cmp m)) (set_value (is_at (nat_cmp n)) es y) ≡ lookup (is_at (nat_cmp m)) es →
          lookup (is_at (nat_cmp m)) (set_value (is_at (nat_cmp n)) (e ∷ es) y) ≡ lookup (is_at (nat_cmp m)) (e ∷ es)
      by true is true other rest = absurd (apart (same_serial n e.0 is ∙ sym (same_serial m e.0 other)))
      by true is false other rest = rw (is, other) refl
      by false is true other rest = rw (is, other) refl
      by false is false other rest = rw (is, other) rest

  thing_there : (a : Arena X) (n : ℕ) → thing_at n (with_change f n a) ≡ option_map f (thing_at n a)
  thing_there a n = by (thing_at n a) refl
    where
      by : (o : Option X) → thing_at n a ≡ o → thing_at n (elim o [ None ↦ a | Some x ↦ with_thing n a (f x) ]) ≡ option_map f o
      by None h = h
      by (Some x) h = value_there a.things n x (f x) h

  thing_beside : (a : Arena X) (n m : ℕ) → (n ≡ m → ⊥) → thing_at m (with_change f n a) ≡ thing_at m a
  thing_beside a n m apart = by (thing_at n a) refl
    where
      by : (o : Option X) → thing_at n a ≡ o → thing_at m (elim o [ None ↦ a | Some x ↦ with_thing n a (f x) ]) ≡ thing_at m a
      by None h = refl
      by (Some x) h = value_beside a.things n m (f x) apart

-- ---- slots of a store
module _ (f : Property → Property) (serial slot : ℕ) (store : Store) where
  slots_of : (o : Option Instance) → option_and_then (λ (i : Instance). slice_get i.properties slot) (option_map (with_property f slot) o) ≡ option_map f (option_and_then (λ (i : Instance). slice_get i.properties slot) o)
  slots_of None = refl
  slots_of (Some i) = item_there f i.properties slot

  pub slot_there : property_at serial slot (with_slot f serial slot store) ≡ option_map f (property_at serial slot store)
  slot_there = ap (option_and_then (λ (i : Instance). slice_get i.properties slot)) (thing_there (with_property f slot) store.objects serial) ∙ slots_of (instance_at serial store)

  others_of : (k : ℕ) → (slot ≡ k → ⊥) → (o : Option Instance) → option_and_then (λ (i : Instance). slice_get i.properties k) (option_map (with_property f slot) o) ≡ option_and_then (λ (i : Instance). slice_get i.properties k) o
  others_of k apart None = refl
  others_of k apart (Some i) = item_beside f i.properties slot k apart

  pub slot_beside : (k : ℕ) → (slot ≡ k → ⊥) → property_at serial k (with_slot f serial slot store) ≡ property_at serial k store
  slot_beside k apart = ap (option_and_then (λ (i : Instance). slice_get i.properties k)) (thing_there (with_property f slot) store.objects serial) ∙ others_of k apart (instance_at serial store)

  pub object_beside : (n k : ℕ) → (serial ≡ n → ⊥) → property_at n k (with_slot f serial slot store) ≡ property_at n k store
  object_beside n k apart = ap (option_and_then (λ (i : Instance). slice_get i.properties k)) (thing_beside (with_property f slot) store.objects serial n apart)

-- a write to one side of a slot leaves the other side, and another value or other marks on that one
abbrev pub Sided : (Held → Held) → Side → (Property → Property) → Type 0
Sided g side f = ((p : Property) → held_of side (f p) ≡ option_map g (held_of side p)) × ((other : Side) (p : Property) → are_same_sides side other ≡ false → held_of other (f p) ≡ held_of other p)

equal_number : (a b : ℕ) → (a == b) ≡ true → a ≡ b
equal_number a b h = grind (arith, nat_tests)

unequal_number : (a b : ℕ) → (a == b) ≡ false → a ≡ b → ⊥
unequal_number a b h e = grind (arith, nat_tests)

module _ (g : Held → Held) (f : Property → Property) (p : Place) (sided : Sided g p.side f) (store : Store) where
  abbrev after : Store
  after = with_slot f p.serial p.slot store

  through : (o : Option Property) → option_and_then (held_of p.side) (option_map f o) ≡ option_map g (option_and_then (held_of p.side) o)
  through None = refl
  through (Some x) = sided.0 x

  pub held_there : held_at p after ≡ option_map g (held_at p store)
  held_there = ap (option_and_then (held_of p.side)) (slot_there f p.serial p.slot store) ∙ through (property_at p.serial p.slot store)

  besides : (side : Side) → are_same_sides p.side side ≡ false → (o : Option Property) → option_and_then (held_of side) (option_map f o) ≡ option_and_then (held_of side) o
  besides side h None = refl
  besides side h (Some x) = sided.1 side x h

  pub held_beside : (q : Place) → are_same p q ≡ false → held_at q after ≡ held_at q store
  held_beside q h = by (p.serial == q.serial) refl (p.slot == q.slot) refl h
    where
      by : (b : Bool) → (p.serial == q.serial) ≡ b → (c : Bool) → (p.slot == q.slot) ≡ c → (b && (c && are_same_sides p.side q.side)) ≡ false → held_at q after ≡ held_at q store
      by false e c d h = ap (option_and_then (held_of q.side)) (object_beside f p.serial p.slot store q.serial q.slot (unequal_number p.serial q.serial e))
      by true e false d h =
          subst (λ (n : ℕ). option_and_then (held_of q.side) (property_at n q.slot after) ≡ option_and_then (held_of q.side) (property_at n q.slot store)) (equal_number p.serial q.serial e)
          (ap (option_and_then (held_of q.side)) (slot_beside f p.serial p.slot store q.slot (unequal_number p.slot q.slot d)))
      by true e true d h =
          subst (λ (n : ℕ). option_and_then (held_of q.side) (property_at n q.slot after) ≡ option_and_then (held_of q.side) (property_at n q.slot store)) (equal_number p.serial q.serial e)
          (subst (λ (k : ℕ). option_and_then (held_of q.side) (property_at p.serial k after) ≡ option_and_then (held_of q.side) (property_at p.serial k store)) (equal_number p.slot q.slot d)
          (ap (option_and_then (held_of q.side)) (slot_there f p.serial p.slot store) ∙ besides q.side h (property_at p.serial p.slot store)))

-- ---- the two writes of a settle
abbrev pub with_held_value : Value → Held → Held
with_held_value v held = record held { value = v }

abbrev pub with_held_marks : Marks → Held → Held
with_held_marks m held = record held { marks = m }

value_sided : (settle : ℕ) (v : Value) (side : Side) → Sided (with_held_value v) side (with_value settle side v)
value_sided settle v Set = (λ p. refl, λ other p h. other_set other p h)
  where
    other_set : (other : Side) (p : Property) → are_same_sides Set other ≡ false → held_of other (with_value settle Set v p) ≡ held_of other p
    other_set Set p h = absurd cc
    other_set Shown p h = refl
value_sided settle v Shown = (λ p. refl, λ other p h. other_shown other p h)
  where
    other_shown : (other : Side) (p : Property) → are_same_sides Shown other ≡ false → held_of other (with_value settle Shown v p) ≡ held_of other p
    other_shown Set p h = refl
    other_shown Shown p h = absurd cc

marks_sided : (m : Marks) (side : Side) → Sided (with_held_marks m) side (with_marks side m)
marks_sided m Set = (λ p. refl, λ other p h. other_set other p h)
  where
    other_set : (other : Side) (p : Property) → are_same_sides Set other ≡ false → held_of other (with_marks Set m p) ≡ held_of other p
    other_set Set p h = absurd cc
    other_set Shown p h = refl
marks_sided m Shown = (λ p. refl, λ other p h. other_shown other p h)
  where
    other_shown : (other : Side) (p : Property) → are_same_sides Shown other ≡ false → held_of other (with_marks Shown m p) ≡ held_of other p
    other_shown Set p h = refl
    other_shown Shown p h = absurd cc

pub kept_there : (p : Place) (v : Value) (store : Store) → held_at p (kept p v store) ≡ option_map (with_held_value v) (held_at p store)
kept_there p v store = held_there (with_held_value v) (with_value store.settle p.side v) p (value_sided store.settle v p.side) store

pub kept_beside : (p : Place) (v : Value) (store : Store) (q : Place) → are_same p q ≡ false → held_at q (kept p v store) ≡ held_at q store
kept_beside p v store q h = held_beside (with_held_value v) (with_value store.settle p.side v) p (value_sided store.settle v p.side) store q h

pub marked_there : (p : Place) (m : Marks) (store : Store) → held_at p (marked p m store) ≡ option_map (with_held_marks m) (held_at p store)
marked_there p m store = held_there (with_held_marks m) (with_marks p.side m) p (marks_sided m p.side) store

pub marked_beside : (p : Place) (m : Marks) (store : Store) (q : Place) → are_same p q ≡ false → held_at q (marked p m store) ≡ held_at q store
marked_beside p m store q h = held_beside (with_held_marks m) (with_marks p.side m) p (marks_sided m p.side) store q h

-- ---- the end of a settle
abbrev slots_in : ℕ → Side → Option Instance → Option Held
slots_in k side o = option_and_then (held_of side) (option_and_then (λ (i : Instance). slice_get i.properties k) o)

restarted_item : (xs : List Property) (n k : ℕ) (side : Side) → option_and_then (held_of side) (slice_get (with_item restarted n xs) k) ≡ option_and_then (held_of side) (slice_get xs k)
restarted_item xs n k side = by (nat_eq n k) refl
  where
    same : (side : Side) (o : Option Property) → option_and_then (held_of side) (option_map restarted o) ≡ option_and_then (held_of side) o
    same side None = refl
    same Set (Some p) = refl
    same Shown (Some p) = refl

    by : (b : Bool) → nat_eq n k ≡ b → option_and_then (held_of side) (slice_get (with_item restarted n xs) k) ≡ option_and_then (held_of side) (slice_get xs k)
    by true e =
        subst (λ (j : ℕ). option_and_then (held_of side) (slice_get (with_item restarted n xs) j) ≡ option_and_then (held_of side) (slice_get xs j)) (equal_number n k e)
        (ap (option_and_then (held_of side)) (item_there restarted xs n) ∙ same side (slice_get xs n))
    by false e = ap (option_and_then (held_of side)) (item_beside restarted xs n k (unequal_number n k e))

restarted_slots : (n : ℕ) (i : Instance) (k : ℕ) (side : Side) → slots_in k side (Some (restarted_first n i)) ≡ slots_in k side (Some i)
restarted_slots zero i k side = refl
restarted_slots (suc n) i k side = restarted_item (restarted_first n i).properties n k side ∙ restarted_slots n i k side

restarted_object : (o : Option Instance) (k : ℕ) (side : Side) → slots_in k side (option_map restarted_instance o) ≡ slots_in k side o
restarted_object None k side = refl
restarted_object (Some i) k side = restarted_slots (length i.properties) i k side

restarted_one : (n : ℕ) (store : Store) (q : Place) → held_at q (with_instance restarted_instance n store) ≡ held_at q store
restarted_one n store q = by (nat_eq n q.serial) refl
  where
    by : (b : Bool) → nat_eq n q.serial ≡ b → held_at q (with_instance restarted_instance n store) ≡ held_at q store
    by true e =
        subst (λ (m : ℕ). slots_in q.slot q.side (thing_at m (with_change restarted_instance n store.objects)) ≡ slots_in q.slot q.side (thing_at m store.objects)) (equal_number n q.serial e)
        (ap (slots_in q.slot q.side) (thing_there restarted_instance store.objects n) ∙ restarted_object (thing_at n store.objects) q.slot q.side)
    by false e = ap (slots_in q.slot q.side) (thing_beside restarted_instance store.objects n q.serial (unequal_number n q.serial e))

restarted_all : (n : ℕ) (store : Store) (q : Place) → held_at q (restarted_up_to n store) ≡ held_at q store
restarted_all zero store q = refl
restarted_all (suc n) store q = restarted_one (suc n) (restarted_up_to n store) q ∙ restarted_all n store q

-- the end of a settle leaves what the places hold
pub ended_held : (store : Store) (q : Place) → held_at q (ended store) ≡ held_at q store
unfolding ended
ended_held store q = by (nat_lt store.settle (2 ^ 64 - 1)) refl
  where
    by : (b : Bool) → nat_lt store.settle (2 ^ 64 - 1) ≡ b → held_at q (if b then record store { settle = store.settle + 1 } else record (restarted_up_to store.objects.last store) { settle = 1 }) ≡ held_at q store
    by true e = refl
    by false e = restarted_all store.objects.last store q
