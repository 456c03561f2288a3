-- The places of a store rise, since its serials do.
use Rattle.std.proofs.Common.{◌≡◌, ◌∙◌, ℕ, ◌+◌, ◌<◌, Bool, true, false, List, [], ◌∷◌, ◌++◌, refl, sym, ap, subst, arith}
use Rattle.std.specs.Prelude.{Option, None, Some, is_some, if◌then◌else◌, nat_lt, ◌==◌, ◌||◌, ◌&&◌, filter}
use Rattle.std.specs.List.{AllByRecursion}
use Rattle.std.specs.List.Sorted.{IsStrictlySortedBy}
use Rattle.std.specs.Ordering.{nat_cmp}
use Rattle.std.specs.declared.cmp.Ordering.TheVariants.{Less}
use Rattle.std.proofs.lemmas.Bool.Decides.{nat_tests}
use Rattle.qml_ast.specs.declared.place.Place.{Place}
use Rattle.qml_ast.specs.declared.place.Side.{Side}
use Rattle.qml_ast.specs.declared.place.Side.TheVariants.{Set, Shown}
use Rattle.object_tree.specs.declared.instance.Instance.{Instance}
use Rattle.object_tree.specs.declared.property.Property.{Property}
use Rattle.object_tree.specs.Order.{is_before, AllAfter, AreRising}
use Rattle.object_tree.specs.Places.{side_of, places_from, places_in, places_under}
use Rattle.object_tree.specs.Reading.{instance_at}
use Rattle.object_tree.specs.Store.{Store}

less : (i j : ℕ) → i < j → nat_lt i j ≡ true
less i j h = grind (arith, nat_tests)

own : (n : ℕ) → (n == n) ≡ true
own n = grind (arith, nat_tests)

or_true : (b : Bool) → (b || true) ≡ true
or_true true = refl
or_true false = refl

next : (n : ℕ) → n < n + 1
next n = omega arith

before_serial : (p q : Place) → p.serial < q.serial → is_before p q ≡ true
before_serial p q h = rw (less p.serial q.serial h) refl

before_slot : (serial i j : ℕ) (a b : Side) → i < j → is_before (side_of serial i a) (side_of serial j b) ≡ true
before_slot serial i j a b h = rw (own serial, less i j h) (or_true (nat_lt serial serial))

before_side : (serial k : ℕ) → is_before (side_of serial k Set) (side_of serial k Shown) ≡ true
before_side serial k = ap (λ (b : Bool). nat_lt serial serial || (b && (nat_lt k k || ((k == k) && true)))) (own serial)
    ∙ ap (λ (b : Bool). nat_lt serial serial || (nat_lt k k || (b && true))) (own k) ∙ ap (λ (b : Bool). nat_lt serial serial || b) (or_true (nat_lt k k)) ∙ or_true (nat_lt serial serial)

after_both : (p : Place) (xs ys : List Place) → AllAfter p xs → AllAfter p ys → AllAfter p (xs ++ ys)
after_both p [] ys a b = b
after_both p (x ∷ xs) ys a b = (a.0, after_both p xs ys a.1 b)

-- ---- one object
after_slots : (serial j k : ℕ) (a : Side) (xs : List Property) → j < k → AllAfter (side_of serial j a) (places_from serial k xs)
after_slots serial j k a [] h = tt
after_slots serial j k a (x ∷ xs) h = by (is_some x.set) (after_slots serial j (k + 1) a xs (omega arith))
  where
    by : (b : Bool) → AllAfter (side_of serial j a) (places_from serial (k + 1) xs) →
        AllAfter (side_of serial j a) ((if b then side_of serial k Set ∷ side_of serial k Shown ∷ [] else side_of serial k Shown ∷ []) ++ places_from serial (k + 1) xs)
    by true rest = (before_slot serial j k a Set h, (before_slot serial j k a Shown h, rest))
    by false rest = (before_slot serial j k a Shown h, rest)

rising_slots : (serial k : ℕ) (xs : List Property) → AreRising (places_from serial k xs)
rising_slots serial k [] = tt
rising_slots serial k (x ∷ xs) = by (is_some x.set) (rising_slots serial (k + 1) xs)
  where
    by : (b : Bool) → AreRising (places_from serial (k + 1) xs) →
        AreRising ((if b then side_of serial k Set ∷ side_of serial k Shown ∷ [] else side_of serial k Shown ∷ []) ++ places_from serial (k + 1) xs)
    by true rest = ((before_side serial k, after_slots serial k (k + 1) Set xs (next k)), (after_slots serial k (k + 1) Shown xs (next k), rest))
    by false rest = (after_slots serial k (k + 1) Shown xs (next k), rest)

-- ---- all objects
after_other : (p : Place) (n k : ℕ) (xs : List Property) → p.serial < n → AllAfter p (places_from n k xs)
after_other p n k [] h = tt
after_other p n k (x ∷ xs) h = by (is_some x.set) (after_other p n (k + 1) xs h)
  where
    by : (b : Bool) → AllAfter p (places_from n (k + 1) xs) → AllAfter p ((if b then side_of n k Set ∷ side_of n k Shown ∷ [] else side_of n k Shown ∷ []) ++ places_from n (k + 1) xs)
    by true rest = (before_serial p (side_of n k Set) h, (before_serial p (side_of n k Shown) h, rest))
    by false rest = (before_serial p (side_of n k Shown) h, rest)

after_object : (p : Place) (n : ℕ) (o : Option Instance) → p.serial < n → AllAfter p (places_in n o)
after_object p n None h = tt
after_object p n (Some i) h = after_other p n 0 i.properties h

below : (m n : ℕ) → nat_cmp m n ≡ Less → m < n
below m n h = grind (arith, nat_tests)

after_objects : (store : Store) (p : Place) (ns : List ℕ) → AllByRecursion (λ n. nat_cmp p.serial n ≡ Less) ns → AllAfter p (places_under ns store)
after_objects store p [] h = tt
after_objects store p (n ∷ ns) h = after_both p (places_in n (instance_at n store)) (places_under ns store) (after_object p n (instance_at n store) (below p.serial n h.0)) (after_objects store p ns h.1)

abbrev AllOf : ℕ → List Place → Type 0
AllOf n [] = Unit {0}
AllOf n (p ∷ ps) = (p.serial ≡ n) × AllOf n ps

of_object : (n k : ℕ) (xs : List Property) → AllOf n (places_from n k xs)
of_object n k [] = tt
of_object n k (x ∷ xs) = by (is_some x.set) (of_object n (k + 1) xs)
  where
    by : (b : Bool) → AllOf n (places_from n (k + 1) xs) → AllOf n ((if b then side_of n k Set ∷ side_of n k Shown ∷ [] else side_of n k Shown ∷ []) ++ places_from n (k + 1) xs)
    by true rest = (refl, (refl, rest))
    by false rest = (refl, rest)

of_serial : (n : ℕ) (o : Option Instance) → AllOf n (places_in n o)
of_serial n None = tt
of_serial n (Some i) = of_object n 0 i.properties

rising_object : (n : ℕ) (o : Option Instance) → AreRising (places_in n o)
rising_object n None = tt
rising_object n (Some i) = rising_slots n 0 i.properties

joined : (store : Store) (n : ℕ) (xs : List Place) (ns : List ℕ) → AllOf n xs → AreRising xs → AllByRecursion (λ m. nat_cmp n m ≡ Less) ns → AreRising (places_under ns store) → AreRising (xs ++ places_under ns store)
joined store n [] ns all rising h rest = rest
joined store n (p ∷ xs) ns all rising h rest =
    (after_both p xs (places_under ns store) rising.0 (after_objects store p ns (subst (λ (k : ℕ). AllByRecursion (λ m. nat_cmp k m ≡ Less) ns) (sym all.0) h)), joined store n xs ns all.1 rising.1 h rest)

-- the places rise where the serials do
pub rising_under : (store : Store) (ns : List ℕ) → IsStrictlySortedBy nat_cmp ns → AreRising (places_under ns store)
unfolding IsStrictlySortedBy
rising_under store [] h = tt
rising_under store (n ∷ ns) h = joined store n (places_in n (instance_at n store)) ns (of_serial n (instance_at n store)) (rising_object n (instance_at n store)) h.0 (rising_under store ns h.1)

-- those of them that pass a test rise too
after_filter : (test : Place → Bool) (p : Place) (ps : List Place) → AllAfter p ps → AllAfter p (filter test ps)
after_filter test p [] h = tt
after_filter test p (q ∷ qs) h = by (test q) refl (after_filter test p qs h.1)
  where
    by : (b : Bool) → test q ≡ b → AllAfter p (filter test qs) → AllAfter p (filter test (q ∷ qs))
    by true e rest = rw e (h.0, rest)
    by false e rest = rw e rest

pub rising_filter : (test : Place → Bool) (ps : List Place) → AreRising ps → AreRising (filter test ps)
rising_filter test [] h = tt
rising_filter test (p ∷ ps) h = by (test p) refl (rising_filter test ps h.1)
  where
    by : (b : Bool) → test p ≡ b → AreRising (filter test ps) → AreRising (filter test (p ∷ ps))
    by true e rest = rw e (after_filter test p ps h.0, rest)
    by false e rest = rw e rest
