-- The order of painting: a sorted permutation of the items is the one list that the definition gives.
use Rattle.std.proofs.Common.{◌≡◌, ℕ, zero, suc, ◌+◌, ◌<◌, ℤ, pos, ◌<ℤ◌, ◌≤ℤ◌, Bool, true, false, cond, ◌==◌, List, [], ◌∷◌, length, get_or, take, drop, refl, sym, ◌∙◌, ap, subst, inl, inr, suc-le-suc, zero-le, arith}
use Rattle.std.proofs.lemmas.Bool.{cases_Bool}
use Rattle.std.proofs.lemmas.Bool.Decides.{nat_tests}
use Rattle.std.proofs.lemmas.Int.{ints}
use Rattle.std.proofs.lemmas.List.Sums.{sum_by-cons}
use Rattle.std.proofs.lemmas.List.Sorted.{sum_by-IsPermutation}
use Rattle.std.specs.Prelude.{int_lt, sum_by, count_by, All, IsPermutation, IsSorted}
use Rattle.std.proofs.lemmas.List.Elements.{All-from_recursion}
use Rattle.std.specs.List.{range_with_len, AllByRecursion}
use Rattle.std.specs.Ordering.{is_lt, int_cmp, nat_cmp, ordering_then}
use Rattle.item_geometry.specs.PaintOrder.{z_of, paint_cmp, items_of, placed, by_z, painting_order}

-- an item goes before another
abbrev goes_before : List ℤ → ℕ → ℕ → Bool
goes_before z item other = is_lt (paint_cmp z item other)

-- what the test says of items a, b and c at z p, q and r
later_still : (p q r : ℤ) (a b c : ℕ) → is_lt (ordering_then (int_cmp q p) (nat_cmp b a)) ≡ false → is_lt (ordering_then (int_cmp r q) (nat_cmp c b)) ≡ false
    → is_lt (ordering_then (int_cmp r p) (nat_cmp c a)) ≡ false
later_still p q r a b c h g = grind (arith, ints, nat_tests)

one_of_two : (p q : ℤ) (a b : ℕ) → is_lt (ordering_then (int_cmp p q) (nat_cmp a b)) ≡ false → is_lt (ordering_then (int_cmp q p) (nat_cmp b a)) ≡ false → a ≡ b
one_of_two p q a b h g = grind (arith, ints, nat_tests)

not_both : (p q : ℤ) (a b : ℕ) → is_lt (ordering_then (int_cmp p q) (nat_cmp a b)) ≡ true → is_lt (ordering_then (int_cmp q p) (nat_cmp b a)) ≡ false
not_both p q a b h = grind (arith, ints, nat_tests)

not_itself : (p : ℤ) (a : ℕ) → is_lt (ordering_then (int_cmp p p) (nat_cmp a a)) ≡ false
not_itself p a = grind (arith, ints, nat_tests)

lesser_z : (p q : ℤ) (a b : ℕ) → int_lt q p ≡ true → is_lt (ordering_then (int_cmp p q) (nat_cmp a b)) ≡ false
lesser_z p q a b h = grind (arith, ints, nat_tests)

no_lesser_z : (p q : ℤ) (a b : ℕ) → int_lt q p ≡ false → a < b → is_lt (ordering_then (int_cmp q p) (nat_cmp b a)) ≡ false
no_lesser_z p q a b h later = grind (arith, ints, nat_tests)

-- none of the others goes before the item
abbrev IsFirst : List ℤ → ℕ → List ℕ → Type 0
IsFirst z item others = AllByRecursion (λ other. goes_before z other item ≡ false) others

-- none goes before an earlier one
abbrev Rises : List ℤ → List ℕ → Type 0
Rises z [] = Unit {0}
Rises z (item ∷ rest) = IsFirst z item rest × Rises z rest

IsFirst-earlier : (z : List ℤ) (earlier item : ℕ) (others : List ℕ) → goes_before z item earlier ≡ false → IsFirst z item others → IsFirst z earlier others
IsFirst-earlier z earlier item [] h first = tt
IsFirst-earlier z earlier item (other ∷ others) h first =
    (later_still (z_of z earlier) (z_of z item) (z_of z other) earlier item other h first.0, IsFirst-earlier z earlier item others h first.1)

-- what a sort says
Rises-from_sort : (z : List ℤ) (items : List ℕ) → IsSorted (paint_cmp z) items → Rises z items
Rises-from_sort z [] h = tt
Rises-from_sort z (item ∷ []) h = (tt, tt)
Rises-from_sort z (item ∷ next ∷ rest) h =
    let later = Rises-from_sort z (next ∷ rest) (λ k d from below.
    let place : suc k + 1 ≡ suc (k + 1) = omega arith in
    subst (λ n. goes_before z (get_or (item ∷ next ∷ rest) n d) (get_or (next ∷ rest) k d) ≡ false) place (h (suc k) d zero-le (omega arith))) in
    let here : goes_before z next item ≡ false = h 0 0 zero-le (suc-le-suc (suc-le-suc zero-le)) in
    ((here, IsFirst-earlier z item next rest here later.0), later)

-- a sum over a list
abbrev total : (ℕ → ℕ) → List ℕ → ℕ
total f [] = 0
total f (item ∷ items) = f item + total f items

total-sum : (f : ℕ → ℕ) (items : List ℕ) → sum_by f items ≡ total f items
total-sum f [] = refl
total-sum f (item ∷ items) = sum_by-cons f item items ∙ ap (λ n. f item + n) (total-sum f items)

total-permutation : (f : ℕ → ℕ) (xs ys : List ℕ) → IsPermutation xs ys → total f ys ≡ total f xs
total-permutation f xs ys h = sym (total-sum f ys) ∙ sum_by-IsPermutation f xs ys h ∙ total-sum f xs

-- how often a list has an item
abbrev times : ℕ → List ℕ → ℕ
times item items = total (λ other. cond (item == other) 1 0) items

-- an item that goes before all of a list is not in it
times-absent : (z : List ℤ) (item first : ℕ) (others : List ℕ) → goes_before z item first ≡ true → IsFirst z first others → times item others ≡ 0
times-absent z item first [] h least = refl
times-absent z item first (other ∷ others) h least =
    let rest = times-absent z item first others h least.1 in
    elim (cases_Bool (item == other)) [
      | inl same ↦
          let is : item ≡ other = grind (arith, nat_tests) in
          let clash = sym h ∙ ap (λ o. goes_before z o first) is ∙ least.0 in cc
      | inr apart ↦
          let passed : times item (other ∷ others) ≡ 0 + times item others = ap (λ b. cond b 1 0 + times item others) apart in
          omega (arith, passed, rest)
    ]

times-here : (item : ℕ) (others : List ℕ) → times item (item ∷ others) ≡ 1 + times item others
times-here item others = let same : (item == item) ≡ true = grind (arith, nat_tests) in ap (λ b. cond b 1 0 + times item others) same

-- two rising lists of the same items are one
same_from_times : (z : List ℤ) (xs ys : List ℕ) → Rises z xs → Rises z ys → ((item : ℕ) → times item xs ≡ times item ys) → xs ≡ ys
same_from_times z [] [] left right same = refl
same_from_times z [] (y ∷ ys) left right same = absurd (omega (arith, same y, times-here y ys))
same_from_times z (x ∷ xs) [] left right same = absurd (omega (arith, same x, times-here x xs))
same_from_times z (x ∷ xs) (y ∷ ys) left right same =
    elim (cases_Bool (goes_before z x y)) [
      | inl before ↦
          let none = times-absent z x y (y ∷ ys) before (not_itself (z_of z y) y, right.0) in
          absurd (omega (arith, same x, times-here x xs, none))
      | inr not_before ↦ elim (cases_Bool (goes_before z y x)) [
        | inl after ↦
            let none = times-absent z y x (x ∷ xs) after (not_itself (z_of z x) x, left.0) in
            absurd (omega (arith, same y, times-here y ys, none))
        | inr not_after ↦
            let head : x ≡ y = one_of_two (z_of z x) (z_of z y) x y not_before not_after in
            let tails : (item : ℕ) → times item xs ≡ times item ys =
            λ item. let all = same item in let heads = ap {B = ℕ} (λ o. cond (item == o) 1 0) head in omega (arith, all, heads) in
            let tail = same_from_times z xs ys left.1 right.1 tails in cc
      ]
    ]

-- the item appears before each of the others
abbrev IsEarliest : ℕ → List ℕ → Type 0
IsEarliest item others = AllByRecursion (λ other. item < other) others

placed-nil : (z : List ℤ) (item : ℕ) → placed z item [] ≡ item ∷ []
unfolding placed
placed-nil z item = refl

placed-past : (z : List ℤ) (item next : ℕ) (rest : List ℕ) → int_lt (z_of z next) (z_of z item) ≡ true → placed z item (next ∷ rest) ≡ next ∷ placed z item rest
unfolding placed
placed-past z item next rest h = ap (λ b. cond b (next ∷ placed z item rest) (item ∷ next ∷ rest)) h

placed-here : (z : List ℤ) (item next : ℕ) (rest : List ℕ) → int_lt (z_of z next) (z_of z item) ≡ false → placed z item (next ∷ rest) ≡ item ∷ next ∷ rest
unfolding placed
placed-here z item next rest h = ap (λ b. cond b (next ∷ placed z item rest) (item ∷ next ∷ rest)) h

-- what holds of the item and of each of the others holds of all
AllByRecursion-placed : (P : ℕ → Type 0) (z : List ℤ) (item : ℕ) (others : List ℕ) → P item → AllByRecursion P others → AllByRecursion P (placed z item others)
AllByRecursion-placed P z item [] one all = subst (AllByRecursion P) (sym (placed-nil z item)) (one, tt)
AllByRecursion-placed P z item (next ∷ rest) one all =
    elim (cases_Bool (int_lt (z_of z next) (z_of z item))) [
      | inl past ↦ subst (AllByRecursion P) (sym (placed-past z item next rest past)) (all.0, AllByRecursion-placed P z item rest one all.1)
      | inr here ↦ subst (AllByRecursion P) (sym (placed-here z item next rest here)) (one, all)
    ]

IsFirst-placed_here : (z : List ℤ) (item next : ℕ) (rest : List ℕ) → int_lt (z_of z next) (z_of z item) ≡ false → item < next → IsFirst z next rest → IsFirst z item (next ∷ rest)
IsFirst-placed_here z item next rest here earlier least =
    let first = no_lesser_z (z_of z item) (z_of z next) item next here earlier in
    (first, IsFirst-earlier z item next rest first least)

Rises-placed : (z : List ℤ) (item : ℕ) (others : List ℕ) → IsEarliest item others → Rises z others → Rises z (placed z item others)
Rises-placed z item [] earliest rises = subst (Rises z) (sym (placed-nil z item)) (tt, tt)
Rises-placed z item (next ∷ rest) earliest rises =
    elim (cases_Bool (int_lt (z_of z next) (z_of z item))) [
      | inl past ↦
          let least = AllByRecursion-placed (λ other. goes_before z other next ≡ false) z item rest (lesser_z (z_of z item) (z_of z next) item next past) rises.0 in
          subst (Rises z) (sym (placed-past z item next rest past)) (least, Rises-placed z item rest earliest.1 rises.1)
      | inr here ↦
          subst (Rises z) (sym (placed-here z item next rest here)) (IsFirst-placed_here z item next rest here earliest.0 rises.0, rises)
    ]

times-placed : (z : List ℤ) (one item : ℕ) (others : List ℕ) → times one (placed z item others) ≡ times one (item ∷ others)
times-placed z one item [] = ap (times one) (placed-nil z item)
times-placed z one item (next ∷ rest) =
    elim (cases_Bool (int_lt (z_of z next) (z_of z item))) [
      | inl past ↦
          let later = times-placed z one item rest in
          let split = ap (times one) (placed-past z item next rest past) in omega (arith, later, split)
      | inr here ↦ ap (times one) (placed-here z item next rest here)
    ]

by_z-nil : (z : List ℤ) → by_z z [] ≡ []
unfolding by_z
by_z-nil z = refl

by_z-cons : (z : List ℤ) (item : ℕ) (items : List ℕ) → by_z z (item ∷ items) ≡ placed z item (by_z z items)
unfolding by_z
by_z-cons z item items = refl

IsEarliest-by_z : (z : List ℤ) (item from count : ℕ) → item < from → IsEarliest item (by_z z (range_with_len from count))
IsEarliest-by_z z item from zero h = subst (IsEarliest item) (sym (by_z-nil z)) tt
IsEarliest-by_z z item from (suc count) h =
    subst (IsEarliest item) (sym (by_z-cons z from (range_with_len (from + 1) count)))
    (AllByRecursion-placed (λ other. item < other) z from _ h (IsEarliest-by_z z item (from + 1) count (omega arith)))

Rises-by_z : (z : List ℤ) (from count : ℕ) → Rises z (by_z z (range_with_len from count))
Rises-by_z z from zero = subst (Rises z) (sym (by_z-nil z)) tt
Rises-by_z z from (suc count) =
    subst (Rises z) (sym (by_z-cons z from (range_with_len (from + 1) count)))
    (Rises-placed z from _ (IsEarliest-by_z z from (from + 1) count (omega arith)) (Rises-by_z z (from + 1) count))

times-by_z : (z : List ℤ) (one : ℕ) (items : List ℕ) → times one (by_z z items) ≡ times one items
times-by_z z one [] = ap (times one) (by_z-nil z)
times-by_z z one (item ∷ items) =
    ap (times one) (by_z-cons z item items) ∙ times-placed z one item (by_z z items) ∙ ap (λ n. cond (one == item) 1 0 + n) (times-by_z z one items)

-- a sorted list of the items is the order of painting
pub painting_order-from_sort : (z : List ℤ) (order : List ℕ) → IsPermutation (items_of z) order → IsSorted (paint_cmp z) order → order ≡ painting_order z
painting_order-from_sort z order all sorted =
    same_from_times z order (painting_order z) (Rises-from_sort z order sorted) (Rises-by_z z 0 (length z))
    (λ item. total-permutation (λ other. cond (item == other) 1 0) (items_of z) order all ∙ sym (times-by_z z item (items_of z)))

-- an item is painted under its parent's own content
abbrev is_under : List ℤ → ℕ → Bool
is_under z item = int_lt (z_of z item) (pos 0)

abbrev under_count : List ℤ → List ℕ → ℕ
under_count z items = total (λ item. cond (is_under z item) 1 0) items

over_still : (p q : ℤ) (a b : ℕ) → int_lt p (pos 0) ≡ false → is_lt (ordering_then (int_cmp q p) (nat_cmp b a)) ≡ false → int_lt q (pos 0) ≡ false
over_still p q a b h later = grind (arith, ints, nat_tests)

-- those that come after one that is not under the content are not either
IsFirst-over : (z : List ℤ) (item : ℕ) (others : List ℕ) → is_under z item ≡ false → IsFirst z item others
    → AllByRecursion (λ other. pos 0 ≤ℤ z_of z other) others × (under_count z others ≡ 0)
IsFirst-over z item [] over least = (tt, refl)
IsFirst-over z item (other ∷ others) over least =
    let here : is_under z other ≡ false = over_still (z_of z item) (z_of z other) item other over least.0 in
    let (rest, none) = IsFirst-over z item others over least.1 in
    let passed : under_count z (other ∷ others) ≡ 0 + under_count z others = ap (λ b. cond b 1 0 + under_count z others) here in
    let at_least : pos 0 ≤ℤ z_of z other = grind (arith, ints) in
    ((at_least, rest), omega (arith, passed, none))

-- the first of a list are under the content, and the rest are not
record IsSplitAt (z : List ℤ) (items : List ℕ) (count : ℕ) : Type 0 where
  under : AllByRecursion (λ item. z_of z item <ℤ pos 0) (take count items)
  over : AllByRecursion (λ item. pos 0 ≤ℤ z_of z item) (drop count items)

IsSplitAt-under_count : (z : List ℤ) (items : List ℕ) → Rises z items → IsSplitAt z items (under_count z items)
IsSplitAt-under_count z [] rises = record { under = tt; over = tt }
IsSplitAt-under_count z (item ∷ items) rises =
    elim (cases_Bool (is_under z item)) [
      | inl here ↦
          let rest = IsSplitAt-under_count z items rises.1 in
          let found : under_count z (item ∷ items) ≡ 1 + under_count z items = ap (λ b. cond b 1 0 + under_count z items) here in
          let more : suc (under_count z items) ≡ under_count z (item ∷ items) = omega (arith, found) in
          let below : z_of z item <ℤ pos 0 = grind (arith, ints) in
          subst (IsSplitAt z (item ∷ items)) more (record { under = (below, rest.under); over = rest.over })
      | inr over ↦
          let (rest, none) = IsFirst-over z item items over rises.0 in
          let passed : under_count z (item ∷ items) ≡ 0 + under_count z items = ap (λ b. cond b 1 0 + under_count z items) over in
          let zero_count : 0 ≡ under_count z (item ∷ items) = omega (arith, passed, none) in
          let at_least : pos 0 ≤ℤ z_of z item = grind (arith, ints) in
          subst (IsSplitAt z (item ∷ items)) zero_count (record { under = tt; over = (at_least, rest) })
    ]

-- items from one on, whose z stand in a list
under_count-range : (z zs : List ℤ) (from : ℕ) → ((k : ℕ) → k < length zs → z_of z (from + k) ≡ get_or zs k (pos 0))
    → under_count z (range_with_len from (length zs)) ≡ count_by (λ v. int_lt v (pos 0)) zs
under_count-range z [] from same = refl
under_count-range z (v ∷ vs) from same =
    let here : z_of z from ≡ v = subst (λ k. z_of z k ≡ v) (omega arith) (same 0 (suc-le-suc zero-le)) in
    let rest = under_count-range z vs (from + 1) (λ k below. subst (λ n. z_of z n ≡ get_or vs k (pos 0)) (omega arith) (same (suc k) (suc-le-suc below))) in
    ap (λ y. cond (int_lt y (pos 0)) 1 0 + under_count z (range_with_len (from + 1) (length vs))) here
    ∙ ap (λ n. cond (int_lt v (pos 0)) 1 0 + n) rest
    ∙ sym (sum_by-cons (λ y. cond (int_lt y (pos 0)) 1 0) v vs)

-- of a sorted list of the items as many stand first as have a z below 0
pub split-from_sort : (z : List ℤ) (order : List ℕ) (count : ℕ) → IsPermutation (items_of z) order → IsSorted (paint_cmp z) order
    → count ≡ count_by (λ v. int_lt v (pos 0)) z
    → All (λ item. z_of z item <ℤ pos 0) (take count order) × All (λ item. pos 0 ≤ℤ z_of z item) (drop count order)
split-from_sort z order count all sorted is =
    let same : under_count z order ≡ count =
    total-permutation (λ item. cond (is_under z item) 1 0) (items_of z) order all
    ∙ under_count-range z z 0 (λ k below. ap (z_of z) (omega arith)) ∙ sym is in
    let split = subst (IsSplitAt z order) same (IsSplitAt-under_count z order (Rises-from_sort z order sorted)) in
    (All-from_recursion _ _ split.under, All-from_recursion _ _ split.over)
