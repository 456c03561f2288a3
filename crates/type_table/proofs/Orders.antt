-- What it means that numbers are listed in the order of their paths.
use Rattle.std.proofs.Common.{◌≡◌, ◌≢◌, ℕ, zero, suc, ◌<◌, ◌≤◌, ◌+◌, ◌⊎◌, Bool, true, false, ◌||◌, List, [], ◌∷◌, None, Some, position, cond, nat_eq, length, get_or, IsTrue, refl, ap, sym, subst, ◌∙◌, arith, ⊎_elim, inl, inr}
use Rattle.std.specs.List.{list_any, slice_get, position_or_len}
use Rattle.std.specs.Option.{IsSomeAnd, option_map}
use Rattle.std.specs.Prelude.{map as list_map}
use Rattle.std.specs.FinMap as map
use Rattle.std.specs.Ordering.{nat_cmp, is_lt, ordering_reverse}
use Rattle.std.specs.declared.cmp.Ordering.{Ordering}
use Rattle.std.specs.declared.cmp.Ordering.TheVariants.{Less, Equal, Greater}
use Rattle.std.proofs.lemmas.Cmp.{nat_list_cmp_total, tied_itself}
use Rattle.std.specs.Cmp.Lexicographic.{slice_cmp, pointwise}
use Rattle.std.proofs.lemmas.Bool.{false≢true, eqb-true, le-ltb, cases_lt}
use Rattle.std.proofs.lemmas.List.Sums.{position_or_len_is}
use Rattle.type_table.specs.declared.built_in.BuiltIn.{BuiltIn}
use Rattle.type_table.specs.declared.slot.Slot.{Slot}
use Rattle.type_table.specs.Slots.{NamedSlot, slots, paths, find_slot}
use Rattle.type_table.specs.Order.{path_at, rises, has_below, is_order}
use Rattle.type_table.proofs.Places.{left, right, position-map}

less : (o : Ordering) → IsTrue (is_lt o) → o ≡ Less
less Less h = refl
less Equal h = absurd (false≢true h)
less Greater h = absurd (false≢true h)

-- ---- the paths rise
rises_all : (paths : List (List ℕ)) (first : List ℕ) (order : List ℕ) → IsTrue (rises paths first order) → (k : ℕ) → k < length order → slice_cmp nat_cmp first (path_at paths (get_or order k 0)) ≡ Less
rises_all paths first [] h k below = absurd (omega arith)
rises_all paths first (i ∷ rest) h zero below = less _ (left _ _ h)
rises_all paths first (i ∷ rest) h (suc k) below =
    nat_list_cmp_total.trans first (path_at paths i) (path_at paths (get_or rest k 0)) (less _ (left _ _ h)) (rises_all paths (path_at paths i) rest (right _ _ h) k (omega arith))

pub rises_between : (paths : List (List ℕ)) (first : List ℕ) (order : List ℕ) → IsTrue (rises paths first order) → (j k : ℕ) → j < k → k < length order → slice_cmp nat_cmp (path_at paths (get_or order j 0)) (path_at paths (get_or order k 0)) ≡ Less
rises_between paths first [] h j k before below = absurd (omega arith)
rises_between paths first (i ∷ rest) h j zero before below = absurd (omega arith)
rises_between paths first (i ∷ rest) h zero (suc k) before below = rises_all paths (path_at paths i) rest (right _ _ h) k (omega arith)
rises_between paths first (i ∷ rest) h (suc j) (suc k) before below =
    rises_between paths (path_at paths i) rest (right _ _ h) j k (omega arith) (omega arith)

-- ---- each number is listed
either : (a b : Bool) → IsTrue (a || b) → IsTrue a ⊎ IsTrue b
either true b h = inl refl
either false b h = inr h

listed : (n : ℕ) (order : List ℕ) → IsTrue (list_any (nat_eq n) order) → (k : ℕ) × (k < length order) × (get_or order k 0 ≡ n)
listed n [] h = absurd (false≢true h)
listed n (i ∷ rest) h =
    ⊎_elim
    (λ here. (0, omega arith, sym (eqb-true n i here)))
    (λ later. let at = listed n rest later in (suc at.0, omega arith, at.2))
    (either (nat_eq n i) (list_any (nat_eq n) rest) h)

pub has_each : (n : ℕ) (order : List ℕ) → IsTrue (has_below n order) → (i : ℕ) → i < n → (k : ℕ) × (k < length order) × (get_or order k 0 ≡ i)
has_each zero order h i below = absurd (omega arith)
has_each (suc n) order h i below =
    ⊎_elim
    (λ (lower : i < n). has_each n order (right _ _ h) i lower)
    (λ (last : n ≤ i). let same : n ≡ i = omega arith in subst (λ j. (k : ℕ) × (k < length order) × (get_or order k 0 ≡ j)) same (listed n order (left _ _ h)))
    (cases_lt i n)

-- ---- a path that none of them is
text_same : (a b : List ℕ) → IsTrue (pointwise nat_eq a b) → a ≡ b
text_same [] [] h = refl
text_same [] (y ∷ ys) h = absurd (false≢true h)
text_same (x ∷ xs) [] h = absurd (false≢true h)
text_same (x ∷ xs) (y ∷ ys) h = λ i. eqb-true x y (left _ _ h) i ∷ text_same xs ys (right _ _ h) i

not_same : (b : Bool) → (IsTrue b → ⊥) → b ≡ false
not_same true h = absurd (h refl)
not_same false h = refl

pub apart : (a b : List ℕ) → slice_cmp nat_cmp a b ≢ Equal → pointwise nat_eq a b ≡ false
apart a b h =
    not_same (pointwise nat_eq a b) (λ same. h (ap (slice_cmp nat_cmp a) (sym (text_same a b same)) ∙ tied_itself nat_list_cmp_total a))

pub no_position : (p : List ℕ → Bool) (xs : List (List ℕ)) → ((i : ℕ) → i < length xs → p (get_or xs i []) ≡ false) → position p xs ≡ None
no_position p xs none =
    let e : position_or_len p xs ≡ length xs = position_or_len_is p xs (length xs) [] (omega arith) none (λ below. absurd (omega arith)) in
    ap (λ b. cond b (Some (position_or_len p xs)) None) (le-ltb (position_or_len p xs) (length xs) (omega arith))

-- what is known once the search has met: each listed path is before the one that is sought, or after it
pub record Parts (paths : List (List ℕ)) (order : List ℕ) (path : List ℕ) (low high : ℕ) : Type 0 where
  pub bound : high ≤ length order
  pub below : (k : ℕ) → k < low → slice_cmp nat_cmp (path_at paths (get_or order k 0)) path ≡ Less
  pub above : (k : ℕ) → high ≤ k → k < length order → slice_cmp nat_cmp (path_at paths (get_or order k 0)) path ≡ Greater

not_equal : (o : Ordering) → (o ≡ Less) ⊎ (o ≡ Greater) → o ≢ Equal
not_equal o h e = ⊎_elim (λ l. let x : Less ≡ Equal = sym l ∙ e in cc) (λ g. let x : Greater ≡ Equal = sym g ∙ e in cc) h

pub none_there : (paths : List (List ℕ)) (order : List ℕ) (path : List ℕ) (low high : ℕ) → IsTrue (has_below (length paths) order) → high ≤ low → Parts paths order path low high → position (λ p. pointwise nat_eq p path) paths ≡ None
none_there paths order path low high all met parts =
    no_position (λ p. pointwise nat_eq p path) paths
    (λ i inside.
    let at = has_each (length paths) order all i inside in
    subst (λ j. pointwise nat_eq (path_at paths j) path ≡ false) at.2
    (apart (path_at paths (get_or order at.0 0)) path
    (not_equal _
    (⊎_elim
    (λ (before : at.0 < low). inl (parts.below at.0 before))
    (λ (after : low ≤ at.0). inr (parts.above at.0 (omega arith) at.1))
    (cases_lt at.0 low)))))

-- a step to either side
pub parts_after : (paths : List (List ℕ)) (first : List ℕ) (order : List ℕ) (path : List ℕ) (low high middle : ℕ) → IsTrue (rises paths first order) → middle < length order → slice_cmp nat_cmp (path_at paths (get_or order middle 0)) path ≡ Less → Parts paths order path low high → Parts paths order path (middle + 1) high
parts_after paths first order path low high middle up inside here parts = record {
  bound = parts.bound;
  below = λ k before.
      ⊎_elim
      (λ (earlier : k < middle). nat_list_cmp_total.trans (path_at paths (get_or order k 0)) (path_at paths (get_or order middle 0)) path (rises_between paths first order up k middle earlier inside) here)
      (λ (later : middle ≤ k). let same : middle ≡ k = omega arith in subst (λ j. slice_cmp nat_cmp (path_at paths (get_or order j 0)) path ≡ Less) same here)
      (cases_lt k middle);
  above = parts.above;
}

turned : (o p : Ordering) → o ≡ ordering_reverse p → p ≡ Less → o ≡ Greater
turned o p e h = e ∙ ap ordering_reverse h

back : (o p : Ordering) → o ≡ ordering_reverse p → p ≡ Greater → o ≡ Less
back o p e h = e ∙ ap ordering_reverse h

pub parts_before : (paths : List (List ℕ)) (first : List ℕ) (order : List ℕ) (path : List ℕ) (low high middle : ℕ) → IsTrue (rises paths first order) → middle < length order → slice_cmp nat_cmp (path_at paths (get_or order middle 0)) path ≡ Greater → Parts paths order path low high → Parts paths order path low middle
parts_before paths first order path low high middle up inside here parts = record {
  bound = omega arith;
  below = parts.below;
  above = λ k from below.
      ⊎_elim
      (λ (later : middle < k).
      turned _ _ (nat_list_cmp_total.antisymm (path_at paths (get_or order k 0)) path)
      (nat_list_cmp_total.trans path (path_at paths (get_or order middle 0)) (path_at paths (get_or order k 0))
      (back _ _ (nat_list_cmp_total.antisymm path (path_at paths (get_or order middle 0))) here)
      (rises_between paths first order up middle k later below)))
      (λ (same : k ≤ middle). let e : middle ≡ k = omega arith in subst (λ j. slice_cmp nat_cmp (path_at paths (get_or order j 0)) path ≡ Greater) e here)
      (cases_lt middle k);
}

-- the path of a slot is that of its number
path_is : (xs : List NamedSlot) (i : ℕ) (p : List ℕ) → IsSomeAnd (slice_get xs i) (λ s. p ≡ s.path) → p ≡ path_at (list_map (λ s. s.path) xs) i
path_is [] i p h = absurd h
path_is (x ∷ xs) zero p h = h
path_is (x ∷ xs) (suc i) p h = path_is xs i p h

-- what a comparison with the slot in the middle says
pub compared : (t : BuiltIn) (order path p : List ℕ) (middle i : ℕ) (o r : Ordering) → i ≡ get_or order middle 0 → IsSomeAnd (slice_get (slots t) i) (λ s. p ≡ s.path) → o ≡ slice_cmp nat_cmp p path → o ≡ r → slice_cmp nat_cmp (path_at (paths t) (get_or order middle 0)) path ≡ r
compared t order path p middle i o r at is answer e =
    ap (λ j. slice_cmp nat_cmp (path_at (paths t) j) path) (sym at)
    ∙ ap (λ q. slice_cmp nat_cmp q path) (sym (path_is (slots t) i p is))
    ∙ sym answer
    ∙ e

-- the slot that is met is the one that is sought
pub met_slot : (t : BuiltIn) (p path : List ℕ) (i : ℕ) (o : Ordering) → o ≡ slice_cmp nat_cmp p path → o ≡ Equal → find_slot t p ≡ Some (record { index = i }) → Some (record { index = i }) ≡ find_slot t path
met_slot t p path i o answer e found =
    sym (ap (find_slot t) (sym (map.slice_cmp-IsAntisymmetric map.nat_cmp-IsAntisymmetric p path (sym answer ∙ e))) ∙ found)

-- no slot is met
pub no_slot : (t : BuiltIn) (order path : List ℕ) (low high : ℕ) → IsTrue (is_order (paths t) order) → high ≤ low → Parts (paths t) order path low high → None ≡ find_slot t path
no_slot t order path low high is met parts =
    sym (ap (option_map {U = Slot} (λ i. record { index = i }))
    (sym (position-map (λ p. pointwise nat_eq p path) (λ s. s.path) (slots t))
    ∙ none_there (paths t) order path low high (right _ _ (right _ _ is)) met parts))
