-- Looking for the first of a list's items that passes a test, from the front on.
use Rattle.std.proofs.Common.{add-one, ◌≡◌, ℕ, zero, suc, ◌+◌, ◌<◌, Bool, true, false, List, [], ◌∷◌, length, take, slice_index_or, find, filter, None, Some, refl, arith}

-- where none before it passes the test, an item that does is found
pub found_at : {X : Type 0} (p : X → Bool) (xs : List X) (i : ℕ) (d : X) → find p (take i xs) ≡ None → i < length xs → p (slice_index_or xs i d) ≡ true → find p xs ≡ Some (slice_index_or xs i d)
found_at p [] i d none within holds = grind arith
found_at p (y ∷ ys) zero d none within holds = rw holds
found_at p (y ∷ ys) (suc i) d none within holds = grind (arith, found_at p ys i d)

-- where neither an item nor one before it passes the test, none is found up to it
none_more : {X : Type 0} (p : X → Bool) (xs : List X) (i : ℕ) (d : X) → find p (take i xs) ≡ None → i < length xs → p (slice_index_or xs i d) ≡ false → find p (take (suc i) xs) ≡ None
none_more p [] i d none within fails = grind arith
none_more p (y ∷ ys) zero d none within fails = rw fails
none_more p (y ∷ ys) (suc i) d none within fails = grind (arith, none_more p ys i d)

-- likewise, as a loop counts
pub none_next : {X : Type 0} (p : X → Bool) (xs : List X) (i : ℕ) (d : X) → find p (take i xs) ≡ None → i < length xs → p (slice_index_or xs i d) ≡ false → find p (take (i + 1) xs) ≡ None
none_next p xs i d none within fails = rw (add-one i) (none_more p xs i d none within fails)

-- where what passes one test passes another, the first that passes is found among those that pass the other
pub find_within : {X : Type 0} (p q : X → Bool) (xs : List X) → ((x : X) → p x ≡ true → q x ≡ true) → find p (filter q xs) ≡ find p xs
find_within p q [] each = refl
find_within p q (y ∷ ys) each = grind (arith, each y, find_within p q ys each)
