-- The neighbours of a place, and the ends of a list, after one cell came or went.
use Rattle.std.proofs.Common.{◌≡◌, ℕ, zero, suc, ◌-◌, ◌<◌, ◌≤◌, ⊎_elim, List, [], ◌∷◌, length, Option, Some, None, refl, ap, sym, ◌∙◌, arith}
use Rattle.std.specs.List.{slice_get, insert, remove}
use Rattle.std.proofs.lemmas.Option.{slice_get_past, none-some}
use Rattle.std.proofs.lemmas.List.Edits.{length-insert, length-remove}
use Rattle.std.proofs.lemmas.Bool.{cases_lt}
use Rattle.links.specs.Cells.{previous_at}
use Rattle.links.proofs.Places.{slice_get-insert_below, slice_get-insert_at, slice_get-insert_above, slice_get-remove_below, slice_get-remove_above}

module _ (xs : List ℕ) (i : ℕ) (x : ℕ) (within : i ≤ length xs) where
  pub previous_at-insert_below : (j : ℕ) → j ≤ i → previous_at (insert xs i x) j ≡ previous_at xs j
  previous_at-insert_below zero h = refl
  previous_at-insert_below (suc j) h = slice_get-insert_below xs i j x (omega arith) within

  pub previous_at-insert_above : (j : ℕ) → i < j → previous_at (insert xs i x) (suc j) ≡ previous_at xs j
  previous_at-insert_above zero h = absurd (omega arith)
  previous_at-insert_above (suc j) h = slice_get-insert_above xs i j x (omega arith) within

module _ (xs : List ℕ) (i : ℕ) (within : i < length xs) where
  pub previous_at-remove_below : (j : ℕ) → j ≤ i → previous_at (remove xs i) j ≡ previous_at xs j
  previous_at-remove_below zero h = refl
  previous_at-remove_below (suc j) h = slice_get-remove_below xs i j (omega arith) within

  pub previous_at-remove_above : (j : ℕ) → i < j → previous_at (remove xs i) j ≡ previous_at xs (suc j)
  previous_at-remove_above zero h = absurd (omega arith)
  previous_at-remove_above (suc j) h = slice_get-remove_above xs i j (omega arith) within

-- the first of two, if there is nothing before, and else the second
abbrev pub if_none : Option ℕ → Option ℕ → Option ℕ → Option ℕ
if_none None here other = here
if_none (Some _) here other = other

if_none-some : (o here other : Option ℕ) (x : ℕ) → o ≡ Some x → if_none o here other ≡ other
if_none-some None here other x e = absurd (none-some x e)
if_none-some (Some y) here other x e = refl

if_none-none : (o here other : Option ℕ) → o ≡ None → if_none o here other ≡ here
if_none-none None here other e = refl
if_none-none (Some y) here other e = absurd (none-some y (sym e))

-- a place within a list has a cell
some_at : (xs : List ℕ) (i : ℕ) → i < length xs → (x : ℕ) × (slice_get xs i ≡ Some x)
some_at [] i h = absurd (omega arith)
some_at (x ∷ xs) zero h = (x, refl)
some_at (x ∷ xs) (suc i) h = some_at xs i (omega arith)

-- the first cell after one more
pub first-insert : (xs : List ℕ) (i x : ℕ) → i ≤ length xs → slice_get (insert xs i x) zero ≡ if_none (previous_at xs i) (Some x) (slice_get xs zero)
first-insert xs zero x h = slice_get-insert_at xs zero x h
first-insert xs (suc i) x h =
    let before = some_at xs i (omega arith) in
    slice_get-insert_below xs (suc i) zero x (omega arith) h ∙ sym (if_none-some (slice_get xs i) (Some x) (slice_get xs zero) before.0 before.1)

-- the last cell after one more
pub last-insert : (xs : List ℕ) (i x : ℕ) → i ≤ length xs
    → slice_get (insert xs i x) (length (insert xs i x) - 1) ≡ if_none (slice_get xs i) (Some x) (slice_get xs (length xs - 1))
last-insert xs i x h =
    let count : length (insert xs i x) - 1 ≡ length xs = let more = length-insert xs i x h in omega arith in
    ⊎_elim
    (λ (inner : i < length xs).
    let after = some_at xs i inner in
    let place : length (insert xs i x) - 1 ≡ suc (length xs - 1) = omega arith in
    ap (slice_get (insert xs i x)) place ∙ slice_get-insert_above xs i (length xs - 1) x (omega arith) h
    ∙ sym (if_none-some (slice_get xs i) (Some x) (slice_get xs (length xs - 1)) after.0 after.1))
    (λ (end : length xs ≤ i).
    let place : length (insert xs i x) - 1 ≡ i = omega arith in
    ap (slice_get (insert xs i x)) place ∙ slice_get-insert_at xs i x h
    ∙ sym (if_none-none (slice_get xs i) (Some x) (slice_get xs (length xs - 1)) (slice_get_past xs i end)))
    (cases_lt i (length xs))

-- the first cell after one less
pub first-remove : (xs : List ℕ) (i : ℕ) → i < length xs → slice_get (remove xs i) zero ≡ if_none (previous_at xs i) (slice_get xs (suc i)) (slice_get xs zero)
first-remove xs zero h = slice_get-remove_above xs zero zero (omega arith) h
first-remove xs (suc i) h =
    let before = some_at xs i (omega arith) in
    slice_get-remove_below xs (suc i) zero (omega arith) h
    ∙ sym (if_none-some (slice_get xs i) (slice_get xs (suc (suc i))) (slice_get xs zero) before.0 before.1)

-- the last cell of what is left of a list that ended with this place
last-remove_end : (xs : List ℕ) (i : ℕ) → suc i ≡ length xs → slice_get (remove xs i) (i - 1) ≡ previous_at xs i
last-remove_end xs zero h = slice_get-remove_above xs zero zero (omega arith) (omega arith) ∙ slice_get_past xs 1 (omega arith)
last-remove_end xs (suc i) h =
    let place : suc i - 1 ≡ i = omega arith in
    ap (slice_get (remove xs (suc i))) place ∙ slice_get-remove_below xs (suc i) i (omega arith) (omega arith)

-- the last cell after one less
pub last-remove : (xs : List ℕ) (i : ℕ) → i < length xs
    → slice_get (remove xs i) (length (remove xs i) - 1) ≡ if_none (slice_get xs (suc i)) (previous_at xs i) (slice_get xs (length xs - 1))
last-remove xs i h =
    let less = length-remove xs i h in
    ⊎_elim
    (λ (inner : suc i < length xs).
    let after = some_at xs (suc i) inner in
    let place : length (remove xs i) - 1 ≡ length xs - 2 = omega arith in
    let back : suc (length xs - 2) ≡ length xs - 1 = omega arith in
    ap (slice_get (remove xs i)) place ∙ slice_get-remove_above xs i (length xs - 2) (omega arith) h ∙ ap (slice_get xs) back
    ∙ sym (if_none-some (slice_get xs (suc i)) (previous_at xs i) (slice_get xs (length xs - 1)) after.0 after.1))
    (λ (end : length xs ≤ suc i).
    let place : length (remove xs i) - 1 ≡ i - 1 = omega arith in
    ap (slice_get (remove xs i)) place ∙ last-remove_end xs i (omega arith)
    ∙ sym (if_none-none (slice_get xs (suc i)) (previous_at xs i) (slice_get xs (length xs - 1)) (slice_get_past xs (suc i) end)))
    (cases_lt (suc i) (length xs))
