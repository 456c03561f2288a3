-- What a list has at each place, after it was changed at one.
use Rattle.std.proofs.Common.{◌≡◌, ◌≢◌, ℕ, zero, suc, ◌<◌, ◌≤◌, List, [], ◌∷◌, ◌++◌, length, set, map, Option, Some, None, unwrap_or, refl, ap, sym, ◌∙◌, arith}
use Rattle.std.specs.List.{slice_get, insert, remove}
use Rattle.std.proofs.lemmas.Option.{unwrap_or-slice_get}
use Rattle.std.proofs.lemmas.List.{set-get_or}
use Rattle.links.specs.Slots.{placed}

pub slice_get-set_same : {A : Type 0} (xs : List A) (i : ℕ) (x : A) → i < length xs → slice_get (set xs i x) i ≡ Some x
slice_get-set_same [] i x h = absurd (omega arith)
slice_get-set_same (y ∷ ys) zero x h = refl
slice_get-set_same (y ∷ ys) (suc i) x h = slice_get-set_same ys i x (omega arith)

pub slice_get-set_other : {A : Type 0} (xs : List A) (i j : ℕ) (x : A) → j ≢ i → slice_get (set xs i x) j ≡ slice_get xs j
slice_get-set_other [] i j x h = refl
slice_get-set_other (y ∷ ys) zero zero x h = absurd (h refl)
slice_get-set_other (y ∷ ys) zero (suc j) x h = refl
slice_get-set_other (y ∷ ys) (suc i) zero x h = refl
slice_get-set_other (y ∷ ys) (suc i) (suc j) x h = slice_get-set_other ys i j x (λ e. h (ap suc e))

-- a write of what stands there
pub slice_get-placed_same : {A : Type 0} (xs : List A) (i : ℕ) (x : A) → i ≤ length xs → slice_get (placed xs i x) i ≡ Some x
slice_get-placed_same [] zero x h = refl
slice_get-placed_same [] (suc i) x h = absurd (omega arith)
slice_get-placed_same (y ∷ ys) zero x h = refl
slice_get-placed_same (y ∷ ys) (suc i) x h = slice_get-placed_same ys i x (omega arith)

pub slice_get-placed_other : {A : Type 0} (xs : List A) (i j : ℕ) (x : A) → i ≤ length xs → j ≢ i → slice_get (placed xs i x) j ≡ slice_get xs j
slice_get-placed_other [] zero zero x h ne = absurd (ne refl)
slice_get-placed_other [] zero (suc j) x h ne = refl
slice_get-placed_other [] (suc i) j x h ne = absurd (omega arith)
slice_get-placed_other (y ∷ ys) zero zero x h ne = absurd (ne refl)
slice_get-placed_other (y ∷ ys) zero (suc j) x h ne = refl
slice_get-placed_other (y ∷ ys) (suc i) zero x h ne = refl
slice_get-placed_other (y ∷ ys) (suc i) (suc j) x h ne = slice_get-placed_other ys i j x (omega arith) (λ e. ne (ap suc e))

pub map-placed : {A B : Type 0} (f : A → B) (xs : List A) (i : ℕ) (x : A) → map f (placed xs i x) ≡ placed (map f xs) i (f x)
map-placed f [] i x = refl
map-placed f (y ∷ ys) zero x = refl
map-placed f (y ∷ ys) (suc i) x = ap (λ zs. f y ∷ zs) (map-placed f ys i x)

-- within the list, and at its end
pub placed_within : {A : Type 0} (xs : List A) (i : ℕ) (x : A) → i < length xs → placed xs i x ≡ set xs i x
placed_within [] i x h = absurd (omega arith)
placed_within (y ∷ ys) zero x h = refl
placed_within (y ∷ ys) (suc i) x h = ap (λ zs. y ∷ zs) (placed_within ys i x (omega arith))

pub placed_end : {A : Type 0} (xs : List A) (n : ℕ) (x : A) → n ≡ length xs → placed xs n x ≡ xs ++ x ∷ []
placed_end [] n x e = refl
placed_end (y ∷ ys) zero x e = absurd (omega arith)
placed_end (y ∷ ys) (suc n) x e = ap (λ zs. y ∷ zs) (placed_end ys n x (omega arith))

-- a write of what stands there, or of nothing past the end
pub set_same : {A : Type 0} (xs : List (Option A)) (i : ℕ) (slot : Option A) → unwrap_or (slice_get xs i) None ≡ slot → set xs i slot ≡ xs
set_same xs i slot e = ap (set xs i) (sym e ∙ unwrap_or-slice_get xs i None) ∙ set-get_or xs i None

-- one more element before a place
pub slice_get-insert_below : {A : Type 0} (xs : List A) (i j : ℕ) (x : A) → j < i → i ≤ length xs → slice_get (insert xs i x) j ≡ slice_get xs j
slice_get-insert_below [] i j x below within = absurd (omega arith)
slice_get-insert_below (y ∷ ys) zero j x below within = absurd (omega arith)
slice_get-insert_below (y ∷ ys) (suc i) zero x below within = refl
slice_get-insert_below (y ∷ ys) (suc i) (suc j) x below within = slice_get-insert_below ys i j x (omega arith) (omega arith)

pub slice_get-insert_at : {A : Type 0} (xs : List A) (i : ℕ) (x : A) → i ≤ length xs → slice_get (insert xs i x) i ≡ Some x
slice_get-insert_at [] zero x within = refl
slice_get-insert_at [] (suc i) x within = absurd (omega arith)
slice_get-insert_at (y ∷ ys) zero x within = refl
slice_get-insert_at (y ∷ ys) (suc i) x within = slice_get-insert_at ys i x (omega arith)

pub slice_get-insert_above : {A : Type 0} (xs : List A) (i j : ℕ) (x : A) → i ≤ j → i ≤ length xs → slice_get (insert xs i x) (suc j) ≡ slice_get xs j
slice_get-insert_above [] zero j x above within = refl
slice_get-insert_above [] (suc i) j x above within = absurd (omega arith)
slice_get-insert_above (y ∷ ys) zero j x above within = refl
slice_get-insert_above (y ∷ ys) (suc i) zero x above within = absurd (omega arith)
slice_get-insert_above (y ∷ ys) (suc i) (suc j) x above within = slice_get-insert_above ys i j x (omega arith) (omega arith)

-- one element less
pub slice_get-remove_below : {A : Type 0} (xs : List A) (i j : ℕ) → j < i → i < length xs → slice_get (remove xs i) j ≡ slice_get xs j
slice_get-remove_below [] i j below within = absurd (omega arith)
slice_get-remove_below (y ∷ ys) zero j below within = absurd (omega arith)
slice_get-remove_below (y ∷ ys) (suc i) zero below within = refl
slice_get-remove_below (y ∷ ys) (suc i) (suc j) below within = slice_get-remove_below ys i j (omega arith) (omega arith)

pub slice_get-remove_above : {A : Type 0} (xs : List A) (i j : ℕ) → i ≤ j → i < length xs → slice_get (remove xs i) j ≡ slice_get xs (suc j)
slice_get-remove_above [] i j above within = absurd (omega arith)
slice_get-remove_above (y ∷ ys) zero j above within = refl
slice_get-remove_above (y ∷ ys) (suc i) zero above within = absurd (omega arith)
slice_get-remove_above (y ∷ ys) (suc i) (suc j) above within = slice_get-remove_above ys i j (omega arith) (omega arith)
