-- Lists of items: what is among them, and what is left without one.
use Rattle.std.proofs.Common.{◌≡◌, ◌≢◌, ◌⊎◌, ⊎_elim, inl, inr, ℕ, zero, suc, Bool, true, false, cond, ◌||◌, eqb, List, [], ◌∷◌, ◌++◌, map, Option, Some, None, option_map, refl, ap, sym, ◌∙◌, arith, eq-eqb}
use Rattle.std.specs.Prelude.{IfSome}
use Rattle.std.specs.List.{slice_get, remove, list_any}
use Rattle.std.proofs.lemmas.Option.{none-some, same_Some}
use Rattle.std.proofs.lemmas.Bool.Decides.{nat_tests}

or_right : (a b : Bool) → b ≡ true → (a || b) ≡ true
or_right true b e = refl
or_right false b e = e

other : (x s : ℕ) → x ≢ s → eqb x s ≡ false
other x s ne = grind (arith, nat_tests)

-- what is at a place is found, and what is at none is not
pub list_any_there : (xs : List ℕ) (place s : ℕ) → slice_get xs place ≡ Some s → list_any (λ x. eqb x s) xs ≡ true
list_any_there [] place s e = absurd (none-some s e)
list_any_there (x ∷ xs) zero s e = ap (λ b. b || list_any (λ y. eqb y s) xs) (eq-eqb x s (same_Some x s e))
list_any_there (x ∷ xs) (suc place) s e = or_right (eqb x s) _ (list_any_there xs place s e)

pub list_any_absent : (xs : List ℕ) (s : ℕ) → ((place : ℕ) → slice_get xs place ≢ Some s) → list_any (λ x. eqb x s) xs ≡ false
list_any_absent [] s absent = refl
list_any_absent (x ∷ xs) s absent =
    ap (λ b. b || list_any (λ y. eqb y s) xs) (other x s (λ e. absent zero (ap Some e))) ∙ list_any_absent xs s (λ place. absent (suc place))

pub map-remove : {A B : Type 0} (f : A → B) (xs : List A) (place : ℕ) → map f (remove xs place) ≡ remove (map f xs) place
map-remove f [] zero = refl
map-remove f [] (suc place) = refl
map-remove f (x ∷ xs) zero = refl
map-remove f (x ∷ xs) (suc place) = ap (λ ys. f x ∷ ys) (map-remove f xs place)

pushed_there : (xs : List ℕ) (s place t : ℕ) → slice_get (xs ++ s ∷ []) place ≡ Some t → ((j : ℕ) × (slice_get xs j ≡ Some t)) ⊎ (t ≡ s)
pushed_there [] s zero t e = inr (sym (same_Some s t e))
pushed_there [] s (suc place) t e = absurd (none-some t e)
pushed_there (x ∷ xs) s zero t e = inl (zero, e)
pushed_there (x ∷ xs) s (suc place) t e =
    ⊎_elim (λ (there : (j : ℕ) × (slice_get xs j ≡ Some t)). inl (suc there.0, there.1)) (λ (is : t ≡ s). inr is) (pushed_there xs s place t e)

-- functions that agree at each element
pub map_agree : (f g : ℕ → ℕ) (xs : List ℕ) → ((place x : ℕ) → slice_get xs place ≡ Some x → f x ≡ g x) → map f xs ≡ map g xs
map_agree f g [] same = refl
map_agree f g (x ∷ xs) same =
    ap (λ y. y ∷ map f xs) (same zero x refl) ∙ ap (λ ys. g x ∷ ys) (map_agree f g xs (λ place. same (suc place)))

-- where a mapped list has an element, the list has one that gives it
pub from_mapped : (f : ℕ → ℕ) (o : Option ℕ) (s : ℕ) → option_map f o ≡ Some s → (x : ℕ) × ((o ≡ Some x) × (f x ≡ s))
from_mapped f None s e = absurd (none-some s e)
from_mapped f (Some x) s e = (x, (refl, same_Some (f x) s e))

-- a marked item is among the others, or the one
pub marked_there : (xs : List ℕ) (s place t : ℕ) (b : Bool) → slice_get (cond b xs (xs ++ s ∷ [])) place ≡ Some t → ((j : ℕ) × (slice_get xs j ≡ Some t)) ⊎ (t ≡ s)
marked_there xs s place t true e = inl (place, e)
marked_there xs s place t false e = pushed_there xs s place t e

-- what stands at a place is in the list
pub there_at : (xs : List ℕ) (place : ℕ) (o : Option ℕ) → o ≡ slice_get xs place → IfSome o (λ s. (j : ℕ) × (slice_get xs j ≡ Some s))
there_at xs place None e = tt
there_at xs place (Some s) e = (place, sym e)
