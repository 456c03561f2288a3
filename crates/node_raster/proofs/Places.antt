-- What stands in lists.
use Rattle.std.proofs.Common.{◌≡◌, ◌⊎◌, inl, inr, ℕ, zero, suc, List, [], ◌∷◌, ◌++◌, map, take, drop, Option, Some, None, refl, ap, ◌∙◌}
use Rattle.std.specs.List.{slice_get}
use Rattle.std.specs.Prelude.{option_map}
use Rattle.std.proofs.lemmas.Option.{none-some, same_Some}

-- the list has it
abbrev pub Has : {A : Type 0} → List A → A → Type 0
Has xs x = (place : ℕ) × (slice_get xs place ≡ Some x)

pub in_left : {A : Type 0} (xs ys : List A) (place : ℕ) (x : A) → slice_get xs place ≡ Some x → Has (xs ++ ys) x
in_left [] ys place x at = absurd (none-some x at)
in_left (y ∷ xs) ys zero x at = (zero, at)
in_left (y ∷ xs) ys (suc place) x at = let rest = in_left xs ys place x at in (suc rest.0, rest.1)

pub in_right : {A : Type 0} (xs ys : List A) (place : ℕ) (x : A) → slice_get ys place ≡ Some x → Has (xs ++ ys) x
in_right [] ys place x at = (place, at)
in_right (y ∷ xs) ys place x at = let rest = in_right xs ys place x at in (suc rest.0, rest.1)

pub in_map : {A B : Type 0} (f : A → B) (xs : List A) (place : ℕ) (x : A) → slice_get xs place ≡ Some x → slice_get (map f xs) place ≡ Some (f x)
in_map f [] place x at = absurd (none-some x at)
in_map f (y ∷ xs) zero x at = ap (option_map f) at
in_map f (y ∷ xs) (suc place) x at = in_map f xs place x at

-- it comes from one of the list
pub from_map : {A B : Type 0} (f : A → B) (xs : List A) (place : ℕ) (y : B) → slice_get (map f xs) place ≡ Some y → (x : A) × ((slice_get xs place ≡ Some x) × (f x ≡ y))
from_map f [] place y at = absurd (none-some y at)
from_map f (x ∷ xs) zero y at = (x, (refl, same_Some (f x) y at))
from_map f (x ∷ xs) (suc place) y at = from_map f xs place y at

-- a list in two parts has what it has in one of them
pub in_part : {A : Type 0} (n : ℕ) (xs : List A) (place : ℕ) (x : A) → slice_get xs place ≡ Some x → Has (take n xs) x ⊎ Has (drop n xs) x
in_part zero xs place x at = inr (place, at)
in_part (suc n) [] place x at = absurd (none-some x at)
in_part (suc n) (y ∷ xs) zero x at = inl (zero, at)
in_part (suc n) (y ∷ xs) (suc place) x at =
    elim (in_part n xs place x at) [ inl there ↦ inl (suc there.0, there.1) | inr there ↦ inr there ]

-- what a list has, wrapped
pub unwrapped : {A : Type 0} (xs : List A) (ys : List (Option A)) → map Some xs ≡ ys → (x : A) → Has ys (Some x) → Has xs x
unwrapped xs ys same x has =
    let from = from_map Some xs has.0 (Some x) (ap (λ zs. slice_get zs has.0) same ∙ has.1) in
    (has.0, from.1.0 ∙ from.1.1)

-- what an option has under a function
pub from_option : {A B : Type 0} (f : A → B) (o : Option A) (y : B) → option_map f o ≡ Some y → (x : A) × ((o ≡ Some x) × (f x ≡ y))
from_option f None y e = absurd (none-some y e)
from_option f (Some x) y e = (x, (refl, same_Some (f x) y e))
