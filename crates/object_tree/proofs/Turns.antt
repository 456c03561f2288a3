-- Loops that go through a list.
use Rattle.std.proofs.Common.{zero, suc, ◌≡◌, ◌∙◌, ℕ, ◌+◌, ◌<◌, List, [], ◌∷◌, length, get_or, map, fold, take, drop, Bool, true, false, cond, Option, None, Some, refl, sym, ap, subst, add-one, arith}
use Rattle.std.specs.Prelude.{slice_get, position, IsSomeAnd}
use Rattle.std.specs.List.{position_from}
use Rattle.std.proofs.lemmas.Iterator.Adapters.{position_from-zero}

-- what is left to be added, with the item at hand added
left_after : {X A B : Type 0} (g : B → A → B) (f : X → A) (xs : List X) (i : ℕ) (x : A) (b : B) → IsSomeAnd (slice_get xs i) (λ y. x ≡ f y) →
    fold g b (map f (drop i xs)) ≡ fold g (g b x) (map f (drop (suc i) xs))
left_after g f [] i x b is = absurd is
left_after g f (y ∷ ys) zero x b is = ap (λ z. fold g (g b z) (map f ys)) (sym is)
left_after g f (y ∷ ys) (suc i) x b is = left_after g f ys i x b is

pub left : {X A B : Type 0} (g : B → A → B) (f : X → A) (xs : List X) (i : ℕ) (x : A) (b : B) → IsSomeAnd (slice_get xs i) (λ y. x ≡ f y) →
    fold g b (map f (drop i xs)) ≡ fold g (g b x) (map f (drop (i + 1) xs))
left g f xs i x b is = rw add-one (left_after g f xs i x b is)

-- an item that does not pass
none_after : {X : Type 0} (p : X → Bool) (n : ℕ) (xs : List X) (i : ℕ) → IsSomeAnd (slice_get xs i) (λ x. p x ≡ false) → position_from p n (take i xs) ≡ None → position_from p n (take (suc i) xs) ≡ None
none_after p n [] i fails none = refl
none_after p n (x ∷ xs) zero fails none = rw fails refl
none_after {X} p n (x ∷ xs) (suc i) fails none = by (p x) none (none_after p (n + 1) xs i fails)
  where
    by : (b : Bool) → cond b (Some n) (position_from p (n + 1) (take i xs)) ≡ None → (position_from p (n + 1) (take i xs) ≡ None → position_from p (n + 1) (take (suc i) xs) ≡ None) →
        cond b (Some n) (position_from p (n + 1) (take (suc i) xs)) ≡ None
    by true none rest = none
    by false none rest = rest none

pub none_more : {X : Type 0} (p : X → Bool) (xs : List X) (i : ℕ) → IsSomeAnd (slice_get xs i) (λ x. p x ≡ false) → position p (take i xs) ≡ None → position p (take (i + 1) xs) ≡ None
none_more p xs i fails none =
    rw add-one (position_from-zero p (take (suc i) xs) ∙ none_after p 0 xs i fails (sym (position_from-zero p (take i xs)) ∙ none))

-- an item that has this in the place of x
pub some_along : {X A : Type 0} (f : X → A) (P : A → Type 0) (o : Option X) (a : A) → IsSomeAnd o (λ x. a ≡ f x) → P a → IsSomeAnd o (λ x. P (f x))
some_along f P None a is holds = is
some_along f P (Some x) a is holds = subst P is holds

-- the same at an item that a loop has
pub left_item : {X A B : Type 0} (g : B → A → B) (f : X → A) (xs : List X) (i : ℕ) (x : X) (b : B) → x ≡ get_or xs i x → i < length xs →
    fold g b (map f (drop i xs)) ≡ fold g (g b (f x)) (map f (drop (i + 1) xs))
left_item {X} g f xs i x b is within = rw add-one (after xs i is within)
  where
    after : (xs : List X) (i : ℕ) → x ≡ get_or xs i x → i < length xs → fold g b (map f (drop i xs)) ≡ fold g (g b (f x)) (map f (drop (suc i) xs))
    after [] i is within = absurd (omega arith)
    after (y ∷ ys) zero is within = ap (λ z. fold g (g b (f z)) (map f ys)) (sym is)
    after (y ∷ ys) (suc i) is within = after ys i is (omega arith)
