-- Names that are added to others.
use Rattle.std.proofs.Common.{◌≡◌, ◌⊎◌, inl, inr, ℕ, zero, suc, Bool, true, false, nat_eq, ◌||◌, List, [], ◌∷◌, ◌++◌, length, fold, slice_get, Option, None, Some, refl, sym, ap, subst, ◌∙◌, true≢false, append-nil, if◌then◌else◌}
use Rattle.std.specs.Cmp.Lexicographic.{pointwise, bytes_decides, nat_list_eq_equiv}
use Rattle.std.specs.List.{list_any}
use Rattle.std.proofs.lemmas.List.{append_assoc}
use Rattle.type_loader.specs.Naming.{among, with_name}

pub same_name : (a b : List ℕ) → pointwise nat_eq a b ≡ true → a ≡ b
same_name a b h = (bytes_decides a b).0 h

pub name_itself : (a : List ℕ) → pointwise nat_eq a a ≡ true
name_itself a = (bytes_decides a a).1 refl

-- a fold over one list and another
pub fold_append : {A B : Type 0} (f : A → B → A) (a : A) (xs ys : List B) → fold f a (xs ++ ys) ≡ fold f (fold f a xs) ys
fold_append f a [] ys = refl
fold_append f a (x ∷ xs) ys = fold_append f (f a x) xs ys

-- Lists that begin with others

pub record IsFrontOf {A : Type 0} (front all : List A) : Type 0 where
  pub rest : List A
  pub is : all ≡ front ++ rest

pub front_itself : {A : Type 0} (xs : List A) → IsFrontOf xs xs
front_itself xs = record { rest = []; is = sym (append-nil xs) }

pub front_of_front : {A : Type 0} (xs ys zs : List A) → IsFrontOf xs ys → IsFrontOf ys zs → IsFrontOf xs zs
front_of_front xs ys zs first second = record { rest = first.rest ++ second.rest; is = second.is ∙ (ap (λ l. l ++ second.rest) first.is ∙ append_assoc xs first.rest second.rest) }

-- what stands in the front stands there still
pub stands_in_front : {A : Type 0} (xs ys : List A) (i : ℕ) (x : A) → IsFrontOf xs ys → slice_get xs i ≡ Some x → slice_get ys i ≡ Some x
stands_in_front {A = A} xs ys i x front at = subst (λ l. slice_get l i ≡ Some x) (sym front.is) (there xs front.rest i at)
  where
    there : (us vs : List A) (k : ℕ) → slice_get us k ≡ Some x → slice_get (us ++ vs) k ≡ Some x
    there [] vs k h = absurd cc
    there (u ∷ us) vs zero h = h
    there (u ∷ us) vs (suc k) h = there us vs k h

-- Names with more

or_right : (a : Bool) → (a || true) ≡ true
or_right true = refl
or_right false = refl

among_behind : (xs ys : List (List ℕ)) (n : List ℕ) → among xs n ≡ true → among (xs ++ ys) n ≡ true
among_behind [] ys n h = absurd (true≢false (sym h))
among_behind (x ∷ xs) ys n h =
    elim (pointwise nat_eq n x) as (λ b. (b || among xs n) ≡ true → (b || among (xs ++ ys) n) ≡ true) [ true ↦ λ _. refl | false ↦ λ k. among_behind xs ys n k ] h

among_last : (xs : List (List ℕ)) (n : List ℕ) → among (xs ++ n ∷ []) n ≡ true
among_last [] n = ap (λ b. b || false) (name_itself n)
among_last (x ∷ xs) n = ap (λ b. pointwise nat_eq n x || b) (among_last xs n) ∙ or_right (pointwise nat_eq n x)

-- a name that is among two lists is among one of them
pub among_either : (xs ys : List (List ℕ)) (n : List ℕ) → among (xs ++ ys) n ≡ true → (among xs n ≡ true) ⊎ (among ys n ≡ true)
among_either [] ys n h = inr h
among_either (x ∷ xs) ys n h =
    elim (pointwise nat_eq n x) as (λ b. (b || among (xs ++ ys) n) ≡ true → ((b || among xs n) ≡ true) ⊎ (among ys n ≡ true)) [ true ↦ λ _. inl refl | false ↦ λ k. among_either xs ys n k ] h

pub only_name : (n m : List ℕ) → among (m ∷ []) n ≡ true → n ≡ m
only_name n m h = same_name n m (by (pointwise nat_eq n m) h)
  where
    by : (b : Bool) → (b || false) ≡ true → b ≡ true
    by true h = refl
    by false h = h

-- the list with a name begins with the list
pub front_with_name : (ns : List (List ℕ)) (n : List ℕ) → IsFrontOf ns (with_name ns n)
front_with_name ns n = by (among ns n)
  where
    by : (b : Bool) → IsFrontOf ns (if b then ns else ns ++ n ∷ [])
    by true = front_itself ns
    by false = record { rest = n ∷ []; is = refl }

pub front_with_names : (ns more : List (List ℕ)) → IsFrontOf ns (fold with_name ns more)
front_with_names ns [] = front_itself ns
front_with_names ns (n ∷ more) = front_of_front ns (with_name ns n) (fold with_name (with_name ns n) more) (front_with_name ns n) (front_with_names (with_name ns n) more)

pub among_front : (xs ys : List (List ℕ)) (n : List ℕ) → IsFrontOf xs ys → among xs n ≡ true → among ys n ≡ true
among_front xs ys n front h = subst (λ l. among l n ≡ true) (sym front.is) (among_behind xs front.rest n h)

-- an added name is there
pub among_added : (ns : List (List ℕ)) (n : List ℕ) → among (with_name ns n) n ≡ true
among_added ns n = by (among ns n) refl
  where
    by : (b : Bool) → among ns n ≡ b → among (if b then ns else ns ++ n ∷ []) n ≡ true
    by true h = h
    by false h = among_last ns n

-- a name of a list with one more is of the list, or it is that one
pub among_with_name : (ns : List (List ℕ)) (m n : List ℕ) → among (with_name ns m) n ≡ true → (among ns n ≡ true) ⊎ (n ≡ m)
among_with_name ns m n h = by (among ns m) h
  where
    last : (among ns n ≡ true) ⊎ (among (m ∷ []) n ≡ true) → (among ns n ≡ true) ⊎ (n ≡ m)
    last (inl old) = inl old
    last (inr new) = inr (only_name n m new)

    by : (b : Bool) → among (if b then ns else ns ++ m ∷ []) n ≡ true → (among ns n ≡ true) ⊎ (n ≡ m)
    by true h = inl h
    by false h = last (among_either ns (m ∷ []) n h)

-- added names are there
pub among_all_added : (ns more : List (List ℕ)) (n : List ℕ) → among more n ≡ true → among (fold with_name ns more) n ≡ true
among_all_added ns [] n h = absurd (true≢false (sym h))
among_all_added ns (m ∷ more) n h = by (pointwise nat_eq n m) refl h (λ k. among_all_added (with_name ns m) more n k)
  where
    by : (b : Bool) → pointwise nat_eq n m ≡ b → (b || among more n) ≡ true → (among more n ≡ true → among (fold with_name (with_name ns m) more) n ≡ true) → among (fold with_name (with_name ns m) more) n ≡ true
    by true e h later = among_front (with_name ns m) (fold with_name (with_name ns m) more) n (front_with_names (with_name ns m) more)
        (subst (λ k. among (with_name ns m) k ≡ true) (sym (same_name n m e)) (among_added ns m))
    by false e h later = later h

-- a name of a list with more is of the list or of those
pub among_with_names : (ns more : List (List ℕ)) (n : List ℕ) → among (fold with_name ns more) n ≡ true → (among ns n ≡ true) ⊎ (among more n ≡ true)
among_with_names ns [] n h = inl h
among_with_names ns (m ∷ more) n h = by (among_with_names (with_name ns m) more n h)
  where
    first : (among ns n ≡ true) ⊎ (n ≡ m) → (among ns n ≡ true) ⊎ ((pointwise nat_eq n m || among more n) ≡ true)
    first (inl old) = inl old
    first (inr same) = inr (ap (λ b. b || among more n) (subst (λ k. pointwise nat_eq n k ≡ true) same (name_itself n)))

    by : (among (with_name ns m) n ≡ true) ⊎ (among more n ≡ true) → (among ns n ≡ true) ⊎ ((pointwise nat_eq n m || among more n) ≡ true)
    by (inl h) = first (among_with_name ns m n h)
    by (inr h) = inr (ap (λ b. pointwise nat_eq n m || b) h ∙ or_right (pointwise nat_eq n m))

-- what stands in a list is among it, and what is among it stands there
pub among_standing : (ns : List (List ℕ)) (i : ℕ) (n : List ℕ) → slice_get ns i ≡ Some n → among ns n ≡ true
among_standing [] i n h = absurd cc
among_standing (m ∷ ns) zero n h =
    let same : m ≡ n = cc in
    ap (λ b. b || among ns n) (subst (λ k. pointwise nat_eq n k ≡ true) (sym same) (name_itself n))
among_standing (m ∷ ns) (suc i) n h = ap (λ b. pointwise nat_eq n m || b) (among_standing ns i n h) ∙ or_right (pointwise nat_eq n m)

pub stands_among : (ns : List (List ℕ)) (n : List ℕ) → among ns n ≡ true → (i : ℕ) × (slice_get ns i ≡ Some n)
stands_among [] n h = absurd (true≢false (sym h))
stands_among (m ∷ ns) n h = by (pointwise nat_eq n m) refl h (λ k. stands_among ns n k)
  where
    next : ((i : ℕ) × (slice_get ns i ≡ Some n)) → (i : ℕ) × (slice_get (m ∷ ns) i ≡ Some n)
    next at = (suc at.0, at.1)

    by : (b : Bool) → pointwise nat_eq n m ≡ b → (b || among ns n) ≡ true → (among ns n ≡ true → (i : ℕ) × (slice_get ns i ≡ Some n)) → (i : ℕ) × (slice_get (m ∷ ns) i ≡ Some n)
    by true e h later = (0, ap (λ k. Some k) (sym (same_name n m e)))
    by false e h later = next (later h)
