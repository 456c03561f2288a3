-- What is in lists.
use Rattle.std.proofs.Common.{◌≡◌, ◌≢◌, ◌==◌, ◌⊎◌, ⊎_elim, inl, inr, ℕ, zero, suc, not, List, [], ◌∷◌, ◌++◌, map, Some, refl, ap, sym, ◌∙◌, arith, append_assoc, append-nil, subst}
use Rattle.std.specs.List.{slice_get, flat_map}
use Rattle.std.proofs.lemmas.Option.{none-some, same_Some}
use Rattle.std.proofs.lemmas.Bool.{cases_eq}
use Rattle.std.proofs.lemmas.List.Elements.{filter-append}
use Rattle.links.proofs.Lists.{left, kept, without_absent as nothing_lost}
use Rattle.sg_nodes.specs.Forest.{without}
use Rattle.sg_sync.specs.Own.{IsIn}
use Rattle.sg_sync.specs.Linking.{HasSegment, Distinct}

pub in_none : {A : Type 0} (x : A) → ¬ IsIn [] x
in_none x is = none-some x is.1

pub in_first : {A : Type 0} (x : A) (xs : List A) → IsIn (x ∷ xs) x
in_first x xs = (zero, refl)

pub in_rest : {A : Type 0} (y : A) (xs : List A) (x : A) → IsIn xs x → IsIn (y ∷ xs) x
in_rest y xs x is = (suc is.0, is.1)

at_first : {A : Type 0} (y : A) (xs : List A) (x : A) (place : ℕ) → slice_get (y ∷ xs) place ≡ Some x → (y ≡ x) ⊎ IsIn xs x
at_first y xs x zero e = inl (same_Some y x e)
at_first y xs x (suc place) e = inr (place, e)

pub first_or_rest : {A : Type 0} (y : A) (xs : List A) (x : A) → IsIn (y ∷ xs) x → (y ≡ x) ⊎ IsIn xs x
first_or_rest y xs x is = at_first y xs x is.0 is.1

pub in_left : {A : Type 0} (xs ys : List A) (x : A) → IsIn xs x → IsIn (xs ++ ys) x
in_left [] ys x is = absurd (in_none x is)
in_left (y ∷ xs) ys x is =
    ⊎_elim (λ (e : y ≡ x). (zero, ap Some e)) (λ (rest : IsIn xs x). in_rest y (xs ++ ys) x (in_left xs ys x rest)) (first_or_rest y xs x is)

pub in_right : {A : Type 0} (xs ys : List A) (x : A) → IsIn ys x → IsIn (xs ++ ys) x
in_right [] ys x is = is
in_right (y ∷ xs) ys x is = in_rest y (xs ++ ys) x (in_right xs ys x is)

pub in_either : {A : Type 0} (xs ys : List A) (x : A) → IsIn (xs ++ ys) x → IsIn xs x ⊎ IsIn ys x
in_either [] ys x is = inr is
in_either (y ∷ xs) ys x is =
    ⊎_elim (λ (e : y ≡ x). inl (zero, ap Some e))
    (λ (rest : IsIn (xs ++ ys) x).
    ⊎_elim (λ (there : IsIn xs x). inl (in_rest y xs x there)) (λ (there : IsIn ys x). inr there) (in_either xs ys x rest))
    (first_or_rest y (xs ++ ys) x is)

pub in_map : {A B : Type 0} (f : A → B) (xs : List A) (x : A) → IsIn xs x → IsIn (map f xs) (f x)
in_map f [] x is = absurd (in_none x is)
in_map f (y ∷ xs) x is =
    ⊎_elim (λ (e : y ≡ x). (zero, ap (λ z. Some (f z)) e)) (λ (rest : IsIn xs x). in_rest (f y) (map f xs) (f x) (in_map f xs x rest)) (first_or_rest y xs x is)

pub in_mapped : {A B : Type 0} (f : A → B) (xs : List A) (y : B) → IsIn (map f xs) y → (x : A) × (IsIn xs x × (f x ≡ y))
in_mapped f [] y is = absurd (in_none y is)
in_mapped f (x ∷ xs) y is =
    ⊎_elim (λ (e : f x ≡ y). (x, (in_first x xs, e)))
    (λ (rest : IsIn (map f xs) y). let found = in_mapped f xs y rest in (found.0, (in_rest x xs found.0 found.1.0, found.1.1)))
    (first_or_rest (f x) (map f xs) y is)

pub in_flat : {A B : Type 0} (f : A → List B) (xs : List A) (y : B) → IsIn (flat_map f xs) y → (x : A) × (IsIn xs x × IsIn (f x) y)
in_flat f [] y is = absurd (in_none y is)
in_flat f (x ∷ xs) y is =
    ⊎_elim (λ (here : IsIn (f x) y). (x, (in_first x xs, here)))
    (λ (rest : IsIn (flat_map f xs) y). let found = in_flat f xs y rest in (found.0, (in_rest x xs found.0 found.1.0, found.1.1)))
    (in_either (f x) (flat_map f xs) y is)

pub in_flat_of : {A B : Type 0} (f : A → List B) (xs : List A) (x : A) (y : B) → IsIn xs x → IsIn (f x) y → IsIn (flat_map f xs) y
in_flat_of f [] x y is there = absurd (in_none x is)
in_flat_of f (z ∷ xs) x y is there =
    ⊎_elim (λ (e : z ≡ x). in_left (f z) (flat_map f xs) y (subst (λ w. IsIn (f w) y) (sym e) there))
    (λ (rest : IsIn xs x). in_right (f z) (flat_map f xs) y (in_flat_of f xs x y rest there))
    (first_or_rest z xs x is)

-- whether a number is in a list
pub in_or_not : (xs : List ℕ) (x : ℕ) → IsIn xs x ⊎ (¬ IsIn xs x)
in_or_not [] x = inr (in_none x)
in_or_not (y ∷ xs) x =
    ⊎_elim (λ (e : y ≡ x). inl (zero, ap Some e))
    (λ (ne : y ≢ x).
    ⊎_elim (λ (there : IsIn xs x). inl (in_rest y xs x there))
    (λ (not_there : ¬ IsIn xs x). inr (λ is. ⊎_elim ne not_there (first_or_rest y xs x is)))
    (in_or_not xs x))
    (cases_eq y x)

-- what a list is without a number
pub without_absent : (xs : List ℕ) (s : ℕ) → ¬ IsIn xs s → without s xs ≡ xs
without_absent xs s absent = nothing_lost xs s (λ place e. absent (place, e))

pub in_without : (xs : List ℕ) (s x : ℕ) → IsIn (without s xs) x → IsIn xs x
in_without xs s x is = let there = left xs s is.0 x is.1 in (there.0, there.1.0)

pub in_without_other : (xs : List ℕ) (s x : ℕ) → IsIn xs x → x ≢ s → IsIn (without s xs) x
in_without_other xs s x is other = kept xs s is.0 x is.1 other

-- a segment stays where what leaves the list isn't in it
pub segment_without : (xs segment : List ℕ) (s : ℕ) → HasSegment xs segment → ¬ IsIn segment s → HasSegment (without s xs) segment
segment_without xs segment s has absent = (
  without s has.0,
  (
    without s has.1.0,
    ap (without s) has.1.1
        ∙ (filter-append (λ x. not (x == s)) has.0 (segment ++ has.1.0)
        ∙ ap (λ ys. without s has.0 ++ ys)
        (filter-append (λ x. not (x == s)) segment has.1.0 ∙ ap (λ ys. ys ++ without s has.1.0) (without_absent segment s absent))),
  ),
)

pub segment_pushed : (xs segment : List ℕ) (s : ℕ) → HasSegment xs segment → HasSegment (xs ++ s ∷ []) segment
segment_pushed xs segment s has = (
  has.0,
  (
    has.1.0 ++ s ∷ [],
    ap (λ ys. ys ++ s ∷ []) has.1.1
        ∙ (append_assoc has.0 (segment ++ has.1.0) (s ∷ []) ∙ ap (λ ys. has.0 ++ ys) (append_assoc segment has.1.0 (s ∷ []))),
  ),
)

-- no value stands twice
pub distinct_by_place : {A : Type 0} (xs : List A) → ((i j : ℕ) (x : A) → slice_get xs i ≡ Some x → slice_get xs j ≡ Some x → i ≡ j) → Distinct xs
distinct_by_place [] once = tt
distinct_by_place (x ∷ xs) once = (
  λ is. let no : zero ≡ suc is.0 = once zero (suc is.0) x refl is.1 in absurd (omega arith),
  distinct_by_place xs (λ i j y e f. let next : suc i ≡ suc j = once (suc i) (suc j) y e f in omega arith),
)

pub distinct-append : {A : Type 0} (xs ys : List A) → Distinct xs → Distinct ys → ((x : A) → IsIn xs x → ¬ IsIn ys x) → Distinct (xs ++ ys)
distinct-append [] ys a b apart = b
distinct-append (x ∷ xs) ys a b apart = (
  λ is. ⊎_elim (λ (left : IsIn xs x). a.0 left) (λ (right : IsIn ys x). apart x (in_first x xs) right) (in_either xs ys x is),
  distinct-append xs ys a.1 b (λ y is. apart y (in_rest x xs y is)),
)

pub distinct_left : {A : Type 0} (xs ys : List A) → Distinct (xs ++ ys) → Distinct xs
distinct_left [] ys d = tt
distinct_left (x ∷ xs) ys d = (λ is. d.0 (in_left xs ys x is), distinct_left xs ys d.1)

pub distinct_right : {A : Type 0} (xs ys : List A) → Distinct (xs ++ ys) → Distinct ys
distinct_right [] ys d = d
distinct_right (x ∷ xs) ys d = distinct_right xs ys d.1

pub distinct_apart : {A : Type 0} (xs ys : List A) (x : A) → Distinct (xs ++ ys) → IsIn xs x → ¬ IsIn ys x
distinct_apart [] ys x d is there = in_none x is
distinct_apart (y ∷ xs) ys x d is there =
    ⊎_elim (λ (e : y ≡ x). d.0 (subst (IsIn (xs ++ ys)) (sym e) (in_right xs ys x there))) (λ (rest : IsIn xs x). distinct_apart xs ys x d.1 rest there) (first_or_rest y xs x is)

pub distinct-map : {A B : Type 0} (g : A → B) (xs : List A) → Distinct xs → ((x y : A) → IsIn xs x → IsIn xs y → g x ≡ g y → x ≡ y) → Distinct (map g xs)
distinct-map g [] d same = tt
distinct-map g (x ∷ xs) d same = (
  λ is.
      let found = in_mapped g xs (g x) is in
      d.0 (subst (IsIn xs) (same found.0 x (in_rest x xs found.0 found.1.0) (in_first x xs) found.1.1) found.1.0),
  distinct-map g xs d.1 (λ a b p q e. same a b (in_rest x xs a p) (in_rest x xs b q) e),
)

-- a list without members is empty
pub no_members : {A : Type 0} (xs : List A) → ((x : A) → ¬ IsIn xs x) → xs ≡ []
no_members [] none = refl
no_members (x ∷ xs) none = absurd (none x (in_first x xs))

-- a list of distinct values that all stand in a segment is that segment
pub segment_is_all : {A : Type 0} (xs before segment after : List A) → xs ≡ before ++ (segment ++ after) → Distinct xs → ((x : A) → IsIn xs x → IsIn segment x) → xs ≡ segment
segment_is_all {A} xs before segment after e d all =
    let now : Distinct (before ++ (segment ++ after)) = subst Distinct e d in
    let none_before : before ≡ [] =
    no_members before (λ x is.
    distinct_apart before (segment ++ after) x now is (in_left segment after x (all x (subst (λ ys. IsIn ys x) (sym e) (in_left before (segment ++ after) x is))))) in
    let none_after : after ≡ [] =
    no_members after (λ x is.
    distinct_apart segment after x (distinct_right before (segment ++ after) now)
    (all x (subst (λ ys. IsIn ys x) (sym e) (in_right before (segment ++ after) x (in_right segment after x is)))) is) in
    e ∙ (ap (λ b. b ++ (segment ++ after)) none_before ∙ (ap (λ a. segment ++ a) none_after ∙ append-nil segment))

-- the places of one value
pub one_place : {A : Type 0} (xs : List A) (i j : ℕ) (x : A) → Distinct xs → slice_get xs i ≡ Some x → slice_get xs j ≡ Some x → i ≡ j
one_place [] i j x d e g = absurd (none-some x e)
one_place (y ∷ xs) zero zero x d e g = refl
one_place (y ∷ xs) zero (suc j) x d e g = absurd (d.0 (j, g ∙ sym e))
one_place (y ∷ xs) (suc i) zero x d e g = absurd (d.0 (i, e ∙ sym g))
one_place (y ∷ xs) (suc i) (suc j) x d e g = ap suc (one_place xs i j x d.1 e g)

-- functions that agree on what is in a list
pub map_alike : {A B : Type 0} (f g : A → B) (xs : List A) → ((x : A) → IsIn xs x → f x ≡ g x) → map f xs ≡ map g xs
map_alike f g [] same = refl
map_alike f g (x ∷ xs) same = ap (λ y. y ∷ map f xs) (same x (in_first x xs)) ∙ ap (λ ys. g x ∷ ys) (map_alike f g xs (λ y is. same y (in_rest x xs y is)))

pub map_twice : {A B C : Type 0} (f : A → B) (g : B → C) (xs : List A) → map g (map f xs) ≡ map (λ x. g (f x)) xs
map_twice f g [] = refl
map_twice f g (x ∷ xs) = ap (λ ys. g (f x) ∷ ys) (map_twice f g xs)
