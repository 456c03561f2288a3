-- Slots that have a value, and how many numbers below a bound a list has.
use Rattle.std.proofs.Common.{◌≡◌, ◌≢◌, ℕ, zero, suc, ◌<◌, ◌≤◌, ⊎_elim, true, false, eqb, List, [], ◌∷◌, length, get_or, Option, Some, None, unwrap_or, IsSome, refl, ap, sym, ◌∙◌, arith}
use Rattle.std.specs.List.{slice_get, list_any}
use Rattle.std.proofs.lemmas.Option.{slice_get_within, slice_get-get_or}
use Rattle.std.proofs.lemmas.Bool.{cases_eq}
use Rattle.std.proofs.lemmas.Bool.Decides.{nat_tests}
use Rattle.std.proofs.lemmas.Map.Keys.{IsDistinct-from_apart}
use Rattle.std.proofs.lemmas.Map.Steps.{length-le_from_distinct_below}
use Rattle.links.specs.Slots.{IsApart}

-- a number that a list has stands somewhere
place_of : (xs : List ℕ) (x : ℕ) → list_any (eqb x) xs ≡ true → (i : ℕ) × (slice_get xs i ≡ Some x)
place_of [] x h = absurd (cc)
place_of (y ∷ ys) x h =
    ⊎_elim (λ (e : x ≡ y). (zero, ap Some (sym e)))
    (λ (ne : x ≢ y).
    let passed : eqb x y ≡ false = grind (arith, nat_tests) in
    let later : list_any (eqb x) ys ≡ true = rw passed at h in
    let rest = place_of ys x later in
    (suc rest.0, rest.1))
    (cases_eq x y)

-- numbers below n that stand once are at most n
pub length-le_from_IsApart : (xs : List ℕ) (n : ℕ) → IsApart xs → ((i x : ℕ) → slice_get xs i ≡ Some x → x < n) → length xs ≤ n
length-le_from_IsApart xs n apart below =
    length-le_from_distinct_below xs n
    (IsDistinct-from_apart eqb xs
    (λ i j d low high.
    let differ : get_or xs i d ≢ get_or xs j d = λ e.
    let same : i ≡ j = apart.place i j (get_or xs j d) (slice_get-get_or xs i d (omega arith) ∙ ap Some e) (slice_get-get_or xs j d high) in
    omega arith in
    grind (arith, nat_tests)))
    (λ q h. let found = place_of xs q h in below found.0 q found.1)

-- a slot that has a value
pub occupied : {T : Type 0} (slots : List (Option T)) (i : ℕ) → IsSome (unwrap_or (slice_get slots i) None) → (v : T) × (slice_get slots i ≡ Some (Some v))
occupied [] i h = absurd (cc)
occupied (None ∷ slots) zero h = absurd (cc)
occupied (Some v ∷ slots) zero h = (v, refl)
occupied (slot ∷ slots) (suc i) h = occupied slots i h

pub occupied_within : {T : Type 0} (slots : List (Option T)) (i : ℕ) → IsSome (unwrap_or (slice_get slots i) None) → i < length slots
occupied_within slots i h = let found = occupied slots i h in slice_get_within slots i (Some found.0) found.1
