-- The numbers below one, and that the places are among them.
use Rattle.std.proofs.Common.{◌≡◌, ℕ, zero, suc, ◌<◌, List, [], ◌∷◌, ◌++◌, length, Some, refl, sym, ap, ◌∙◌, arith, length-append, ◌≢◌, ⊎_elim}
use Rattle.std.proofs.lemmas.Bool.{cases_eq}
use Rattle.std.specs.Prelude.{nat_eq, true, false, slice_get}
use Rattle.std.proofs.lemmas.List.Folds.{list_any_at}
use Rattle.std.proofs.lemmas.Option.{get_or_from_slice_get}
use Rattle.settling.specs.Cells.{Cell, plain, resting, fresh, under_way, stopped, active, marked, suspended, is_fresh, is_plain}
use Rattle.settling.specs.Spaces.{is_among}
use Rattle.settling_tests.specs.declared.net.Fault.{Fault}
use Rattle.settling_tests.specs.declared.net.Slot.{Slot}
use Rattle.settling_tests.specs.Nets.{at, within, itself, space, upto}

pub upto_length : (n : ℕ) → length (upto n) ≡ n
upto_length zero = refl
upto_length (suc n) = let rest = upto_length n in omega (arith, length-append (upto n) (n ∷ []))

last_at : (xs : List ℕ) (y : ℕ) → slice_get (xs ++ y ∷ []) (length xs) ≡ Some y
last_at [] y = refl
last_at (x ∷ xs) y = last_at xs y

before_at : (xs : List ℕ) (y i : ℕ) → i < length xs → slice_get (xs ++ y ∷ []) i ≡ slice_get xs i
before_at [] y i h = absurd (omega arith)
before_at (x ∷ xs) y zero h = refl
before_at (x ∷ xs) y (suc i) h = before_at xs y i (omega arith)

at_last : (n i : ℕ) → i ≡ n → slice_get (upto n ++ n ∷ []) i ≡ Some i
at_last n i e = ap (slice_get (upto n ++ n ∷ [])) (e ∙ sym (upto_length n)) ∙ last_at (upto n) n ∙ ap Some (sym e)

pub upto_at : (n i : ℕ) → i < n → slice_get (upto n) i ≡ Some i
upto_at zero i h = absurd (omega arith)
upto_at (suc n) i h =
    ⊎_elim
    (λ (e : i ≡ n). at_last n i e)
    (λ (other : i ≢ n). let size = upto_length n in let below : i < n = omega arith in before_at (upto n) n i (omega arith) ∙ upto_at n i below)
    (cases_eq i n)

not_plain : (c : Cell ℕ Fault) → is_fresh c ≡ true → is_plain c ≡ false
not_plain (plain k) h = sym h
not_plain (resting k) h = refl
not_plain (fresh k) h = refl
not_plain (under_way k) h = refl
not_plain (stopped k) h = refl
not_plain (active v) h = refl
not_plain (marked v f) h = refl
not_plain (suspended k) h = refl

-- each place that wasn't visited is among those to visit
pub covered : (slots : List Slot) (q : ℕ) → is_fresh (at slots q) ≡ true → is_among space (upto (length slots)) q ≡ true
covered slots q h =
    let below = within slots q (not_plain (at slots q) h) in
    let size = upto_length (length slots) in
    list_any_at (λ x. nat_eq x q) (upto (length slots)) q q (omega arith)
    (ap (λ (x : ℕ). nat_eq x q) (get_or_from_slice_get (upto (length slots)) q q q (upto_at (length slots) q below)) ∙ itself q)
