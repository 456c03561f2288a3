-- Lists of numbers without one of them.
use Rattle.std.proofs.Common.{◌≡◌, ◌≢◌, ⊎_elim, ℕ, zero, suc, cond, not, eqb, List, [], ◌∷◌, Some, refl, ap, sym, ◌∙◌, arith, eq-eqb}
use Rattle.std.specs.List.{slice_get, remove, filter}
use Rattle.std.proofs.lemmas.Option.{none-some, same_Some}
use Rattle.std.proofs.lemmas.Bool.{cases_eq, ne_eqb}

abbrev pub without : ℕ → List ℕ → List ℕ
without s xs = filter (λ x. not (eqb x s)) xs

-- what a filter does to a list by its first number
pub skips : (x s : ℕ) (xs : List ℕ) → x ≡ s → without s (x ∷ xs) ≡ without s xs
skips x s xs e = ap (λ b. cond (not b) (x ∷ without s xs) (without s xs)) (eq-eqb x s e)

pub keeps : (x s : ℕ) (xs : List ℕ) → x ≢ s → without s (x ∷ xs) ≡ x ∷ without s xs
keeps x s xs ne = ap (λ b. cond (not b) (x ∷ without s xs) (without s xs)) (ne_eqb x s ne)

-- nothing is taken away, or one
pub without_absent : (xs : List ℕ) (s : ℕ) → ((place : ℕ) → slice_get xs place ≢ Some s) → without s xs ≡ xs
without_absent [] s absent = refl
without_absent (x ∷ xs) s absent =
    keeps x s xs (λ e. absent zero (ap Some e)) ∙ ap (λ ys. x ∷ ys) (without_absent xs s (λ place. absent (suc place)))

pub without_there : (xs : List ℕ) (place s : ℕ) → slice_get xs place ≡ Some s → ((j : ℕ) → slice_get xs j ≡ Some s → j ≡ place) → without s xs ≡ remove xs place
without_there [] place s e only = absurd (none-some s e)
without_there (x ∷ xs) zero s e only =
    skips x s xs (same_Some x s e)
    ∙ without_absent xs s (λ j f. let no : suc j ≡ zero = only (suc j) f in absurd (omega arith))
without_there (x ∷ xs) (suc place) s e only =
    keeps x s xs (λ same. let no : zero ≡ suc place = only zero (ap Some same) in absurd (omega arith))
    ∙ ap (λ ys. x ∷ ys) (without_there xs place s e (λ j f. let next : suc j ≡ suc place = only (suc j) f in omega arith))

left_first : (x : ℕ) (xs : List ℕ) (s place t : ℕ) → x ≢ s → slice_get (x ∷ without s xs) place ≡ Some t
    → ((p : ℕ) → slice_get (without s xs) p ≡ Some t → (j : ℕ) × ((slice_get xs j ≡ Some t) × (t ≢ s))) → (j : ℕ) × ((slice_get (x ∷ xs) j ≡ Some t) × (t ≢ s))
left_first x xs s zero t ne e rest = (zero, (e, λ same. ne (same_Some x t e ∙ same)))
left_first x xs s (suc place) t ne e rest = let found = rest place e in (suc found.0, found.1)

-- what is left was there, in that order, and isn't the one
pub left : (xs : List ℕ) (s place t : ℕ) → slice_get (without s xs) place ≡ Some t → (j : ℕ) × ((slice_get xs j ≡ Some t) × (t ≢ s))
left [] s place t e = absurd (none-some t e)
left (x ∷ xs) s place t e =
    ⊎_elim
    (λ (same : x ≡ s).
    let rest = left xs s place t (ap (λ ys. slice_get ys place) (sym (skips x s xs same)) ∙ e) in
    (suc rest.0, rest.1))
    (λ (ne : x ≢ s). left_first x xs s place t ne (ap (λ ys. slice_get ys place) (sym (keeps x s xs ne)) ∙ e) (λ p f. left xs s p t f))
    (cases_eq x s)

-- another number is left
pub kept : (xs : List ℕ) (s place t : ℕ) → slice_get xs place ≡ Some t → t ≢ s → (j : ℕ) × (slice_get (without s xs) j ≡ Some t)
kept [] s place t e ne = absurd (none-some t e)
kept (x ∷ xs) s zero t e ne =
    (zero, ap (λ ys. slice_get ys zero) (keeps x s xs (λ same. ne (sym (same_Some x t e) ∙ same))) ∙ e)
kept (x ∷ xs) s (suc place) t e ne =
    let rest = kept xs s place t e ne in
    ⊎_elim
    (λ (same : x ≡ s). (rest.0, ap (λ ys. slice_get ys rest.0) (skips x s xs same) ∙ rest.1))
    (λ (differ : x ≢ s). (suc rest.0, ap (λ ys. slice_get ys (suc rest.0)) (keeps x s xs differ) ∙ rest.1))
    (cases_eq x s)
