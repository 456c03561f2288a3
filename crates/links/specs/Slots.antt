-- Numbered slots, of which some are empty.
use Rattle.std.specs.Prelude.{◌≡◌, ℕ, zero, suc, ◌+◌, List, [], ◌∷◌, Option, Some, None, slice_get, refl}
use Rattle.std.specs.Coded.{Coded, code_by, coded×, coded_ℕ, coded_list, coded_option}

-- the value or nothing at each number from 0 on, and how many values may be added
pub record Slots (T : Type 0) : Type 0 where
  pub slots : List (Option T)
  pub spare : ℕ

-- slots are stored as the pair of the fields
abbrev pub slots_code : {T : Type 0} → Coded T → Coded (Slots T)
slots_code {T} code =
    code_by (List (Option T) × ℕ) (coded× (coded_list (coded_option code)) coded_ℕ)
    (λ s. (s.slots, s.spare)) (λ p. record { slots = p.0; spare = p.1 }) (λ _. refl)

-- the list with x at a place that is at most its length: over what stands there, or at the end
abbrev pub placed : {A : Type 0} → List A → ℕ → A → List A
placed [] i x = x ∷ []
placed (y ∷ ys) zero x = x ∷ ys
placed (y ∷ ys) (suc i) x = y ∷ placed ys i x

-- no number stands twice
pub record IsApart (xs : List ℕ) : Type 0 where
  pub place : (i j x : ℕ) → slice_get xs i ≡ Some x → slice_get xs j ≡ Some x → i ≡ j

-- how many slots are empty
abbrev pub empty_count : {T : Type 0} → List (Option T) → ℕ
empty_count [] = 0
empty_count (None ∷ slots) = 1 + empty_count slots
empty_count (Some value ∷ slots) = empty_count slots
