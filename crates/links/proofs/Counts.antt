-- How many slots are empty, after one was filled or emptied.
use Rattle.std.proofs.Common.{◌≡◌, ◌≢◌, ℕ, zero, suc, ◌+◌, ◌<◌, ◌≤◌, not, List, [], ◌∷◌, ◌++◌, length, set, map, Option, Some, None, option_map, is_some, refl, sym, arith}
use Rattle.std.specs.List.{slice_get, count_by}
use Rattle.std.proofs.lemmas.Grind.{common_steps}
use Rattle.std.proofs.lemmas.Option.{none-some, same_Some}
use Rattle.links.specs.Slots.{empty_count}

module _ {T : Type 0} where
  pub empty-filled : (slots : List (Option T)) (i : ℕ) (x : T) → slice_get slots i ≡ Some None → empty_count (set slots i (Some x)) + 1 ≡ empty_count slots
  empty-filled [] i x e = absurd (none-some None e)
  empty-filled (None ∷ slots) zero x e = omega arith
  empty-filled (Some y ∷ slots) zero x e = absurd (none-some y (sym (same_Some _ _ e)))
  empty-filled (None ∷ slots) (suc i) x e = omega (arith, empty-filled slots i x e)
  empty-filled (Some y ∷ slots) (suc i) x e = omega (arith, empty-filled slots i x e)

  pub empty-emptied : (slots : List (Option T)) (i : ℕ) (x : T) → slice_get slots i ≡ Some (Some x) → empty_count (set slots i None) ≡ empty_count slots + 1
  empty-emptied [] i x e = absurd (none-some (Some x) e)
  empty-emptied (None ∷ slots) zero x e = absurd (none-some x (same_Some _ _ e))
  empty-emptied (Some y ∷ slots) zero x e = omega arith
  empty-emptied (None ∷ slots) (suc i) x e = omega (arith, empty-emptied slots i x e)
  empty-emptied (Some y ∷ slots) (suc i) x e = omega (arith, empty-emptied slots i x e)

  pub empty-same : (slots : List (Option T)) (i : ℕ) (x y : T) → slice_get slots i ≡ Some (Some x) → empty_count (set slots i (Some y)) ≡ empty_count slots
  empty-same [] i x y e = refl
  empty-same (None ∷ slots) zero x y e = absurd (none-some x (same_Some _ _ e))
  empty-same (Some z ∷ slots) zero x y e = refl
  empty-same (None ∷ slots) (suc i) x y e = omega (arith, empty-same slots i x y e)
  empty-same (Some z ∷ slots) (suc i) x y e = omega (arith, empty-same slots i x y e)

  pub empty-push : (slots : List (Option T)) (x : T) → empty_count (slots ++ Some x ∷ []) ≡ empty_count slots
  empty-push [] x = refl
  empty-push (None ∷ slots) x = omega (arith, empty-push slots x)
  empty-push (Some z ∷ slots) x = omega (arith, empty-push slots x)

  pub empty-none : (slots : List (Option T)) → ((i : ℕ) → slice_get slots i ≢ Some None) → empty_count slots ≡ 0
  empty-none [] h = refl
  empty-none (None ∷ slots) h = absurd (h zero refl)
  empty-none (Some z ∷ slots) h = empty-none slots (λ i. h (suc i))

  pub empty-some : (slots : List (Option T)) (i : ℕ) → slice_get slots i ≡ Some None → 0 < empty_count slots
  empty-some [] i e = absurd (none-some None e)
  empty-some (None ∷ slots) i e = omega arith
  empty-some (Some z ∷ slots) zero e = absurd (none-some z (sym (same_Some _ _ e)))
  empty-some (Some z ∷ slots) (suc i) e = empty-some slots i e

  -- a slot without a value
  pub vacant_slot : (slots : List (Option T)) (i : ℕ) → ((x : T) → slice_get slots i ≢ Some (Some x)) → i < length slots → slice_get slots i ≡ Some None
  vacant_slot [] i vacant within = absurd (omega arith)
  vacant_slot (None ∷ slots) zero vacant within = refl
  vacant_slot (Some z ∷ slots) zero vacant within = absurd (vacant z refl)
  vacant_slot (slot ∷ slots) (suc i) vacant within = vacant_slot slots i vacant (omega arith)

  pub empty-fits : (slots : List (Option T)) → empty_count slots ≤ length slots
  empty-fits [] = omega arith
  empty-fits (None ∷ slots) = omega (arith, empty-fits slots)
  empty-fits (Some z ∷ slots) = omega (arith, empty-fits slots)

-- what is shown of the slots has as many empty ones
pub empty-shown : {A B : Type 0} (f : A → B) (slots : List (Option A)) → empty_count (map (option_map f) slots) ≡ empty_count slots
empty-shown f [] = refl
empty-shown f (None ∷ slots) = omega (arith, empty-shown f slots)
empty-shown f (Some x ∷ slots) = omega (arith, empty-shown f slots)

pub empty-marked : {A : Type 0} (slots : List (Option A)) → count_by not (map is_some slots) ≡ empty_count slots
empty-marked [] = refl
empty-marked (None ∷ slots) = grind (arith, common_steps, empty-marked slots)
empty-marked (Some x ∷ slots) = grind (arith, common_steps, empty-marked slots)
