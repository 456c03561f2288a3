-- The list of the positioners that wait.
use Rattle.std.proofs.Common.{◌≡◌, ◌≢◌, ℕ, zero, suc, ◌+◌, ◌<◌, true, false, List, [], ◌∷◌, ◌++◌, set, Some, refl, ap, sym, ◌∙◌, arith}
use Rattle.std.specs.Prelude.{replicate}
use Rattle.std.specs.List.{slice_get, range_with_len}
use Rattle.std.proofs.lemmas.List.{length-replicate, replicate-append-replicate}
use Rattle.std.proofs.lemmas.Option.{none-some, same_Some}
use Rattle.links.specs.Slots.{placed}
use Rattle.links.specs.Chains.{Chains, cells_in, HasList, HasCell, IsLoose}
use Rattle.links.proofs.Places.{placed_end}
use Rattle.polish.specs.Waiting.{IsWaiting}

-- a list of true has no false, and has true below its length
pub no_false : (n i : ℕ) → slice_get (replicate n true) i ≢ Some false
no_false zero i e = none-some false e
no_false (suc n) zero e = let same = same_Some _ _ e in (cc)
no_false (suc n) (suc i) e = no_false n i e

pub true_below : (n i : ℕ) → i < n → slice_get (replicate n true) i ≡ Some true
true_below zero i h = absurd (omega arith)
true_below (suc n) zero h = refl
true_below (suc n) (suc i) h = true_below n i (omega arith)

-- one more at its end
pub placed-replicate : (n i : ℕ) → i ≡ n → placed (replicate n true) i true ≡ replicate (n + 1) true
placed-replicate n i e =
    placed_end (replicate n true) i true (e ∙ sym (length-replicate n true)) ∙ replicate-append-replicate n 1 true

-- numbers in order, with one more
range_more : (a n b : ℕ) → a + n ≡ b → range_with_len a n ++ b ∷ [] ≡ range_with_len a (suc n)
range_more a zero b e = let same : b ≡ a = omega arith in ap (λ x. x ∷ []) same
range_more a (suc n) b e = ap (λ xs. a ∷ xs) (range_more (a + 1) n b (omega arith))

pub range-push : (n : ℕ) → range_with_len 0 n ++ n ∷ [] ≡ range_with_len 0 (n + 1)
range-push n = let next : suc n ≡ n + 1 = omega arith in range_more 0 n n (omega arith) ∙ ap (range_with_len 0) next

-- each of them is below the end
pub range-below : (a n i x : ℕ) → slice_get (range_with_len a n) i ≡ Some x → x < a + n
range-below a zero i x e = absurd (none-some x e)
range-below a (suc n) zero x e = let same = same_Some _ _ e in omega arith
range-below a (suc n) (suc i) x e = let rest = range-below (a + 1) n i x e in omega arith

-- the one list gets other cells
pub cells_in-set : (links : Chains) (list count : ℕ) (xs : List ℕ) → IsWaiting links list count → set links.lists list (Some xs) ≡ Some xs ∷ []
cells_in-set links list count xs waiting =
    ap (λ ls. set ls list (Some xs)) waiting.only_list ∙ ap (λ n. set (Some (cells_in links.lists list) ∷ []) n (Some xs)) waiting.first_list

own_cells : (list : ℕ) (xs : List ℕ) → list ≡ 0 → cells_in (Some xs ∷ []) list ≡ xs
own_cells list xs e = ap (cells_in (Some xs ∷ [])) e

pub cells_in-after : (links new : Chains) (list count : ℕ) (xs : List ℕ) → IsWaiting links list count → new ≡ record links { lists = set links.lists list (Some xs) } → cells_in new.lists list ≡ xs
cells_in-after links new list count xs waiting e =
    ap (λ (c : Chains). cells_in c.lists list) e ∙ (ap (λ ls. cells_in ls list) (cells_in-set links list count xs waiting) ∙ own_cells list xs waiting.first_list)

pub IsWaiting-after : (links new : Chains) (list count : ℕ) (xs : List ℕ) → IsWaiting links list count → new ≡ record links { lists = set links.lists list (Some xs) } → IsWaiting new list count
IsWaiting-after links new list count xs waiting e = record {
  first_list = waiting.first_list;
  only_list =
      ap (λ (c : Chains). c.lists) e ∙ (cells_in-set links list count xs waiting
      ∙ ap (λ ys. Some ys ∷ []) (sym (cells_in-after links new list count xs waiting e)));
  cells = ap (λ (c : Chains). c.cells) e ∙ waiting.cells;
}

-- there is the list, and the cells below the count
pub HasList-IsWaiting : (links : Chains) (list count : ℕ) → IsWaiting links list count → HasList links list
HasList-IsWaiting links list count waiting = rw (waiting.only_list, waiting.first_list) refl

pub HasCell-IsWaiting : (links : Chains) (list count cell : ℕ) → IsWaiting links list count → cell < count → HasCell links cell
HasCell-IsWaiting links list count cell waiting h = rw waiting.cells (true_below count cell h)

-- a cell that doesn't wait is in no list
other_cells : (xs : List ℕ) (list other place cell : ℕ) → list ≡ 0 → slice_get (cells_in (Some xs ∷ []) other) place ≡ Some cell → slice_get xs place ≡ Some cell
other_cells xs list zero place cell e f = f
other_cells xs list (suc other) place cell e f = absurd (none-some cell f)

pub IsLoose-IsWaiting : (links : Chains) (list count cell : ℕ) → IsWaiting links list count → ((place : ℕ) → slice_get (cells_in links.lists list) place ≢ Some cell) → IsLoose links cell
IsLoose-IsWaiting links list count cell waiting absent other place e =
    absent place (other_cells (cells_in links.lists list) list other place cell waiting.first_list (rw waiting.only_list at e))
