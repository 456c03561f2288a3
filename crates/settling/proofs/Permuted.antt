-- The loops in another order are the same loops.
use Rattle.std.proofs.Common.{◌≡◌, ℕ, suc, ◌≤◌, Bool, true, false, cond, List, [], ◌∷◌, refl, ap, subst, arith}
use Rattle.std.specs.List.{All, sum_by}
use Rattle.std.specs.List.Sorted.{IsPermutation}
use Rattle.std.proofs.lemmas.List.Elements.{All-nil, All-cons}
use Rattle.std.proofs.lemmas.List.Sorted.{All-permutation, list_any-IsPermutation, sum_by-IsPermutation}
use Rattle.std.proofs.lemmas.List.Sums.{sum_by-cons}
use Rattle.settling.specs.Runs.{Run}
use Rattle.settling.specs.Spaces.{Space}
use Rattle.settling.specs.Holding.{IsChain}
use Rattle.settling.specs.Loops.{has_loop, AreOnce, AreChains}

module _ {S P V F : Type 0} (space : Space S P V F) (tree : P → Run P V F) where
  pub has_loop_permuted : (xs ys : List (P × List P)) (p : P) → IsPermutation xs ys → has_loop space xs p ≡ has_loop space ys p
  has_loop_permuted xs ys p h = list_any-IsPermutation (λ (found : P × List P). space.are_same found.0 p) xs ys h

  chains_all : (s : S) (xs : List (P × List P)) → AreChains space tree s xs → All (λ (found : P × List P). IsChain space tree s found.0 found.1) xs
  chains_all s [] h = All-nil (λ (found : P × List P). IsChain space tree s found.0 found.1)
  chains_all s (x ∷ xs) h = All-cons (λ (found : P × List P). IsChain space tree s found.0 found.1) x xs h.0 (chains_all s xs h.1)

  all_chains : (s : S) (xs : List (P × List P)) → All (λ (found : P × List P). IsChain space tree s found.0 found.1) xs → AreChains space tree s xs
  all_chains s [] h = tt
  all_chains s (x ∷ xs) h = (h 0 x (omega arith), all_chains s xs (λ k d l. h (suc k) d (omega arith)))

  pub chains_permuted : (s : S) (xs ys : List (P × List P)) → IsPermutation xs ys → AreChains space tree s xs → AreChains space tree s ys
  chains_permuted s xs ys h chains =
      all_chains s ys (All-permutation (λ (found : P × List P). IsChain space tree s found.0 found.1) xs ys h (chains_all s xs chains))

  -- how many loops were found at the place
  abbrev at_place : P → P × List P → ℕ
  at_place p found = cond (space.are_same found.0 p) 1 0

  counted_here : (p : P) (found : P × List P) (b : Bool) → space.are_same found.0 p ≡ b → at_place p found ≡ cond b 1 0
  counted_here p found b e = ap (λ (c : Bool). cond {A = ℕ} c 1 0) e

  none_counted : (xs : List (P × List P)) (p : P) → has_loop space xs p ≡ false → sum_by (at_place p) xs ≡ 0
  none_counted [] p h = refl
  none_counted (x ∷ xs) p h = by (space.are_same x.0 p) refl (none_counted xs p)
    where
      by : (b : Bool) → space.are_same x.0 p ≡ b → (has_loop space xs p ≡ false → sum_by (at_place p) xs ≡ 0) → sum_by (at_place p) (x ∷ xs) ≡ 0
      by true e rest = let some : true ≡ false = rw e at h in cc
      by false e rest =
          let others = rest (let left = rw e at h in left) in
          let here = counted_here p x false e in
          let all = sum_by-cons (at_place p) x xs in
          omega arith

  counted_none : (xs : List (P × List P)) (p : P) → sum_by (at_place p) xs ≡ 0 → has_loop space xs p ≡ false
  counted_none [] p h = refl
  counted_none (x ∷ xs) p h = by (space.are_same x.0 p) refl (counted_none xs p)
    where
      by : (b : Bool) → space.are_same x.0 p ≡ b → (sum_by (at_place p) xs ≡ 0 → has_loop space xs p ≡ false) → has_loop space (x ∷ xs) p ≡ false
      by true e rest = let here = counted_here p x true e in let all = sum_by-cons (at_place p) x xs in absurd (omega arith)
      by false e rest = let here = counted_here p x false e in let all = sum_by-cons (at_place p) x xs in rw e (rest (omega arith))

  once_counted : (xs : List (P × List P)) → AreOnce space xs → (p : P) → sum_by (at_place p) xs ≤ 1
  once_counted [] h p = omega arith
  once_counted (x ∷ xs) h p = by (space.are_same x.0 p) refl (once_counted xs h.1 p)
    where
      by : (b : Bool) → space.are_same x.0 p ≡ b → sum_by (at_place p) xs ≤ 1 → sum_by (at_place p) (x ∷ xs) ≤ 1
      by true e rest =
          let none = none_counted xs p (subst (λ (y : P). has_loop space xs y ≡ false) (space.one_place x.0 p e) h.0) in
          let here = counted_here p x true e in
          let all = sum_by-cons (at_place p) x xs in
          omega arith
      by false e rest = let here = counted_here p x false e in let all = sum_by-cons (at_place p) x xs in omega arith

  counted_once : (xs : List (P × List P)) → ((p : P) → sum_by (at_place p) xs ≤ 1) → AreOnce space xs
  counted_once [] h = tt
  counted_once (x ∷ xs) h =
      let most = h x.0 in
      let all = sum_by-cons (at_place x.0) x xs in
      let here = counted_here x.0 x true (space.itself x.0) in (
        counted_none xs x.0 (omega arith),
        counted_once xs (λ p. let one = h p in let each = sum_by-cons (at_place p) x xs in omega arith),
      )

  pub once_permuted : (xs ys : List (P × List P)) → IsPermutation xs ys → AreOnce space xs → AreOnce space ys
  once_permuted xs ys h once =
      counted_once ys (λ p. let same = sum_by-IsPermutation (at_place p) xs ys h in let most = once_counted xs once p in omega arith)
