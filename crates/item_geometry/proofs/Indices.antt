-- The numbers from one on.
use Rattle.std.proofs.Common.{◌≡◌, ℕ, zero, suc, ◌+◌, [], ◌∷◌, ◌++◌, ap, arith}
use Rattle.std.specs.List.{range_with_len}

-- one more goes to the end
pub range_with_len-suc : (a n b : ℕ) → a + n ≡ b → range_with_len a (suc n) ≡ range_with_len a n ++ b ∷ []
range_with_len-suc a zero b e = let same : a ≡ b = omega arith in ap (λ k. k ∷ []) same
range_with_len-suc a (suc n) b e = ap (λ l. a ∷ l) (range_with_len-suc (a + 1) n b (omega arith))
