-- Laws of counts that only grow and stand still at the end of a u64.
use Rattle.std.proofs.Common.{ℕ, ◌-◌, ◌^◌, ◌≤◌, arith}
use Rattle.outside.specs.Count.{Rose}

-- a count that grew twice grew
pub grown-trans : (a b c : ℕ) → a ≤ b → b ≤ c → a ≤ c
grown-trans a b c p q = omega arith

-- a count that rose and then grew rose
pub Rose-grown : (a b c : ℕ) → Rose a b → b ≤ c → Rose a c
Rose-grown a b c p q = omega arith

-- a count that grew and then rose rose
pub grown-Rose : (a b c : ℕ) → a ≤ b → Rose b c → Rose a c
grown-Rose a b c p q = omega arith

-- a count of a u64 that rose has grown
pub Rose-≤ : (a b : ℕ) → a ≤ 2 ^ 64 - 1 → Rose a b → a ≤ b
Rose-≤ a b fits p = omega arith
