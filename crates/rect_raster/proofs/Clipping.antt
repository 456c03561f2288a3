-- Edges of a rectangle against the places of a canvas.
use Rattle.std.proofs.Common.{◌≡◌, ℕ, ◌&&◌, ℤ, pos, int_le, int_lt, nat_le, nat_lt, max, arith}
use Rattle.std.proofs.lemmas.Bool.Decides.{nat_tests}
use Rattle.std.proofs.lemmas.Int.{ints}

-- the places from one edge up to the other are those from one clamped edge up to the other
pub clamped_span : (from to : ℤ) (place first last end : ℕ) → int_le from (pos place) ≡ nat_le first place → int_le to (pos place) ≡ nat_le last place → end ≡ max last first
    → (int_le from (pos place) && int_lt (pos place) to) ≡ (nat_le first place && nat_lt place end)
clamped_span from to place first last end from_is to_is end_is = grind (arith, ints, nat_tests)
