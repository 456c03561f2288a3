-- A value that is capped at each digit is the whole value, capped.
use Rattle.std.proofs.Common.{◌≡◌, ℕ, ◌+◌, ◌*◌, ◌≤◌, inl, inr, min, refl, arith}
use Rattle.std.proofs.lemmas.Bool.{cases_lt}
use Rattle.std.proofs.lemmas.Int.Digits.{digits_value_more}
use Rattle.std.proofs.Math.Nat.{le-mul_of_pos_right, mul-le-mul_right}

pub min_step : (base a digit limit : ℕ) → 1 ≤ base → min (min a limit * base + digit) limit ≡ min (a * base + digit) limit
min_step base a digit limit h = elim (cases_lt a limit) [
  | inl below ↦ let e : min a limit ≡ a = omega arith in rw e refl
  | inr above ↦
      let e : min a limit ≡ limit = omega arith in
      let much : limit ≤ limit * base = le-mul_of_pos_right limit (omega arith) in
      let more : limit * base ≤ a * base = mul-le-mul_right base above in
      rw e (omega arith)
]

-- one more digit
pub min_more : (base value part whole digit limit : ℕ) → 1 ≤ base → value ≡ min part limit → whole ≡ part * base + digit → min (value * base + digit) limit ≡ min whole limit
min_more base value part whole digit limit h is is_whole = rw (is, is_whole) (min_step base part digit limit h)

pub ruleset capping = (min_more, digits_value_more)
