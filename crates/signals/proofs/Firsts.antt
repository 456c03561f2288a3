-- The first number that passes a test.
use Rattle.std.proofs.Common.{◌≡◌, ◌∙◌, ℕ, suc, ◌+◌, ◌-◌, ◌<◌, Bool, false, Option, Some, sym, ap, arith}
use Rattle.std.specs.Prelude.{if◌then◌else◌}
use Rattle.signals.specs.Jobs.{first_from}

-- it is none that does not pass
pub first_next : (test : ℕ → Bool) (at count : ℕ) (all : Option ℕ) → at < count → test at ≡ false → first_from test at (count - at) ≡ all → first_from test (at + 1) (count - (at + 1)) ≡ all
first_next test at count all within fails before =
    let more : count - at ≡ suc (count - (at + 1)) = omega (arith, within) in
    sym (ap (first_from test at) more ∙ ap (λ b. if b then Some at else first_from test (at + 1) (count - (at + 1))) fails) ∙ before
