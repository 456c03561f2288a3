-- A writer, and how many of the writes to it have failed.
use Rattle.std.specs.Prelude.{ℕ, refl}
use Rattle.std.specs.Coded.{Coded, code_by, coded×, coded_ℕ}

-- the writer, and how many writes to it have failed
pub record WriterWithFaults (W : Type 0) : Type 0 where
  pub writer : W
  pub faults : ℕ

-- it is stored as the pair of its fields
abbrev pub writer_with_faults_code : {W : Type 0} → Coded W → Coded (WriterWithFaults W)
writer_with_faults_code {W} writer =
    code_by (W × ℕ) (coded× writer coded_ℕ) (λ s. (s.writer, s.faults)) (λ p. record { writer = p.0; faults = p.1 }) (λ _. refl)
