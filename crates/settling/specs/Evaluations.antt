-- Evaluations over states in which some places have no value yet.
use Rattle.std.specs.Prelude.{Option, None, Some}
use Rattle.settling.specs.Runs.{Run, gives, faults, asks}
use Rattle.settling.specs.Cells.{active, marked, value_of, clean}
use Rattle.settling.specs.Spaces.{Space}

-- What comes of an evaluation: a value, a fault, or the first place that it reads and that has no value yet.
pub data Outcome (P V F : Type 0) : Type 0 where
  has_value : V → Outcome P V F
  has_fault : F → Outcome P V F
  has_need : P → Outcome P V F

-- what comes of a value that is wanted, where there is one
abbrev pub wanted : {A V : Type 0} → Option V → A → (V → A) → A
wanted None otherwise go = otherwise
wanted (Some v) otherwise go = go v

module _ {S P V F : Type 0} (space : Space S P V F) where
  -- what comes of an evaluation over this state
  unfoldable pub walk : Run P V F → S → Outcome P V F
  walk (gives v) s = has_value v
  walk (faults f) s = has_fault f
  walk (asks q next) s = wanted (clean (space.at s q)) (has_need q) (λ v. walk (next v) s)

  -- the place that is needed and nothing written; or none, and the value of a place or the mark of its fault is written
  abbrev pub written : P → S → Outcome P V F → Option P × S
  written p s (has_value v) = (None, space.put s p (active v))
  written p s (has_fault f) = (None, space.put s p (marked (value_of (space.at s p)) f))
  written p s (has_need q) = (Some q, s)

  abbrev pub evaluated : P → Run P V F → S → Option P × S
  evaluated p r s = written p s (walk r s)
