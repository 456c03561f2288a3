-- The moves of a run.
use Rattle.std.specs.Prelude.{ℕ, zero, suc, List, [], ◌∷◌, ◌++◌}
use Rattle.stage_run.specs.declared.journal.Move.{Move}
use Rattle.stage_run.specs.declared.journal.Move.TheVariants.{Command}

-- the first n commands of the script, in order
abbrev pub commands : ℕ → List Move
commands zero = []
commands (suc n) = commands n ++ Command (suc n) ∷ []
