use Rattle.std.proofs.Common.{◌≡◌, [], drop}
use Rattle.signals.specs.Jobs.{with_params}
use Rattle.signals.proofs.jobs.with_params.Given as goal

-- what is left of the parameters, with what is left of the arguments
abbrev pub invariant-loop-i : goal.invariant-loop-i
invariant-loop-i l = with_params (drop l.i l.params) (drop l.i l.arguments) l.locals ≡ with_params l.params l.arguments []
