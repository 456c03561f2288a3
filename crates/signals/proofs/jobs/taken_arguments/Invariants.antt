use Rattle.std.proofs.Common.{◌≡◌, [], length, drop}
use Rattle.signals.specs.Jobs.{taken_from}
use Rattle.object_tree.specs.Handlers.{signal_params_at}
use Rattle.signals.proofs.jobs.taken_arguments.Given as goal

-- what is left of the arguments, after those that are taken
abbrev pub invariant-loop-i : goal.invariant-loop-i
invariant-loop-i l =
    (length l.taken ≡ l.i)
    × (taken_from l.objects (signal_params_at l.of l.signal l.objects) l.taken (drop l.i l.arguments) ≡ taken_from l.objects (signal_params_at l.of l.signal l.objects) [] l.arguments)
