use Rattle.std.proofs.Common.{◌≡◌}
use Rattle.object_tree.specs.Writing.{restarted_up_to}
use Rattle.object_tree.proofs.objects.Objects.restart.Given as goal

abbrev pub invariant-loop-before : goal.invariant-loop-before
invariant-loop-before l = l.self ≡ restarted_up_to l.before l.fn.self
