use Rattle.std.proofs.Common.{◌≡◌}
use Rattle.object_tree.specs.Writing.{restarted_first}
use Rattle.object_tree.proofs.instance.Instance.restart.Given as goal

abbrev pub invariant-loop-slot : goal.invariant-loop-slot
invariant-loop-slot l = l.self ≡ restarted_first l.slot l.fn.self
