use Rattle.std.proofs.Common.{◌≡◌}
use Rattle.object_tree.specs.Resuming.{resumed_first}
use Rattle.object_tree.proofs.instance.Instance.resume.Given as goal

abbrev pub invariant-loop-slot : goal.invariant-loop-slot
invariant-loop-slot l = l.self ≡ resumed_first l.slot l.fn.self
