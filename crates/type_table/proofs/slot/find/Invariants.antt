use Rattle.std.proofs.Common.{◌-◌}
use Rattle.type_table.specs.Slots.{paths}
use Rattle.type_table.proofs.Orders.{Parts}
use Rattle.type_table.proofs.slot.find.Given as goal

abbrev pub invariant-loop-low : goal.invariant-loop-low
invariant-loop-low l = Parts (paths l.built_in) l.order l.path l.low l.high

abbrev pub decreases-loop-low : goal.decreases-loop-low
decreases-loop-low l = l.high - l.low
