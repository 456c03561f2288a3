use Rattle.std.proofs.Common.{◌≡◌, map, take, fold}
use Rattle.std.specs.Int.{int_max}
use Rattle.positioners.specs.Axis.{across}
use Rattle.positioners.proofs.lengths.greatest.Given as goal

abbrev pub invariant-loop-size : goal.invariant-loop-size
invariant-loop-size l = l.greatest ≡ fold int_max l.initial.greatest (take l.size-index (map (across l.axis) l.rest))
