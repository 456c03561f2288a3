use Rattle.std.proofs.Common.{arith}
use Rattle.std.proofs.lemmas.Int.{ints, to_z-of_z}
use Rattle.positioners.proofs.Steps.{span_of-take_more}
use Rattle.positioners.proofs.lengths.span.Goals as goal

pub loop-size-preserved : goal.loop-size-preserved
loop-size-preserved c = (grind (arith, ints, to_z-of_z, span_of-take_more), omega (arith, ints), omega (arith, ints))
