use Rattle.std.proofs.Common.{arith}
use Rattle.std.proofs.lemmas.Int.{ints, to_z-of_z}
use Rattle.positioners.proofs.Steps.{fold-map_more}
use Rattle.positioners.proofs.lengths.greatest.Goals as goal

pub loop-size-preserved : goal.loop-size-preserved
loop-size-preserved c = grind (arith, ints, to_z-of_z, fold-map_more)
