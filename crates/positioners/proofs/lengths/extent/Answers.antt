use Rattle.std.proofs.Common.{arith}
use Rattle.std.proofs.lemmas.Int.{ints, to_z-of_z}
use Rattle.positioners.proofs.Steps.{extent_of-last}
use Rattle.positioners.proofs.lengths.extent.Goals as goal

pub returns-in-Some-clause-value : goal.returns-in-Some-clause-value
returns-in-Some-clause-value c = grind (arith, ints, to_z-of_z, extent_of-last, c.in-Some.ensures.cases)
