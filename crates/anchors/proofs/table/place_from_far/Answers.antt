use Rattle.std.proofs.Common.{arith}
use Rattle.std.proofs.lemmas.Int.{ints}
use Rattle.anchors.proofs.table.place_from_far.Goals as goal

pub returns : goal.returns
returns c = omega (arith, ints)
