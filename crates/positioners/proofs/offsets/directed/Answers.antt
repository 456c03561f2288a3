use Rattle.std.proofs.Common.{arith}
use Rattle.std.proofs.lemmas.Int.{ints}
use Rattle.positioners.proofs.offsets.directed.Goals as goal

pub returns-then-reversed : goal.returns-then-reversed
returns-then-reversed c = rw c.if-reversed.true (omega (arith, ints))
