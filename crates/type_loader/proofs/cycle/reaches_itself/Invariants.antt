use Rattle.type_loader.proofs.Cycling.{AreFound}
use Rattle.type_loader.proofs.cycle.reaches_itself.Given as goal

abbrev pub invariant-loop-place : goal.invariant-loop-place
invariant-loop-place l = AreFound l.sources l.name l.found l.place
