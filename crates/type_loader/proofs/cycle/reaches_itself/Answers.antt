use Rattle.std.proofs.Common.{rules}
use Rattle.type_loader.proofs.Cycling.{found_next}
use Rattle.type_loader.proofs.cycle.reaches_itself.Goals as goal

pub loop-place-preserved : goal.loop-place-preserved
loop-place-preserved c = found_next _ _ _ _ c.loop-place.invariant c.follow.new.found (search rules)
