use Rattle.timers.proofs.Keeping.{sound-new}
use Rattle.timers.proofs.schedule.Timers.new.Goals as goal

pub invariant_of-result : goal.invariant_of-result
invariant_of-result c = sound-new _ _ _ c.new.ensures c.new-2.ensures
