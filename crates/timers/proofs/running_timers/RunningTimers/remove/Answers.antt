use Rattle.timers.proofs.Maps.{tree-remove}
use Rattle.timers.proofs.running_timers.RunningTimers.remove.Goals as goal

pub returns-clause-timers : goal.returns-clause-timers
returns-clause-timers c = rw (← c.self.view_is) (tree-remove c.self.inside.timers c.remove.new.self _ c.remove.ensures.updates)
