use Rattle.timers.proofs.Maps.{tree-insert}
use Rattle.timers.proofs.running_timers.RunningTimers.insert.Goals as goal

pub returns-clause-ok : goal.returns-clause-ok
returns-clause-ok c = rw (← c.self.view_is) (tree-insert c.self.inside.timers c.insert.new.self _ _ c.in_ok-insert.ensures.updates)
