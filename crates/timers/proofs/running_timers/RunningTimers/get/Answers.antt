use Rattle.std.proofs.Common.{◌∙◌, sym}
use Rattle.timers.proofs.Maps.{get-tree}
use Rattle.timers.proofs.running_timers.RunningTimers.get.Goals as goal

pub returns : goal.returns
returns c = rw (← c.self.view_is) (c.copied.ensures ∙ c.get.ensures.value ∙ sym (get-tree c.self.inside.timers c.args.serial))
