use Rattle.timers.proofs.Queueing.{queued-push}
use Rattle.timers.proofs.schedule.enqueue.Goals as goal

pub returns-else-is_full-clause-queued : goal.returns-else-is_full-clause-queued
returns-else-is_full-clause-queued c = queued-push _ _ _ c.requires.others c.push.ensures.firings
