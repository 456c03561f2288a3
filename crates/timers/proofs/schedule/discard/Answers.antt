use Rattle.timers.proofs.Queueing.{queued-remove}
use Rattle.timers.proofs.schedule.discard.Goals as goal

pub tidy-requires-clause-queued : goal.tidy-requires-clause-queued
tidy-requires-clause-queued c = rw c.remove.ensures.timers (queued-remove _ _ _ c.requires.queued)
