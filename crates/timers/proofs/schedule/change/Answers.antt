use Rattle.timers.proofs.Queueing.{queued-insert}
use Rattle.timers.proofs.schedule.change.Goals as goal

pub enqueue-requires-clause-others : goal.enqueue-requires-clause-others
enqueue-requires-clause-others c =
    rw (c.replace.ensures.timers, c.first_time.ensures) (queued-insert _ _ _ _ c.requires.serves.queued)
