use Rattle.timers.proofs.Queueing.{queued-insert}
use Rattle.timers.proofs.schedule.add.Goals as goal

pub enqueue-requires-clause-others : goal.enqueue-requires-clause-others
enqueue-requires-clause-others c =
    rw (c.in_ok-insert.ensures.ok, c.first_time.ensures, c.in_ok-make_room.ensures.firings) (queued-insert _ _ _ _ c.requires.queued)
