use Rattle.timers.proofs.Keeping.{sound-remove}
use Rattle.timers.proofs.schedule.Timers.stop.Goals as goal

pub invariant_of-self : goal.invariant_of-self
invariant_of-self c =
    sound-remove _ c.self.inside.timers _ _ _ _ c.self.invariant.time c.self.invariant.bounds c.self.invariant.waiting c.discard.ensures.timers c.discard.ensures.serves
