use Rattle.std.proofs.Common.{arith}
use Rattle.timers.proofs.Keeping.{sound-released}
use Rattle.timers.proofs.schedule.Timers.advance.Goals as goal

pub invariant_of-self : goal.invariant_of-self
invariant_of-self c =
    sound-released _ c.self.inside.timers _ _ _ (omega arith) c.self.invariant.bounds c.release_all.ensures.timers c.release_all.ensures.serves
