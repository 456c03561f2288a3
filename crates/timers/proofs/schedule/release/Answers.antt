use Rattle.std.proofs.Common.{sym}
use Rattle.timers.proofs.Keeping.{released-at}
use Rattle.timers.proofs.schedule.release.Goals as goal

pub returns-in-Some-clause-timers : goal.returns-in-Some-clause-timers
returns-in-Some-clause-timers c = released-at _ _ _ _ _ (sym c.in-Some.ensures) c.released.ensures c.change.ensures.timers
