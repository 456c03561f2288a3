use Rattle.std.proofs.Common.{sym, ◌∙◌, ap}
use Rattle.timers.specs.Queue.{is_waiting}
use Rattle.timers.proofs.Keeping.{sound-insert, bounds-at}
use Rattle.timers.proofs.schedule.Timers.skip.Goals as goal

pub invariant_of-self : goal.invariant_of-self
invariant_of-self c =
    sound-insert _ c.self.inside.timers _ _ _ _ _ c.self.invariant.time c.self.invariant.bounds c.self.invariant.waiting c.change.ensures.timers c.change.ensures.serves
    (c.skipped.ensures.bounds (bounds-at c.self.inside.timers.timers _ _ c.self.invariant.bounds (sym c.in-Some.ensures)))
    (λ w. c.self.invariant.waiting c.args.serial (ap is_waiting (sym c.in-Some.ensures) ∙ c.skipped.ensures.waits w))
