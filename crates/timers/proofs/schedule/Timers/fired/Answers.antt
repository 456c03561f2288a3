use Rattle.std.proofs.Common.{◌<◌, ◌^◌, sym, ◌∙◌, ap, arith, rules}
use Rattle.timers.specs.Timer.{first_time}
use Rattle.timers.specs.Queue.{is_waiting}
use Rattle.timers.proofs.Keeping.{sound-insert, sound-remove, bounds-at}
use Rattle.timers.proofs.schedule.Timers.fired.Goals as goal

pub invariant_of-self : goal.invariant_of-self
invariant_of-self c =
    let soon : first_time c.in-Some.timer < 2 ^ 63 = search rules in
    sound-insert _ c.self.inside.timers _ _ _ _ _ (omega arith) c.self.invariant.bounds c.self.invariant.waiting c.change.ensures.timers c.change.ensures.serves
    (c.in-Some-after_firing.ensures.bounds (bounds-at c.self.inside.timers.timers _ _ c.self.invariant.bounds (sym c.in-Some.ensures)))
    (λ w. c.self.invariant.waiting c.args.serial (ap is_waiting (sym c.in-Some.ensures) ∙ c.in-Some-after_firing.ensures.waits w))

pub invariant_of-self-in-None : goal.invariant_of-self-in-None
invariant_of-self-in-None c =
    let soon : first_time c.in-Some.timer < 2 ^ 63 = search rules in
    sound-remove _ c.self.inside.timers _ _ _ _ (omega arith) c.self.invariant.bounds c.self.invariant.waiting c.discard.ensures.timers c.discard.ensures.serves
