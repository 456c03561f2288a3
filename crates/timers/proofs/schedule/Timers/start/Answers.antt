use Rattle.std.proofs.Common.{arith}
use Rattle.timers.proofs.Keeping.{sound-insert}
use Rattle.timers.proofs.schedule.Timers.start.Goals as goal

pub invariant_of-self-2 : goal.invariant_of-self-2
invariant_of-self-2 c =
    sound-insert _ c.self.inside.timers _ _ _ _ _ c.self.invariant.time c.self.invariant.bounds c.in_ok-at_start.ensures.waiting c.in_ok-add.ensures.ok c.in_ok-add.ensures.serves
    (record { repeats = omega arith; interval = omega arith; due = omega arith; start = c.in_ok-at_start.ensures.time })
    c.in_ok-at_start.ensures.listed
