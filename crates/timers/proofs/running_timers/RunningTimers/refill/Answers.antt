use Rattle.std.proofs.Common.{◌≡◌, map, rules, arith}
use Rattle.std.specs.Map.Iter.{deref_pair}
use Rattle.std.proofs.lemmas.Map.Iter.{iter_end}
use Rattle.timers.specs.Timer.{first_time}
use Rattle.timers.specs.Queue.{firing}
use Rattle.timers.proofs.Queueing.{added-push, queued-all, counted-push}
use Rattle.timers.proofs.running_timers.RunningTimers.refill.Goals as goal

pub loop-serial-preserved : goal.loop-serial-preserved
loop-serial-preserved c = record {
  added = added-push (λ p. firing (first_time p.1.now) p.0.now) _ _ _ _ c.loop-serial.invariant.added (rw c.first_time.ensures at c.push.ensures.firings);
  count = counted-push _ _ _ _ _ c.loop-serial.invariant.count c.push.ensures.firings;
  room = omega arith;
}

pub returns-clause-queued : goal.returns-clause-queued
returns-clause-queued c =
    let e : map deref_pair c.loop-serial.yielded ≡ c.self.inside.timers.entries = search (rules, iter_end) in
    rw (← c.self.view_is) (queued-all c.self.inside.timers c.loop-serial.yielded c.loop-serial.queue.firings e c.loop-serial.invariant.added)
