use Rattle.std.proofs.Common.{[], ◌≡◌, subst, arith}
use Rattle.std.proofs.lemmas.Grind.{common_steps}
use Rattle.timers.specs.Queue.{ListsWaiting}
use Rattle.timers.proofs.Keeping.{releasing-more, waiting-more, released-all}
use Rattle.timers.proofs.schedule.release_all.Goals as goal

pub loop-serial-preserved : goal.loop-serial-preserved
loop-serial-preserved c = record {
  releasing = releasing-more c.args.timers.now.timers _ _ _ c.release.ensures.timers c.loop-serial.invariant.releasing;
  waiting = waiting-more c.loop-serial.timers.timers c.release.new.timers.timers c.pop.new.self.items c.in-Some.serial c.release.ensures.timers (subst (ListsWaiting c.loop-serial.timers.timers) c.in-Some.ensures.items c.loop-serial.invariant.waiting);
  serves = c.release.ensures.serves;
}

pub returns-clause-timers : goal.returns-clause-timers
returns-clause-timers c =
    let none : c.loop-serial.waiting.items ≡ [] = grind (arith, common_steps) in
    released-all c.args.timers.now.timers c.loop-serial.timers.timers (subst (ListsWaiting c.loop-serial.timers.timers) none c.loop-serial.invariant.waiting) c.loop-serial.invariant.releasing
