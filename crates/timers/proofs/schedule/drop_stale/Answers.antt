use Rattle.std.proofs.Common.{◌∙◌, arith}
use Rattle.timers.proofs.Queueing.{queued-loses, loses-shorter}
use Rattle.timers.proofs.schedule.drop_stale.Goals as goal

pub loop-queue-smaller : goal.loop-queue-smaller
loop-queue-smaller c = loses-shorter c.args.timers.now.timers _ _ c.loop-queue-test.ensures.stale c.pop.ensures.firings

pub loop-queue-preserved : goal.loop-queue-preserved
loop-queue-preserved c = record {
  queued = queued-loses _ _ _ c.loop-queue.invariant.queued c.loop-queue-test.ensures.stale c.pop.ensures.firings;
  few = let shorter = loses-shorter c.args.timers.now.timers _ _ c.loop-queue-test.ensures.stale c.pop.ensures.firings in omega arith;
  room = c.pop.ensures.room ∙ c.loop-queue.invariant.room;
}
