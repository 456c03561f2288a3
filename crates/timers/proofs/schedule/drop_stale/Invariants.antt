use Rattle.std.proofs.Common.{◌≡◌, ◌≤◌, length}
use Rattle.timers.specs.Queue.{IsQueued}
use Rattle.timers.proofs.schedule.drop_stale.Given as goal

abbrev pub invariant-loop-queue : goal.invariant-loop-queue
invariant-loop-queue l = record {
  queued : IsQueued l.timers.timers l.queue.firings;
  few : length l.queue.firings ≤ length l.initial.queue.firings;
  room : l.queue.room ≡ l.initial.queue.room;
}

abbrev pub decreases-loop-queue : goal.decreases-loop-queue
decreases-loop-queue l = length l.queue.firings
