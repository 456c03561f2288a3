use Rattle.std.proofs.Common.{◌≡◌, ◌≤◌, length}
use Rattle.std.specs.List.{All, Contains}
use Rattle.timers.specs.Timer.{first_time}
use Rattle.timers.specs.Queue.{firing}
use Rattle.timers.proofs.running_timers.RunningTimers.refill.Given as goal

abbrev pub invariant-loop-serial : goal.invariant-loop-serial
invariant-loop-serial l = record {
  added : All (λ e. Contains l.queue.firings (firing (first_time e.1.now) e.0.now)) l.yielded;
  count : length l.queue.firings ≡ length l.yielded;
  room : l.initial.queue.room ≤ l.queue.room;
}
