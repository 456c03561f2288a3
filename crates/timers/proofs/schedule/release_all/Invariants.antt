use Rattle.std.proofs.Common.{◌≡◌, ℕ}
use Rattle.std.specs.Option.{option_map}
use Rattle.std.specs.FinMap as map
use Rattle.timers.specs.Timer.{released}
use Rattle.timers.specs.Queue.{ListsWaiting, Serves}
use Rattle.timers.proofs.schedule.release_all.Given as goal

abbrev pub invariant-loop-serial : goal.invariant-loop-serial
invariant-loop-serial l = record {
  releasing : (q : ℕ) → option_map released (map.get l.timers.timers q) ≡ option_map released (map.get l.initial.timers.timers q);
  waiting : ListsWaiting l.timers.timers l.waiting.items;
  serves : Serves l.timers l.queue;
}

abbrev pub decreases-loop-serial : goal.decreases-loop-serial
decreases-loop-serial l = goal.left-loop-serial l
