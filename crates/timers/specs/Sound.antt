-- What holds of the parts of `Timers` between two calls.
use Rattle.std.specs.Prelude.{ℕ, ◌^◌, ◌<◌, List}
use Rattle.timers.specs.Queue.{Stored, Queued, Serves, AreWithinBounds, ListsWaiting}

pub record IsSound (now : ℕ) (timers : Stored) (queue : Queued) (serials : List ℕ) : Type 0 where
  pub time : now < 2 ^ 63
  pub bounds : AreWithinBounds timers.timers
  pub serves : Serves timers queue
  pub waiting : ListsWaiting timers.timers serials
