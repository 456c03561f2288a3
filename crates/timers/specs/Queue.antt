-- The queue of firings, and what it has to do with the timers.
use Rattle.std.specs.Prelude.{◌≡◌, ◌≢◌, ℕ, ◌+◌, ◌*◌, ◌≤◌, Bool, true, false, Option, None, Some, IfSome, List, [], ◌∷◌, length, Contains, IsPermutation, refl}
use Rattle.std.specs.Ordering.{nat_cmp, ordering_then}
use Rattle.std.specs.declared.cmp.Ordering.{Ordering}
use Rattle.std.specs.declared.cmp.Reverse.{Reverse}
use Rattle.std.specs.Option.{option_map}
use Rattle.std.specs.FinMap as map
use Rattle.std.specs.Coded.{Coded, code_by, coded×, coded_ℕ, coded_list}
use Rattle.timers.specs.declared.timer.RunningTimer.{RunningTimer}
use Rattle.timers.specs.Timer.{start_waits, IsWithinBounds, released}
use Rattle.timers.specs.Schedule.{Running, running_code, next_time}

-- a time with a serial, the earliest first
abbrev pub Firing : Type 0
Firing = Reverse (ℕ × ℕ)

abbrev pub firing : ℕ → ℕ → Firing
firing time serial = record { 0 = (time, serial) }

-- the order by time and then serial, backwards, so that the first firing is the greatest
abbrev pub firing_cmp : Firing → Firing → Ordering
firing_cmp a b = ordering_then (nat_cmp b.0.0 a.0.0) (nat_cmp b.0.1 a.0.1)

-- firings in the order in which they are stored, and how many there is room for
pub record Queued : Type 0 where
  pub firings : List Firing
  pub room : ℕ

abbrev firing_code : Coded Firing
firing_code = code_by (ℕ × ℕ) (coded× coded_ℕ coded_ℕ) (λ f. f.0) (λ p. record { 0 = p }) (λ _. refl)

abbrev pub queued_code : Coded Queued
queued_code =
    code_by (List Firing × ℕ) (coded× (coded_list firing_code) coded_ℕ) (λ q. (q.firings, q.room)) (λ p. record { firings = p.0; room = p.1 }) (λ _. refl)

-- timers by serial, and how many entries they take
pub record Stored : Type 0 where
  pub timers : Running
  pub count : ℕ

abbrev pub stored_code : Coded Stored
stored_code =
    code_by (Running × ℕ) (coded× running_code coded_ℕ) (λ s. (s.timers, s.count)) (λ p. record { timers = p.0; count = p.1 }) (λ _. refl)

-- the first firing of each timer is in the queue
abbrev pub IsQueued : Running → List Firing → Type 0
IsQueued timers firings = (serial time : ℕ) → next_time timers serial ≡ Some time → Contains firings (firing time serial)

-- the firing is the first one of a timer
abbrev pub IsLive : Running → Firing → Type 0
IsLive timers f = next_time timers f.0.1 ≡ Some f.0.0

-- the queue is empty, or begins with the first firing of a timer
abbrev pub BeginsLive : Running → List Firing → Type 0
BeginsLive timers [] = Unit {0}
BeginsLive timers (f ∷ fs) = IsLive timers f

-- the queue begins with what isn't the first firing of a timer any more
abbrev pub BeginsStale : Running → List Firing → Type 0
BeginsStale timers [] = ⊥
BeginsStale timers (f ∷ fs) = next_time timers f.0.1 ≢ Some f.0.0

-- the first firing of a queue, by time and serial
abbrev pub first_of : List Firing → Option (ℕ × ℕ)
first_of [] = None
first_of (f ∷ fs) = Some f.0

-- the queue without its first firing
abbrev pub LosesFirst : List Firing → List Firing → Type 0
LosesFirst [] new = new ≡ []
LosesFirst (f ∷ fs) new = IsPermutation (f ∷ fs) (f ∷ new)

-- the timer runs, and its firing at the start waits
abbrev pub is_waiting : Option RunningTimer → Bool
is_waiting None = false
is_waiting (Some timer) = start_waits timer.at_start

-- each timer whose firing at the start waits is in the list
abbrev pub ListsWaiting : Running → List ℕ → Type 0
ListsWaiting timers serials = (serial : ℕ) → is_waiting (map.get timers serial) ≡ true → Contains serials serial

-- each timer is within the bounds
abbrev pub AreWithinBounds : Running → Type 0
AreWithinBounds timers = (serial : ℕ) → IfSome (map.get timers serial) IsWithinBounds

-- the most firings that are kept for so many timers
abbrev pub most_firings : ℕ → ℕ
most_firings timers = 2 * timers + 32

-- the queue serves the timers: their first firings are in it, its own first one is one of them, and not
-- too many others are there
pub record Serves (timers : Stored) (queue : Queued) : Type 0 where
  pub queued : IsQueued timers.timers queue.firings
  pub begins : BeginsLive timers.timers queue.firings
  pub room : timers.count ≤ queue.room
  pub few : length queue.firings ≤ most_firings timers.count

-- the firing at the start of the serial's timer waits no longer, and nothing else has changed
pub record IsReleasedAt (old : Running) (serial : ℕ) (new : Running) : Type 0 where
  pub here : map.get new serial ≡ option_map released (map.get old serial)
  pub others : (other : ℕ) → serial ≢ other → map.get new other ≡ map.get old other

-- no firing at the start waits any longer, and nothing else has changed
abbrev pub IsReleased : Running → Running → Type 0
IsReleased old new = (serial : ℕ) → map.get new serial ≡ option_map released (map.get old serial)
