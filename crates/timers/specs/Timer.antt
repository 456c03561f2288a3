-- A timer that runs, its firings, and what they leave.
use Rattle.std.specs.Prelude.{◌≡◌, ◌≤◌, ℕ, ◌^◌, ◌<◌, ◌+◌, ◌-◌, ◌*◌, ◌/◌, min, Bool, false, ◌&&◌, not, if◌then◌else◌, nat_lt, nat_le, Option, None, Some, IfSome}
use Rattle.timers.specs.declared.timer.StartFiring.{StartFiring}
use Rattle.timers.specs.declared.timer.RunningTimer.{RunningTimer}

-- the time of the firing at the start, where there is one that doesn't wait
abbrev pub start_time : Option StartFiring → Option ℕ
start_time None = None
start_time (Some start) = if start.waits then None else Some start.time

-- the earlier of a time that may be missing and another
abbrev pub earlier : Option ℕ → ℕ → ℕ
earlier None due = due
earlier (Some time) due = min time due

-- the time of the first firing
unfoldable pub first_time : RunningTimer → ℕ
first_time timer = earlier (start_time timer.at_start) timer.due

-- a time that is there and not after the other one
abbrev pub is_first : Option ℕ → ℕ → Bool
is_first None due = false
is_first (Some time) due = nat_le time due

-- what the first firing leaves: the one at the start leaves the due time and stops nothing, and another
-- one is due an interval after its due time, or is the last
unfoldable pub after_firing : Bool → RunningTimer → Option RunningTimer
after_firing repeat timer =
    if is_first (start_time timer.at_start) timer.due then Some (record timer { at_start = None })
    else (if repeat then Some (record timer { due = timer.due + timer.interval }) else None)

-- the first of due, due + interval, due + 2 * interval .. that is after until
unfoldable pub first_after : ℕ → ℕ → ℕ → ℕ
first_after due interval until =
    if nat_lt until due then due else due + ((until - due) / interval + 1) * interval

-- a firing at the start, unless it is due by until
abbrev pub start_after : ℕ → Option StartFiring → Option StartFiring
start_after until None = None
start_after until (Some start) = if not start.waits && nat_le start.time until then None else Some start

-- the timer without its firings that are due by until
unfoldable pub skipped : ℕ → RunningTimer → RunningTimer
skipped until timer = record timer {
  due = first_after timer.due timer.interval until;
  at_start = start_after until timer.at_start;
}

-- the firing at the start, if any, no longer waiting
abbrev pub start_released : Option StartFiring → Option StartFiring
start_released None = None
start_released (Some start) = Some (record start { waits = false })

-- the timer once its firing at the start waits no more
unfoldable pub released : RunningTimer → RunningTimer
released timer = record timer { at_start = start_released timer.at_start }

-- the firing at the start waits for the next advance
abbrev pub start_waits : Option StartFiring → Bool
start_waits None = false
start_waits (Some start) = start.waits

-- the firing at the start, if any, was asked for in time
abbrev pub IsStartInTime : Option StartFiring → Type 0
IsStartInTime at_start = IfSome at_start (λ start. start.time < 2 ^ 63)

-- the bounds within which no sum of times overflows
pub record IsWithinBounds (timer : RunningTimer) : Type 0 where
  pub repeats : 0 < timer.interval
  pub interval : timer.interval < 2 ^ 32
  pub due : timer.due < 2 ^ 63 + 2 ^ 32
  pub start : IsStartInTime timer.at_start

-- the time is one of due, due + interval, .. , it is after until, and those before it aren't
pub record IsFirstMultipleAfter (due interval until time : ℕ) : Type 0 where
  pub turns : ℕ
  pub is : time ≡ due + turns * interval
  pub after : until < time
  pub earlier : (fewer : ℕ) → fewer < turns → due + fewer * interval ≤ until
