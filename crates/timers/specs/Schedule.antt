-- Timers by serial, and what each call makes of them.
use Rattle.std.specs.Prelude.{◌≡◌, ℕ, ◌+◌, ◌<◌, ◌≤◌, max, Bool, true, ◌&&◌, ◌||◌, nat_eq, nat_lt, nat_le, if◌then◌else◌, Option, None, Some, IfSome, List, [], ◌∷◌, ◌⊎◌, refl}
use Rattle.std.specs.Option.{option_map}
use Rattle.std.specs.Ordering.{nat_cmp}
use Rattle.std.specs.FinMap as map
use Rattle.std.specs.Coded.{Coded, code_by, coded×, coded_ℕ, coded_bool, coded_option}
use Rattle.timers.specs.declared.timer.StartFiring.{StartFiring}
use Rattle.timers.specs.declared.timer.RunningTimer.{RunningTimer}
use Rattle.timers.specs.Timer.{first_time, after_firing, skipped}

-- the running timers by serial
abbrev pub Running : Type 0
Running = map.FinMap nat_cmp RunningTimer

-- the time, whether a firing was taken since it was last moved to the end of a tick, and the timers
pub record Schedule : Type 0 where
  pub time : ℕ
  pub firing : Bool
  pub running : Running

-- when the timer of a serial fires first, where it runs
abbrev pub next_time : Running → ℕ → Option ℕ
next_time running serial = option_map first_time (map.get running serial)

-- the outstanding firing at the start of a timer that may not run
abbrev pub start_kept : Option RunningTimer → Option StartFiring
start_kept None = None
start_kept (Some timer) = timer.at_start

-- the firing at the start of a timer that is started
abbrev pub start_asked : Schedule → ℕ → Bool → Option StartFiring
start_asked schedule serial at_once =
    if at_once then Some (record { time = schedule.time; waits = schedule.firing })
    else start_kept (map.get schedule.running serial)

-- the timer of the serial runs, due an interval from now
abbrev pub started : Schedule → ℕ → ℕ → Bool → Schedule
started schedule serial interval at_once = record schedule {
  running = map.insert schedule.running serial (record {
    interval = interval;
    due = schedule.time + interval;
    at_start = start_asked schedule serial at_once;
  });
}

-- the timers with this one, or without the one of the serial
abbrev pub with_timer : Running → ℕ → Option RunningTimer → Running
with_timer running serial None = map.remove running serial
with_timer running serial (Some timer) = map.insert running serial timer

-- after the first firing of the timer, if it runs
abbrev pub after_firing_of : Schedule → ℕ → Bool → Option RunningTimer → Schedule
after_firing_of schedule serial repeat None = schedule
after_firing_of schedule serial repeat (Some timer) = record {
  time = max schedule.time (first_time timer);
  firing = true;
  running = with_timer schedule.running serial (after_firing repeat timer);
}

-- after the first firing of the serial's timer
abbrev pub after_fired : Schedule → ℕ → Bool → Schedule
after_fired schedule serial repeat =
    after_firing_of schedule serial repeat (map.get schedule.running serial)

-- the timers once the firings of this one by until are skipped
abbrev pub with_skipped : Running → ℕ → ℕ → Option RunningTimer → Running
with_skipped running serial until None = running
with_skipped running serial until (Some timer) = map.insert running serial (skipped until timer)

-- the serial's timer skips its firings by until
abbrev pub after_skip : Schedule → ℕ → ℕ → Schedule
after_skip schedule serial until = record schedule {
  running = with_skipped schedule.running serial until (map.get schedule.running serial);
}

-- the first of two firings of timers comes earlier, or at the same time and its serial isn't greater
abbrev pub IsNotAfter : ℕ × ℕ → ℕ × ℕ → Type 0
IsNotAfter a b = (a.0 < b.0) ⊎ ((a.0 ≡ b.0) × (a.1 ≤ b.1))

-- the timer of the serial fires at this time, by until, and before each other one
pub record IsFirstDue (running : Running) (until : ℕ) (firing : ℕ × ℕ) : Type 0 where
  pub runs : next_time running firing.1 ≡ Some firing.0
  pub by_until : firing.0 ≤ until
  pub least : (other : ℕ) → IfSome (next_time running other) (λ time. IsNotAfter firing (time, other))

-- no timer fires by until
abbrev pub IsNoneDue : Running → ℕ → Type 0
IsNoneDue running until = (serial : ℕ) → IfSome (next_time running serial) (λ time. until < time)

-- ---- the first firing, timer by timer
-- a time with a serial comes before the other one, or is the same
abbrev pub is_not_after : ℕ × ℕ → ℕ × ℕ → Bool
is_not_after a b = nat_lt a.0 b.0 || (nat_eq a.0 b.0 && nat_le a.1 b.1)

-- the first of two firings of which each may be missing
abbrev pub first_of_two : Option (ℕ × ℕ) → Option (ℕ × ℕ) → Option (ℕ × ℕ)
first_of_two None b = b
first_of_two (Some a) None = Some a
first_of_two (Some a) (Some b) = if is_not_after a b then Some a else Some b

-- a firing at this time, if there is one and it is due by until
abbrev pub due_by : ℕ → ℕ → Option ℕ → Option (ℕ × ℕ)
due_by until serial None = None
due_by until serial (Some time) = if nat_le time until then Some (time, serial) else None

-- the first firing by until of the timers of these serials
abbrev pub first_among : Running → ℕ → List ℕ → Option (ℕ × ℕ)
first_among running until [] = None
first_among running until (serial ∷ rest) =
    first_of_two (due_by until serial (next_time running serial)) (first_among running until rest)

-- the first firing by until, the least by time and then by serial
unfoldable pub first_due : Running → ℕ → Option (ℕ × ℕ)
first_due running until = first_among running until (map.keys running)

abbrev start_code : Coded StartFiring
start_code =
    code_by (ℕ × Bool) (coded× coded_ℕ coded_bool) (λ s. (s.time, s.waits)) (λ p. record { time = p.0; waits = p.1 }) (λ _. refl)

abbrev timer_code : Coded RunningTimer
timer_code =
    code_by (ℕ × (ℕ × Option StartFiring))
    (coded× coded_ℕ (coded× coded_ℕ (coded_option start_code)))
    (λ t. (t.interval, (t.due, t.at_start)))
    (λ p. record { interval = p.0; due = p.1.0; at_start = p.1.1 })
    (λ _. refl)

-- timers by serial are stored as their entries
abbrev pub running_code : Coded Running
running_code = map.code coded_ℕ timer_code

-- a schedule is stored as the tuple of its fields
abbrev pub schedule_code : Coded Schedule
schedule_code =
    code_by (ℕ × (Bool × Running))
    (coded× coded_ℕ (coded× coded_bool running_code))
    (λ s. (s.time, (s.firing, s.running)))
    (λ p. record { time = p.0; firing = p.1.0; running = p.1.1 })
    (λ _. refl)
