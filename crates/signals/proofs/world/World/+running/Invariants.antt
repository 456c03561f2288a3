use Rattle.std.proofs.Common.{◌≡◌, ◌≤◌, ◌+◌, ◌*◌, map, drop}
use Rattle.std.specs.Prelude.{option_copied, option_map}
use Rattle.signals.specs.Endings.{each}
use Rattle.signals.specs.Running.{handle, exec, in_order, looped, turn_of, change_told}
use Rattle.signals.proofs.Turns.{Turning}
use Rattle.signals.proofs.world.World.+running.Given as goal

abbrev pub decreases-statement : goal.decreases-statement
decreases-statement l = 20 * l.self.now.left + 0

abbrev pub decreases-run_body : goal.decreases-run_body
decreases-run_body l = 20 * l.self.now.left + 2

abbrev pub decreases-in_order : goal.decreases-in_order
decreases-in_order l = 20 * l.self.now.left + 1

abbrev pub decreases-part : goal.decreases-part
decreases-part l = 20 * l.self.now.left + 1

abbrev pub decreases-turn : goal.decreases-turn
decreases-turn l = 20 * l.self.now.left + 2

abbrev pub decreases-turns : goal.decreases-turns
decreases-turns l = 20 * l.self.now.left + 3

abbrev pub decreases-choose : goal.decreases-choose
decreases-choose l = 20 * l.self.now.left + 2

abbrev pub decreases-count_through : goal.decreases-count_through
decreases-count_through l = 20 * l.self.now.left + 4

abbrev pub decreases-run : goal.decreases-run
decreases-run l = 20 * l.self.now.left + 3

abbrev pub decreases-handled : goal.decreases-handled
decreases-handled l = 20 * l.self.now.left + 4

abbrev pub decreases-emit_in : goal.decreases-emit_in
decreases-emit_in l = 20 * l.self.now.left + 5

abbrev pub decreases-tell_change : goal.decreases-tell_change
decreases-tell_change l = 20 * l.self.now.left + 5

abbrev pub decreases-tell_changes : goal.decreases-tell_changes
decreases-tell_changes l = 20 * l.self.now.left + 6

abbrev pub decreases-write_at : goal.decreases-write_at
decreases-write_at l = 20 * l.self.now.left + 7

abbrev pub decreases-write_any : goal.decreases-write_any
decreases-write_any l = 20 * l.self.now.left + 8

abbrev pub decreases-restart : goal.decreases-restart
decreases-restart l = 20 * l.self.now.left + 9

abbrev pub decreases-call_timer : goal.decreases-call_timer
decreases-call_timer l = 20 * l.self.now.left + 10

abbrev pub decreases-call_method : goal.decreases-call_method
decreases-call_method l = 20 * l.self.now.left + 11

abbrev pub decreases-call_signal : goal.decreases-call_signal
decreases-call_signal l = 20 * l.self.now.left + 6

abbrev pub decreases-call : goal.decreases-call
decreases-call l = 20 * l.self.now.left + 12

abbrev pub decreases-perform : goal.decreases-perform
decreases-perform l = 20 * l.self.now.left + 13

abbrev pub decreases-assign : goal.decreases-assign
decreases-assign l = 20 * l.self.now.left + 8

abbrev pub decreases-step : goal.decreases-step
decreases-step l = 20 * l.self.now.left + 9

-- the jobs that are left
abbrev pub invariant-handled-loop-job : goal.invariant-handled-loop-job
invariant-handled-loop-job l =
    (each (handle l.room) (drop l.job-index l.job-items) l.self ≡ each (handle l.room) l.job-items l.fn.self) × (l.self.left ≤ l.fn.self.left)

-- the statements that are left
abbrev pub invariant-in_order-loop-stmt : goal.invariant-in_order-loop-stmt
invariant-in_order-loop-stmt l =
    (in_order (map (exec (handle l.at.room) l.at.site.now) (drop l.stmt-index l.stmts)) l.self l.locals
    ≡ in_order (map (exec (handle l.at.room) l.at.site.now) l.stmts) l.fn.self l.fn.locals) × (l.self.left ≤ l.fn.self.left)

-- the places that are left
abbrev pub invariant-tell_changes-loop-place : goal.invariant-tell_changes-loop-place
invariant-tell_changes-loop-place l =
    (each (change_told (handle l.room)) (drop l.place-index l.changed) l.self ≡ each (change_told (handle l.room)) l.changed l.fn.self) × (l.self.left ≤ l.fn.self.left)

-- the turns that are left
abbrev pub invariant-turns-loop-self : goal.invariant-turns-loop-self
invariant-turns-loop-self l =
    Turning l.at.site.now.frame (option_copied l.condition) (turn_of (exec (handle l.at.room) l.at.site.now l.body) (option_map (exec (handle l.at.room) l.at.site.now) (option_copied l.step))) l.self l.locals
    (looped l.at.site.now.frame (option_copied l.condition) (turn_of (exec (handle l.at.room) l.at.site.now l.body) (option_map (exec (handle l.at.room) l.at.site.now) (option_copied l.step))) l.fn.self l.fn.locals)
    × (l.self.left ≤ l.fn.self.left)

abbrev pub decreases-turns-loop-self : goal.decreases-turns-loop-self
decreases-turns-loop-self l = l.self.left
