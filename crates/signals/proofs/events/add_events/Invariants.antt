use Rattle.std.proofs.Common.{◌≡◌, ◌++◌, drop, flat_map}
use Rattle.signals.specs.Events.{event_at}
use Rattle.signals.proofs.events.add_events.Given as goal

-- with those that are left, all are added
abbrev pub invariant-loop-place : goal.invariant-loop-place
invariant-loop-place l = l.events ++ flat_map (event_at l.objects) (drop l.place-index l.changed) ≡ l.fn.events ++ flat_map (event_at l.objects) l.changed
