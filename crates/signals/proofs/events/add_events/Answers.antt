use Rattle.signals.specs.Events.{event_at}
use Rattle.signals.proofs.Each.{flat_next}
use Rattle.signals.proofs.events.add_events.Goals as goal

pub loop-place-preserved : goal.loop-place-preserved
loop-place-preserved c = flat_next (event_at c.args.objects.now) c.args.changed.now c.loop-place.place-index _ _ _ _ c.loop-place-test.true c.loop-place.invariant c.in_ok-add_event.ensures
