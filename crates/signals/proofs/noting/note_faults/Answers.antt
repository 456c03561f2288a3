use Rattle.signals.specs.Noting.{fault_note}
use Rattle.signals.proofs.Each.{flat_next}
use Rattle.signals.proofs.noting.note_faults.Goals as goal

pub loop-found-preserved : goal.loop-found-preserved
loop-found-preserved c = flat_next (fault_note c.args.objects.now) c.args.faults.now c.loop-found.found-index _ _ _ _ c.loop-found-test.true c.loop-found.invariant c.in_ok-note_fault.ensures
