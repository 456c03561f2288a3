use Rattle.signals.specs.Noting.{ignored_note}
use Rattle.signals.proofs.Each.{flat_next}
use Rattle.signals.proofs.noting.note_all_ignored.Goals as goal

pub loop-anchor-preserved : goal.loop-anchor-preserved
loop-anchor-preserved c = flat_next (ignored_note c.args.objects.now) c.args.ignored.now c.loop-anchor.anchor-index _ _ _ _ c.loop-anchor-test.true c.loop-anchor.invariant c.in_ok-note_ignored.ensures
