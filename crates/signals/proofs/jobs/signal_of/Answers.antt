use Rattle.std.proofs.Common.{◌∙◌, ◌<◌, sym, subst}
use Rattle.object_tree.specs.Handlers.{signal_name_at}
use Rattle.object_tree.specs.Reading.{instance_at}
use Rattle.signals.specs.Jobs.{is_handled_by, signal_count}
use Rattle.signals.proofs.Firsts.{first_next}
use Rattle.signals.proofs.jobs.signal_of.Goals as goal

pub loop-signal-preserved : goal.loop-signal-preserved
loop-signal-preserved c =
    first_next (λ number. is_handled_by c.args.path.now (signal_name_at c.args.of number c.args.objects.now)) c.loop-signal.signal (signal_count (instance_at c.args.of c.args.objects.now)) _
    (subst (λ n. c.loop-signal.signal < n) c.signal_count-signal-end.ensures c.loop-signal-test.true) (sym c.is_handled_by.ensures ∙ c.if-is_handled_by.false) c.loop-signal.invariant
