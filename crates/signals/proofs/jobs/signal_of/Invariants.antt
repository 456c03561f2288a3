use Rattle.std.proofs.Common.{◌≡◌, ◌-◌}
use Rattle.object_tree.specs.Handlers.{signal_name_at}
use Rattle.object_tree.specs.Reading.{instance_at}
use Rattle.signals.specs.Jobs.{first_from, is_handled_by, signal_count, signal_of}
use Rattle.signals.proofs.jobs.signal_of.Given as goal

-- the first of those that are left
abbrev pub invariant-loop-signal : goal.invariant-loop-signal
invariant-loop-signal l =
    first_from (λ number. is_handled_by l.path (signal_name_at l.of number l.objects)) l.signal (signal_count (instance_at l.of l.objects) - l.signal) ≡ signal_of l.of l.path l.objects
