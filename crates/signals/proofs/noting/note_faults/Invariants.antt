use Rattle.std.proofs.Common.{◌≡◌, ◌++◌, drop, flat_map}
use Rattle.signals.specs.Noting.{fault_note}
use Rattle.signals.proofs.noting.note_faults.Given as goal

-- with those that are left, all are noted
abbrev pub invariant-loop-found : goal.invariant-loop-found
invariant-loop-found l = l.notes ++ flat_map (fault_note l.objects) (drop l.found-index l.faults) ≡ l.fn.notes ++ flat_map (fault_note l.objects) l.faults
