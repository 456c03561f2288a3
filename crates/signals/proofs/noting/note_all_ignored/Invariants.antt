use Rattle.std.proofs.Common.{◌≡◌, ◌++◌, drop, flat_map}
use Rattle.signals.specs.Noting.{ignored_note}
use Rattle.signals.proofs.noting.note_all_ignored.Given as goal

-- with those that are left, all are noted
abbrev pub invariant-loop-anchor : goal.invariant-loop-anchor
invariant-loop-anchor l = l.notes ++ flat_map (ignored_note l.objects) (drop l.anchor-index l.ignored) ≡ l.fn.notes ++ flat_map (ignored_note l.objects) l.ignored
