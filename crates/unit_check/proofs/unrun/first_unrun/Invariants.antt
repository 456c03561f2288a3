use Rattle.std.proofs.Common.{◌≡◌, drop}
use Rattle.unit_check.specs.Unrun.{first_behind}
use Rattle.unit_check.proofs.unrun.first_unrun.Given as goal

-- none before has such a place
abbrev pub invariant-loop-document : goal.invariant-loop-document
invariant-loop-document l = first_behind l.document (drop l.document l.components) ≡ first_behind 0 l.components
