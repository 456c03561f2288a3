use Rattle.std.proofs.Common.{◌≡◌, ◌+◌, ◌≤◌, true, [], ◌∷◌, Some}
use Rattle.std.specs.Prelude.{replicate}
use Rattle.polish.proofs.waiting.Waiting.new.Given as goal

abbrev pub invariant-loop-positioner : goal.invariant-loop-positioner
invariant-loop-positioner l = (l.links.lists ≡ Some [] ∷ []) × ((l.links.cells ≡ replicate l.positioner true) × (l.count ≤ l.positioner + l.links.spare_cells))
