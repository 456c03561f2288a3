use Rattle.std.proofs.Common.{◌≡◌, length}
use Rattle.polish.proofs.Steps.{IsLaidOut}
use Rattle.polish.proofs.rounds.round.Given as goal

abbrev pub invariant-loop-positioner : goal.invariant-loop-positioner
invariant-loop-positioner g l =
    IsLaidOut g.T.Layouts.lays_out (g.T.Layouts.size l.fn.layouts) l.fn.layouts l.changed l.layouts l.waiting.left
    × ((g.T.Layouts.size l.layouts ≡ g.T.Layouts.size l.fn.layouts) × (l.waiting.count ≡ l.fn.waiting.count))

abbrev pub decreases-loop-positioner : goal.decreases-loop-positioner
decreases-loop-positioner g l = length l.waiting.left
