use Rattle.std.proofs.Common.{◌≡◌, []}
use Rattle.polish.specs.Rounds.{ChangingRounds}
use Rattle.polish.proofs.rounds.polish.Given as goal

-- each round before this one changed something
abbrev pub invariant-loop-before : goal.invariant-loop-before
invariant-loop-before g l =
    ChangingRounds g.T.Layouts.lays_out g.T.Layouts.settles (g.T.Layouts.size l.fn.layouts) l.before l.fn.layouts l.layouts
    × ((g.T.Layouts.size l.layouts ≡ g.T.Layouts.size l.fn.layouts) × ((l.waiting.left ≡ []) × (l.waiting.count ≡ g.T.Layouts.size l.fn.layouts)))
