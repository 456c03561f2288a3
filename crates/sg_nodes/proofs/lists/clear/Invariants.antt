use Rattle.std.proofs.Common.{◌≡◌, ◌≢◌, ℕ, length}
use Rattle.links.specs.Chains.{cells_in}
use Rattle.sg_nodes.specs.Numbers.{KeepsNumbers}
use Rattle.sg_nodes.proofs.lists.clear.Given as goal

-- other lists are as they were
abbrev pub invariant-loop-cell : goal.invariant-loop-cell
invariant-loop-cell l =
    ((other : ℕ) → other ≢ l.list → cells_in l.links.lists other ≡ cells_in l.initial.links.lists other) × KeepsNumbers l.initial.links l.links

abbrev pub decreases-loop-cell : goal.decreases-loop-cell
decreases-loop-cell l = length (cells_in l.links.lists l.list)
