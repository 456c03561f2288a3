use Rattle.std.proofs.Common.{◌+◌, ◌≤◌}
use Rattle.links.specs.Chains.{AreDisjoint}
use Rattle.sg_nodes.specs.Numbers.{IsFull, SameLists}
use Rattle.sg_nodes.proofs.growth.extend.Given as goal

-- the numbers so far have cells and lists, and there is room for the others
abbrev pub invariant-loop-number : goal.invariant-loop-number
invariant-loop-number l = record {
  full : IsFull l.links l.number;
  lists : SameLists l.fn.links l.links;
  cells_left : l.to ≤ l.number + l.links.spare_cells;
  lists_left : l.to ≤ l.number + l.links.spare_lists;
  disjoint : AreDisjoint l.links;
}
