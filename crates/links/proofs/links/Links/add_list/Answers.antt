use Rattle.std.proofs.Common.{◌∙◌}
use Rattle.links.proofs.Moves.{AreDisjoint-StandFor}
use Rattle.links.proofs.Numbers.{StandFor-add_list, unused_list, freed_list, length_ends}
use Rattle.links.proofs.links.Links.add_list.Goals as goal

pub invariant_of-self : goal.invariant_of-self
invariant_of-self c = (StandFor-add_list c.self.inside.cells c.self.inside.lists c.self.invariant c.add.result _ c.add.ensures.within c.add.ensures.vacant (rw c.no_cells.ensures at c.add.ensures.after)).holds

pub returns-clause-unused : goal.returns-clause-unused
returns-clause-unused c = rw (← c.self.view_is) (unused_list c.self.inside.cells c.self.inside.lists c.self.invariant c.add.result c.add.ensures.vacant)

pub returns-clause-after : goal.returns-clause-after
returns-clause-after c = rw (← c.self.view_is) (StandFor-add_list c.self.inside.cells c.self.inside.lists c.self.invariant c.add.result _ c.add.ensures.within c.add.ensures.vacant (rw c.no_cells.ensures at c.add.ensures.after)).shown

pub returns-clause-new_number : goal.returns-clause-new_number
returns-clause-new_number c =
    rw (← c.self.view_is)
    (λ full. c.add.ensures.new_number (λ number e. full number (freed_list c.self.inside.cells c.self.inside.lists c.self.invariant number e)) ∙ length_ends c.self.inside.cells c.self.inside.lists c.self.invariant)

pub returns-clause-disjoint : goal.returns-clause-disjoint
returns-clause-disjoint c = AreDisjoint-StandFor (StandFor-add_list c.self.inside.cells c.self.inside.lists c.self.invariant c.add.result _ c.add.ensures.within c.add.ensures.vacant (rw c.no_cells.ensures at c.add.ensures.after))
