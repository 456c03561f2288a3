use Rattle.std.proofs.Common.{is_some, sym, ◌∙◌}
use Rattle.std.proofs.lemmas.List.{length-map}
use Rattle.links.proofs.Moves.{AreDisjoint-StandFor, IsLoose-StandFor}
use Rattle.links.proofs.Numbers.{StandFor-add_cell, unused_cell, freed_cell, loose_cell}
use Rattle.links.proofs.links.Links.add_cell.Goals as goal

pub invariant_of-self : goal.invariant_of-self
invariant_of-self c = (StandFor-add_cell c.self.inside.cells c.self.inside.lists c.self.invariant c.add.result _ c.add.ensures.within c.add.ensures.vacant (rw c.new.ensures at c.add.ensures.after)).holds

pub returns-clause-unused : goal.returns-clause-unused
returns-clause-unused c = rw (← c.self.view_is) (unused_cell c.self.inside.cells c.self.inside.lists c.self.invariant c.add.result c.add.ensures.vacant)

pub returns-clause-after : goal.returns-clause-after
returns-clause-after c = rw (← c.self.view_is) (StandFor-add_cell c.self.inside.cells c.self.inside.lists c.self.invariant c.add.result _ c.add.ensures.within c.add.ensures.vacant (rw c.new.ensures at c.add.ensures.after)).shown

pub returns-clause-new_number : goal.returns-clause-new_number
returns-clause-new_number c =
    rw (← c.self.view_is)
    (λ full. c.add.ensures.new_number (λ number e. full number (freed_cell c.self.inside.cells c.self.inside.lists c.self.invariant number e)) ∙ sym (length-map c.self.inside.cells.slots is_some))

pub returns-clause-disjoint : goal.returns-clause-disjoint
returns-clause-disjoint c = AreDisjoint-StandFor (StandFor-add_cell c.self.inside.cells c.self.inside.lists c.self.invariant c.add.result _ c.add.ensures.within c.add.ensures.vacant (rw c.new.ensures at c.add.ensures.after))

pub returns-clause-loose : goal.returns-clause-loose
returns-clause-loose c =
    IsLoose-StandFor (StandFor-add_cell c.self.inside.cells c.self.inside.lists c.self.invariant c.add.result _ c.add.ensures.within c.add.ensures.vacant (rw c.new.ensures at c.add.ensures.after))
    c.add.result (loose_cell c.self.inside.cells c.self.inside.lists c.self.invariant c.add.result _ c.add.ensures.within (rw c.new.ensures at c.add.ensures.after))
