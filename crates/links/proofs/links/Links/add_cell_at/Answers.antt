use Rattle.links.proofs.Moves.{AreDisjoint-StandFor, IsLoose-StandFor}
use Rattle.links.proofs.Numbers.{StandFor-add_cell, vacant_cell, fits_cell, room_cell, loose_cell}
use Rattle.links.proofs.links.Links.add_cell_at.Goals as goal

pub add_at-requires-clause-within : goal.add_at-requires-clause-within
add_at-requires-clause-within c = fits_cell c.self.inside.cells c.self.inside.lists c.self.invariant c.args.cell (rw (← c.self.view_is) at c.requires.within)

pub add_at-requires-clause-vacant : goal.add_at-requires-clause-vacant
add_at-requires-clause-vacant c = vacant_cell c.self.inside.cells c.self.inside.lists c.self.invariant c.args.cell (rw (← c.self.view_is) at c.requires.unused)

pub add_at-requires-clause-room : goal.add_at-requires-clause-room
add_at-requires-clause-room c = room_cell c.self.inside.cells c.self.inside.lists c.self.invariant c.args.cell (rw (← c.self.view_is) at c.requires.room)

pub invariant_of-self : goal.invariant_of-self
invariant_of-self c = (StandFor-add_cell c.self.inside.cells c.self.inside.lists c.self.invariant c.args.cell _ (fits_cell c.self.inside.cells c.self.inside.lists c.self.invariant c.args.cell (rw (← c.self.view_is) at c.requires.within)) (vacant_cell c.self.inside.cells c.self.inside.lists c.self.invariant c.args.cell (rw (← c.self.view_is) at c.requires.unused)) (rw c.new.ensures at c.add_at.ensures)).holds

pub returns-clause-after : goal.returns-clause-after
returns-clause-after c = rw (← c.self.view_is) (StandFor-add_cell c.self.inside.cells c.self.inside.lists c.self.invariant c.args.cell _ (fits_cell c.self.inside.cells c.self.inside.lists c.self.invariant c.args.cell (rw (← c.self.view_is) at c.requires.within)) (vacant_cell c.self.inside.cells c.self.inside.lists c.self.invariant c.args.cell (rw (← c.self.view_is) at c.requires.unused)) (rw c.new.ensures at c.add_at.ensures)).shown

pub returns-clause-disjoint : goal.returns-clause-disjoint
returns-clause-disjoint c = AreDisjoint-StandFor (StandFor-add_cell c.self.inside.cells c.self.inside.lists c.self.invariant c.args.cell _ (fits_cell c.self.inside.cells c.self.inside.lists c.self.invariant c.args.cell (rw (← c.self.view_is) at c.requires.within)) (vacant_cell c.self.inside.cells c.self.inside.lists c.self.invariant c.args.cell (rw (← c.self.view_is) at c.requires.unused)) (rw c.new.ensures at c.add_at.ensures))

pub returns-clause-loose : goal.returns-clause-loose
returns-clause-loose c =
    IsLoose-StandFor (StandFor-add_cell c.self.inside.cells c.self.inside.lists c.self.invariant c.args.cell _ (fits_cell c.self.inside.cells c.self.inside.lists c.self.invariant c.args.cell (rw (← c.self.view_is) at c.requires.within)) (vacant_cell c.self.inside.cells c.self.inside.lists c.self.invariant c.args.cell (rw (← c.self.view_is) at c.requires.unused)) (rw c.new.ensures at c.add_at.ensures))
    c.args.cell (loose_cell c.self.inside.cells c.self.inside.lists c.self.invariant c.args.cell _ (fits_cell c.self.inside.cells c.self.inside.lists c.self.invariant c.args.cell (rw (← c.self.view_is) at c.requires.within)) (rw c.new.ensures at c.add_at.ensures))
