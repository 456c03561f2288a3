use Rattle.links.proofs.Moves.{AreDisjoint-StandFor}
use Rattle.links.proofs.Numbers.{StandFor-add_list, vacant_list, fits_list, room_list}
use Rattle.links.proofs.links.Links.add_list_at.Goals as goal

pub add_at-requires-clause-within : goal.add_at-requires-clause-within
add_at-requires-clause-within c = fits_list c.self.inside.cells c.self.inside.lists c.self.invariant c.args.list (rw (← c.self.view_is) at c.requires.within)

pub add_at-requires-clause-vacant : goal.add_at-requires-clause-vacant
add_at-requires-clause-vacant c = vacant_list c.self.inside.cells c.self.inside.lists c.self.invariant c.args.list (rw (← c.self.view_is) at c.requires.unused)

pub add_at-requires-clause-room : goal.add_at-requires-clause-room
add_at-requires-clause-room c = room_list c.self.inside.cells c.self.inside.lists c.self.invariant c.args.list (rw (← c.self.view_is) at c.requires.room)

pub invariant_of-self : goal.invariant_of-self
invariant_of-self c = (StandFor-add_list c.self.inside.cells c.self.inside.lists c.self.invariant c.args.list _ (fits_list c.self.inside.cells c.self.inside.lists c.self.invariant c.args.list (rw (← c.self.view_is) at c.requires.within)) (vacant_list c.self.inside.cells c.self.inside.lists c.self.invariant c.args.list (rw (← c.self.view_is) at c.requires.unused)) (rw c.no_cells.ensures at c.add_at.ensures)).holds

pub returns-clause-after : goal.returns-clause-after
returns-clause-after c = rw (← c.self.view_is) (StandFor-add_list c.self.inside.cells c.self.inside.lists c.self.invariant c.args.list _ (fits_list c.self.inside.cells c.self.inside.lists c.self.invariant c.args.list (rw (← c.self.view_is) at c.requires.within)) (vacant_list c.self.inside.cells c.self.inside.lists c.self.invariant c.args.list (rw (← c.self.view_is) at c.requires.unused)) (rw c.no_cells.ensures at c.add_at.ensures)).shown

pub returns-clause-disjoint : goal.returns-clause-disjoint
returns-clause-disjoint c = AreDisjoint-StandFor (StandFor-add_list c.self.inside.cells c.self.inside.lists c.self.invariant c.args.list _ (fits_list c.self.inside.cells c.self.inside.lists c.self.invariant c.args.list (rw (← c.self.view_is) at c.requires.within)) (vacant_list c.self.inside.cells c.self.inside.lists c.self.invariant c.args.list (rw (← c.self.view_is) at c.requires.unused)) (rw c.no_cells.ensures at c.add_at.ensures))
