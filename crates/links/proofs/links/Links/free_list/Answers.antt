use Rattle.links.proofs.Moves.{AreDisjoint-StandFor}
use Rattle.links.proofs.Numbers.{StandFor-free_list}
use Rattle.links.proofs.links.Links.free_list.Goals as goal

pub invariant_of-self : goal.invariant_of-self
invariant_of-self c = (StandFor-free_list c.self.inside.cells c.self.inside.lists c.self.invariant c.args.list _ (rw (← c.self.view_is) at c.requires.list) (rw (← c.self.view_is) at c.requires.empty) c.remove.ensures).holds

pub returns-clause-after : goal.returns-clause-after
returns-clause-after c = rw (← c.self.view_is) (StandFor-free_list c.self.inside.cells c.self.inside.lists c.self.invariant c.args.list _ (rw (← c.self.view_is) at c.requires.list) (rw (← c.self.view_is) at c.requires.empty) c.remove.ensures).shown

pub returns-clause-disjoint : goal.returns-clause-disjoint
returns-clause-disjoint c = AreDisjoint-StandFor (StandFor-free_list c.self.inside.cells c.self.inside.lists c.self.invariant c.args.list _ (rw (← c.self.view_is) at c.requires.list) (rw (← c.self.view_is) at c.requires.empty) c.remove.ensures)
