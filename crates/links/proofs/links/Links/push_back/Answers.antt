use Rattle.links.proofs.Moves.{AreDisjoint-StandFor}
use Rattle.links.proofs.Calls.{StandFor-push_back}
use Rattle.links.proofs.links.Links.push_back.Goals as goal

pub invariant_of-self : goal.invariant_of-self
invariant_of-self c =
    (StandFor-push_back c.self.inside.cells c.self.inside.lists c.self.invariant c.args.list c.args.cell c.last_of.result _ _
    (rw (← c.self.view_is) at c.requires.list) (rw (← c.self.view_is) at c.requires.cell) (rw (← c.self.view_is) at c.requires.loose)
    c.last_of.ensures.value c.put.ensures.cells c.put.ensures.lists).holds

pub returns-clause-after : goal.returns-clause-after
returns-clause-after c =
    rw (← c.self.view_is)
    (StandFor-push_back c.self.inside.cells c.self.inside.lists c.self.invariant c.args.list c.args.cell c.last_of.result _ _
    (rw (← c.self.view_is) at c.requires.list) (rw (← c.self.view_is) at c.requires.cell) (rw (← c.self.view_is) at c.requires.loose)
    c.last_of.ensures.value c.put.ensures.cells c.put.ensures.lists).shown

pub returns-clause-disjoint : goal.returns-clause-disjoint
returns-clause-disjoint c =
    AreDisjoint-StandFor
    (StandFor-push_back c.self.inside.cells c.self.inside.lists c.self.invariant c.args.list c.args.cell c.last_of.result _ _
    (rw (← c.self.view_is) at c.requires.list) (rw (← c.self.view_is) at c.requires.cell) (rw (← c.self.view_is) at c.requires.loose)
    c.last_of.ensures.value c.put.ensures.cells c.put.ensures.lists)
