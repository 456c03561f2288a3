use Rattle.std.proofs.Common.{sym, ◌∙◌}
use Rattle.links.specs.Chains.{IsLinked}
use Rattle.links.specs.Cells.{chains_of}
use Rattle.links.proofs.Moves.{AreDisjoint-StandFor, is_there}
use Rattle.links.proofs.Calls.{not_linked, StandFor-insert_before}
use Rattle.links.proofs.links.Links.insert_before.Goals as goal

pub unreachable-requires : goal.unreachable-requires
unreachable-requires c = not_linked c.self.inside.cells c.self.inside.lists c.self.invariant c.args.at (rw (← c.self.view_is) at c.requires.linked) (sym c.link_of.ensures.value ∙ c.in_default.is)

pub put-requires-clause-used : goal.put-requires-clause-used
put-requires-clause-used c = is_there c.self.inside.cells.slots c.args.cell (rw (← c.self.view_is) at c.requires.cell)

pub invariant_of-self : goal.invariant_of-self
invariant_of-self c =
    let linked : IsLinked (chains_of c.self.inside.cells c.self.inside.lists) c.args.at = rw (← c.self.view_is) at c.requires.linked in
    (StandFor-insert_before c.self.inside.cells c.self.inside.lists c.self.invariant c.args.cell c.args.at c.in-Some.link _ _
    (rw (← c.self.view_is) at c.requires.cell) (rw (← c.self.view_is) at c.requires.loose) (sym c.link_of.ensures.value ∙ c.in-Some.is)
    c.put.ensures.cells c.put.ensures.lists linked.0 linked.1.0 linked.1.1).holds

pub returns-clause-after : goal.returns-clause-after
returns-clause-after c =
    let used = rw (← c.self.view_is) at c.requires.cell in
    let loose = rw (← c.self.view_is) at c.requires.loose in
    rw (← c.self.view_is)
    (λ list place stands.
    (StandFor-insert_before c.self.inside.cells c.self.inside.lists c.self.invariant c.args.cell c.args.at c.in-Some.link _ _
    used loose (sym c.link_of.ensures.value ∙ c.in-Some.is) c.put.ensures.cells c.put.ensures.lists list place stands).shown)

pub returns-clause-disjoint : goal.returns-clause-disjoint
returns-clause-disjoint c =
    let linked : IsLinked (chains_of c.self.inside.cells c.self.inside.lists) c.args.at = rw (← c.self.view_is) at c.requires.linked in
    AreDisjoint-StandFor
    (StandFor-insert_before c.self.inside.cells c.self.inside.lists c.self.invariant c.args.cell c.args.at c.in-Some.link _ _
    (rw (← c.self.view_is) at c.requires.cell) (rw (← c.self.view_is) at c.requires.loose) (sym c.link_of.ensures.value ∙ c.in-Some.is)
    c.put.ensures.cells c.put.ensures.lists linked.0 linked.1.0 linked.1.1)
