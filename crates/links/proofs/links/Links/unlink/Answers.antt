use Rattle.std.proofs.Common.{sym, ◌∙◌}
use Rattle.links.specs.Chains.{IsLinked}
use Rattle.links.specs.Cells.{chains_of}
use Rattle.links.proofs.Moves.{AreDisjoint-StandFor, IsLoose-StandFor}
use Rattle.links.proofs.Calls.{not_linked, StandFor-unlink, loose_taken}
use Rattle.links.proofs.links.Links.unlink.Goals as goal

pub unreachable-requires : goal.unreachable-requires
unreachable-requires c = not_linked c.self.inside.cells c.self.inside.lists c.self.invariant c.args.cell (rw (← c.self.view_is) at c.requires.linked) (sym c.link_of.ensures.value ∙ c.in_default.is)

pub invariant_of-self : goal.invariant_of-self
invariant_of-self c =
    let linked : IsLinked (chains_of c.self.inside.cells c.self.inside.lists) c.args.cell = rw (← c.self.view_is) at c.requires.linked in
    (StandFor-unlink c.self.inside.cells c.self.inside.lists c.self.invariant c.args.cell c.in-Some.place _ _
    (sym c.link_of.ensures.value ∙ c.in-Some.is) c.take.ensures.cells c.take.ensures.lists linked.0 linked.1.0 linked.1.1).holds

pub returns-clause-after : goal.returns-clause-after
returns-clause-after c =
    rw (← c.self.view_is)
    (λ list place stands.
    (StandFor-unlink c.self.inside.cells c.self.inside.lists c.self.invariant c.args.cell c.in-Some.place _ _
    (sym c.link_of.ensures.value ∙ c.in-Some.is) c.take.ensures.cells c.take.ensures.lists list place stands).shown)

pub returns-clause-disjoint : goal.returns-clause-disjoint
returns-clause-disjoint c =
    let linked : IsLinked (chains_of c.self.inside.cells c.self.inside.lists) c.args.cell = rw (← c.self.view_is) at c.requires.linked in
    AreDisjoint-StandFor
    (StandFor-unlink c.self.inside.cells c.self.inside.lists c.self.invariant c.args.cell c.in-Some.place _ _
    (sym c.link_of.ensures.value ∙ c.in-Some.is) c.take.ensures.cells c.take.ensures.lists linked.0 linked.1.0 linked.1.1)

pub returns-clause-loose : goal.returns-clause-loose
returns-clause-loose c =
    let linked : IsLinked (chains_of c.self.inside.cells c.self.inside.lists) c.args.cell = rw (← c.self.view_is) at c.requires.linked in
    IsLoose-StandFor
    (StandFor-unlink c.self.inside.cells c.self.inside.lists c.self.invariant c.args.cell c.in-Some.place _ _
    (sym c.link_of.ensures.value ∙ c.in-Some.is) c.take.ensures.cells c.take.ensures.lists linked.0 linked.1.0 linked.1.1)
    c.args.cell
    (loose_taken c.self.inside.cells c.self.inside.lists c.self.invariant c.args.cell c.in-Some.place _
    (sym c.link_of.ensures.value ∙ c.in-Some.is) c.take.ensures.cells linked.0 linked.1.0 linked.1.1)
