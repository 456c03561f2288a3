use Rattle.std.proofs.Common.{sym, ◌∙◌}
use Rattle.links.proofs.Walking.{AreDisjoint-Represents}
use Rattle.links.proofs.Calls.{not_linked, next_is}
use Rattle.links.proofs.links.Links.next.Goals as goal

pub returns-in_err-link_of-clause-next : goal.returns-in_err-link_of-clause-next
returns-in_err-link_of-clause-next c =
    rw (← c.self.view_is) (λ list place stands. absurd (not_linked c.self.inside.cells c.self.inside.lists c.self.invariant c.args.cell (list, (place, stands)) (sym c.link_of.ensures.value ∙ c.in_err-link_of.was)))

pub returns-in_err-link_of-clause-disjoint : goal.returns-in_err-link_of-clause-disjoint
returns-in_err-link_of-clause-disjoint c = rw (← c.self.view_is) (AreDisjoint-Represents c.self.invariant _ _)

pub returns-clause-next : goal.returns-clause-next
returns-clause-next c =
    rw (← c.self.view_is) (λ list place stands. next_is c.self.inside.cells c.self.inside.lists c.self.invariant c.args.cell c.in_ok-link_of.field-0 (sym c.link_of.ensures.value ∙ c.in_ok-link_of.was) list place stands)

pub returns-clause-disjoint : goal.returns-clause-disjoint
returns-clause-disjoint c = rw (← c.self.view_is) (AreDisjoint-Represents c.self.invariant _ _)
