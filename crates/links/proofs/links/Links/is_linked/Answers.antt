use Rattle.std.proofs.Common.{is_some, ap, ◌∙◌}
use Rattle.links.proofs.Walking.{AreDisjoint-Represents}
use Rattle.links.proofs.Calls.{is_linked_where}
use Rattle.links.proofs.links.Links.is_linked.Goals as goal

pub returns-clause-linked : goal.returns-clause-linked
returns-clause-linked c = rw (← c.self.view_is) (is_linked_where c.self.inside.cells c.self.inside.lists c.self.invariant c.args.cell c.is_some.result (c.is_some.ensures ∙ ap is_some c.link_of.ensures.value))

pub returns-clause-disjoint : goal.returns-clause-disjoint
returns-clause-disjoint c = rw (← c.self.view_is) (AreDisjoint-Represents c.self.invariant _ _)
