use Rattle.std.proofs.Common.{sym, ◌∙◌}
use Rattle.links.proofs.Walking.{AreDisjoint-Represents}
use Rattle.links.proofs.Ending.{ends_at, first_from}
use Rattle.links.proofs.links.Links.first.Goals as goal

pub returns-in_err-ends_at-clause-disjoint : goal.returns-in_err-ends_at-clause-disjoint
returns-in_err-ends_at-clause-disjoint c = rw (← c.self.view_is) (AreDisjoint-Represents c.self.invariant _ _)

pub returns-clause-disjoint : goal.returns-clause-disjoint
returns-clause-disjoint c = rw (← c.self.view_is) (AreDisjoint-Represents c.self.invariant _ _)

pub returns-clause-first : goal.returns-clause-first
returns-clause-first c = rw (← c.self.view_is) (first_from _ c.in_ok-ends_at.field-0 (sym (ends_at c.self.invariant c.args.list) ∙ (sym c.ends_at.ensures.value ∙ c.in_ok-ends_at.was)))
