use Rattle.std.proofs.Common.{ap, refl, ◌∙◌}
use Rattle.links.specs.Slots.{Slots}
use Rattle.links.specs.declared.cell.Cell.{Cell}
use Rattle.links.proofs.Calls.{AreDisjoint-same}
use Rattle.links.proofs.links.Links.reserve.Goals as goal

pub returns-in_err-reserve-clause-disjoint : goal.returns-in_err-reserve-clause-disjoint
returns-in_err-reserve-clause-disjoint c =
    AreDisjoint-same c.self.inside.cells c.self.inside.lists c.self.invariant _ c.self.inside.lists c.reserve.ensures.slots refl

pub returns-then-is_err-clause-disjoint : goal.returns-then-is_err-clause-disjoint
returns-then-is_err-clause-disjoint c =
    AreDisjoint-same c.self.inside.cells c.self.inside.lists c.self.invariant _ _
    (ap (λ (s : Slots Cell). s.slots) c.lower_spare.ensures ∙ c.reserve.ensures.slots) c.reserve-2.ensures.slots

pub returns-clause-disjoint : goal.returns-clause-disjoint
returns-clause-disjoint c =
    AreDisjoint-same c.self.inside.cells c.self.inside.lists c.self.invariant _ _ c.reserve.ensures.slots c.reserve-2.ensures.slots
