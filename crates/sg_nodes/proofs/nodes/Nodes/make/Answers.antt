use Rattle.std.proofs.Common.{◌≡◌, ◌≢◌, [], Some, subst}
use Rattle.links.specs.Chains.{cells_in}
use Rattle.sg_nodes.specs.Forest.{IsChild}
use Rattle.sg_nodes.specs.Stored.{StoredNodes, forest_of}
use Rattle.sg_nodes.proofs.Keeping.{childless, no_parent, not_root}
use Rattle.sg_nodes.proofs.nodes.Nodes.make.Goals as goal

pub returns-clause-childless : goal.returns-clause-childless
returns-clause-childless c =
    subst (λ (s : StoredNodes). cells_in s.lists c.insert_reserved-slot.result ≡ []) c.self.view_is
    (childless c.self.invariant c.insert_reserved-slot.result c.insert_reserved-slot.ensures.was_vacant)

pub returns-clause-no_parent : goal.returns-clause-no_parent
returns-clause-no_parent c parent =
    subst (λ (s : StoredNodes). ¬ IsChild (forest_of s) parent c.insert_reserved-slot.result) c.self.view_is
    (no_parent c.self.invariant c.insert_reserved-slot.result c.insert_reserved-slot.ensures.was_vacant parent)

pub returns-clause-not_root : goal.returns-clause-not_root
returns-clause-not_root c =
    subst (λ (s : StoredNodes). s.root ≢ Some c.insert_reserved-slot.result) c.self.view_is
    (not_root c.self.invariant c.insert_reserved-slot.result c.insert_reserved-slot.ensures.was_vacant)
