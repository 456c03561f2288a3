use Rattle.std.proofs.Common.{◌≡◌}
use Rattle.sg_nodes.specs.Forest.{freed}
use Rattle.sg_nodes.specs.Stored.{forest_of, stored, IsStored}
use Rattle.sg_nodes.proofs.Keeping.{released}
use Rattle.sg_nodes.proofs.nodes.Nodes.release.Goals as goal

after : (c : goal.After-self-1)
    → (forest_of (stored c.remove-node.new.self c.clear.new.links c.root_after-self-inside.result c.self.inside.spare)
    ≡ freed (forest_of (stored c.self.inside.nodes c.self.inside.links c.self.inside.root c.self.inside.spare)) c.args.key.slot)
    × IsStored c.remove-node.new.self c.clear.new.links c.root_after-self-inside.result c.self.inside.spare c.self.inside.count
after c =
    released c.self.invariant c.remove-node.new.self c.loosen.new.links c.clear.new.links c.root_after-self-inside.result c.args.key.slot
    c.remove-node.ensures.updates c.remove-node.ensures.len c.remove-node.ensures.capacity
    c.loosen.ensures.lists c.loosen.ensures.numbers c.clear.ensures.lists c.clear.ensures.numbers c.clear.ensures.disjoint c.root_after-self-inside.ensures

pub invariant_of-self : goal.invariant_of-self
invariant_of-self c = (after c).1

pub returns-clause-forest : goal.returns-clause-forest
returns-clause-forest c = (after c).1.forest
