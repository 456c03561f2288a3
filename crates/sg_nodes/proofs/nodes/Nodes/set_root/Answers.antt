use Rattle.std.proofs.Common.{Some, sym, subst}
use Rattle.sg_nodes.specs.Forest.{IsLive, IsChild}
use Rattle.sg_nodes.specs.Stored.{StoredNodes, forest_of, IsStored}
use Rattle.sg_nodes.proofs.Keeping.{rooted}
use Rattle.sg_nodes.proofs.nodes.Nodes.set_root.Goals as goal

after : (c : goal.After-self-1) → IsStored c.self.inside.nodes c.self.inside.links (Some c.args.key.slot) c.self.inside.spare c.self.inside.count
after c =
    rooted c.self.invariant c.args.key.slot
    (subst (λ (s : StoredNodes). IsLive (forest_of s) c.args.key.slot) (sym c.self.view_is) c.requires.live)
    (λ parent. subst (λ (s : StoredNodes). ¬ IsChild (forest_of s) parent c.args.key.slot) (sym c.self.view_is) (c.requires.no_parent parent))

pub invariant_of-self : goal.invariant_of-self
invariant_of-self c = after c

pub returns-clause-forest : goal.returns-clause-forest
returns-clause-forest c = (after c).forest
