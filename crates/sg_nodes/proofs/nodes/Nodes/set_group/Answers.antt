use Rattle.std.proofs.Common.{◌≡◌, Option, Some, is_some, ap, sym, subst, refl}
use Rattle.std.specs.Prelude.{IfSome}
use Rattle.slab.specs.Slab.{get, with_value}
use Rattle.sg_nodes.specs.declared.node.Node.{Node}
use Rattle.sg_nodes.specs.declared.node.NodeBody.TheVariants.{Group}
use Rattle.sg_nodes.specs.Forest.{put}
use Rattle.sg_nodes.specs.Stored.{StoredNodes, forest_of, stored}
use Rattle.sg_nodes.proofs.Keeping.{changed}
use Rattle.sg_nodes.proofs.nodes.Nodes.set_group.Goals as goal

pub returns-clause-after : goal.returns-clause-after
returns-clause-after c =
    let given : Node = record { item = c.in-Some.node.now.item; body = Group c.args.group } in
    let after = stored (with_value c.self.inside.nodes c.args.key.slot given) c.self.inside.links c.self.inside.root c.self.inside.spare in
    subst (λ (s : StoredNodes). IfSome ((forest_of s).node c.args.key.slot) (λ node.
    forest_of after ≡ record (forest_of s) { node = put (forest_of s).node c.args.key.slot (Some (record node { body = Group c.args.group })) })) c.self.view_is
    (subst (λ (o : Option Node). IfSome o (λ node.
    forest_of after ≡ record (forest_of (stored c.self.inside.nodes c.self.inside.links c.self.inside.root c.self.inside.spare)) {
      node = put (get c.self.inside.nodes) c.args.key.slot (Some (record node { body = Group c.args.group }));
    })) c.in-Some.ensures.value
    (changed c.self.invariant (with_value c.self.inside.nodes c.args.key.slot given) c.args.key.slot given (ap is_some (sym c.in-Some.ensures.value)) refl).0)
