use Rattle.std.proofs.Common.{◌≡◌, Some, Option, IfSome, ap, ◌∙◌, subst}
use Rattle.sg_nodes.specs.declared.node.Node.{Node}
use Rattle.sg_nodes.specs.declared.node.NodeBody.TheVariants.{Group as GroupBody}
use Rattle.sg_nodes.specs.Forest.{put}
use Rattle.sg_nodes.specs.Stored.{forest_of}
use Rattle.sg_standing.specs.Standing.{group_of}
use Rattle.sg_sync.specs.Swapping.{group_node}
use Rattle.sg_sync.proofs.Swapping.{swapped_again, first_node}
use Rattle.sg_sync.proofs.renew.renew_group.Goals as goal

pub returns-clause-swapped : goal.returns-clause-swapped
returns-clause-swapped c =
    let old = c.group_or_new-key.ensures.swapped in
    swapped_again (forest_of c.args.nodes.now) (forest_of c.group_or_new-key.new.nodes) (forest_of c.set_group.new.self) c.group_or_new-key.result old.0 (group_node c.args.serial c.args.paint.now) _ old.1.1
    (subst (λ (o : Option Node). IfSome o (λ node. forest_of c.set_group.new.self
    ≡ record (forest_of c.group_or_new-key.new.nodes) { node = put (forest_of c.group_or_new-key.new.nodes).node c.group_or_new-key.result.slot (Some (record node { body = GroupBody c.group_node.result })) }))
    (first_node (forest_of c.group_or_new-key.new.nodes).node c.group_or_new-key.result old.0 old.1.1.has) c.set_group.ensures.after
    ∙ (ap (λ r. record (forest_of c.group_or_new-key.new.nodes) { node = put (forest_of c.group_or_new-key.new.nodes).node c.group_or_new-key.result.slot (Some (record { item = old.0.item; body = GroupBody r })) }) c.group_node.ensures
    ∙ ap (λ i. record (forest_of c.group_or_new-key.new.nodes) { node = put (forest_of c.group_or_new-key.new.nodes).node c.group_or_new-key.result.slot (Some (record { item = i; body = GroupBody (group_of c.args.paint.now) })) }) old.1.0.0))
