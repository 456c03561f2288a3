use Rattle.std.proofs.Common.{◌≡◌, Some, Option, IfSome, refl, ap, ◌∙◌, subst, arith}
use Rattle.sg_nodes.specs.declared.node.Node.{Node}
use Rattle.sg_nodes.specs.declared.node.NodeKind.TheVariants.{Rect as RectKind}
use Rattle.sg_nodes.specs.declared.node.NodeBody.TheVariants.{Rect as RectBody}
use Rattle.sg_nodes.specs.Bodies.{fresh_body}
use Rattle.sg_nodes.specs.Forest.{Forest, put}
use Rattle.sg_nodes.specs.Stored.{forest_of}
use Rattle.sg_sync.specs.Swapping.{rect_node}
use Rattle.sg_sync.proofs.Swapping.{made_node, swapped_made, swapped_again}
use Rattle.sg_sync.proofs.renew.make_rect.Goals as goal
use Rattle.sg_sync.proofs.renew.make_rect.Goals.{After-set_rect}

after : (c : After-set_rect) → forest_of c.set_rect.new.self ≡ record (forest_of c.make-key.new.self) { node = put (forest_of c.make-key.new.self).node c.make-key.result.slot (Some (rect_node c.args.serial c.args.part)) }
after c =
    subst (λ (o : Option Node). IfSome o (λ node. forest_of c.set_rect.new.self
    ≡ record (forest_of c.make-key.new.self) { node = put (forest_of c.make-key.new.self).node c.make-key.result.slot (Some (record node { body = RectBody c.rect_node.result })) }))
    (made_node (forest_of c.args.nodes.now) (forest_of c.make-key.new.self) c.make-key.result _ _ c.make-key.ensures.after) c.set_rect.ensures.after
    ∙ ap (λ r. record (forest_of c.make-key.new.self) { node = put (forest_of c.make-key.new.self).node c.make-key.result.slot (Some (record { item = c.args.serial; body = RectBody r })) }) c.rect_node.ensures

pub set_rect-requires : goal.set_rect-requires
set_rect-requires c =
    (record { item = c.args.serial; body = fresh_body RectKind }, (made_node (forest_of c.args.nodes.now) (forest_of c.make-key.new.self) c.make-key.result _ _ c.make-key.ensures.after, refl))

pub returns-clause-swapped : goal.returns-clause-swapped
returns-clause-swapped c =
    swapped_again (forest_of c.args.nodes.now) (forest_of c.make-key.new.self) (forest_of c.set_rect.new.self) c.make-key.result _ (rect_node c.args.serial c.args.part) _
    (swapped_made (forest_of c.args.nodes.now) (forest_of c.make-key.new.self) c.make-key.result _ _ c.make-key.ensures.fresh c.make-key.ensures.after) (after c)

pub returns-clause-spare : goal.returns-clause-spare
returns-clause-spare c =
    let one = ap (λ (h : Forest). h.spare) c.make-key.ensures.after in
    let two = ap (λ (h : Forest). h.spare) (after c) in
    omega arith
