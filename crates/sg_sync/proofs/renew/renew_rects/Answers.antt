use Rattle.std.proofs.Common.{List, map as list_map, is_some, ap, subst, []}
use Rattle.links.specs.declared.node_key.NodeKey.{NodeKey}
use Rattle.item_geometry.specs.declared.parts.RectPart.{RectPart}
use Rattle.scene.specs.Keys.{rect_keys}
use Rattle.sg_nodes.specs.Stored.{forest_of}
use Rattle.sg_sync.specs.Own.{IsIn}
use Rattle.sg_sync.specs.Swapping.{Swapped, rect_node}
use Rattle.sg_sync.proofs.Setting.{rects_kept, rects_made}
use Rattle.sg_sync.proofs.renew.renew_rects.Goals as goal

pub returns-then-old-parts-clause-swapped : goal.returns-then-old-parts-clause-swapped
returns-then-old-parts-clause-swapped c =
    rects_kept (forest_of c.args.nodes.now) (forest_of c.set_rects.new.nodes) (rect_keys c.args.keys) c.rect_slice-old.result.now _ c.rect_slice-old.ensures.keys
    (subst (λ (ps : List RectPart). Swapped (forest_of c.args.nodes.now) (forest_of c.set_rects.new.nodes) c.rect_slice-old.result.now c.rect_slice-old.result.now [] (list_map (rect_node c.args.serial) ps)) c.part_slice-parts.ensures.parts
    c.set_rects.ensures.swapped)

pub free_all-requires-clause-live : goal.free_all-requires-clause-live
free_all-requires-clause-live c key is = ap is_some (c.requires.of_item key (subst (λ (ks : List NodeKey). IsIn ks key) c.rect_slice-old.ensures.keys is)).1.0

pub returns-clause-swapped : goal.returns-clause-swapped
returns-clause-swapped c =
    rects_made (forest_of c.args.nodes.now) (forest_of c.free_all.new.nodes) (forest_of c.make_rects.new.nodes) (rect_keys c.args.keys) c.rect_slice-old.result.now (rect_keys c.make_rects.result) _ c.rect_slice-old.ensures.keys
    c.free_all.ensures.swapped c.make_rects.ensures.swapped
