use Rattle.std.proofs.Common.{List, pos, ◌∙◌, subst, arith, take, [], map as list_map}
use Rattle.std.proofs.lemmas.List.{take_all}
use Rattle.links.specs.declared.node_key.NodeKey.{NodeKey}
use Rattle.item_geometry.specs.declared.parts.RectPart.{RectPart}
use Rattle.sg_nodes.specs.Stored.{forest_of}
use Rattle.sg_sync.specs.Swapping.{Swapped, rect_node}
use Rattle.sg_sync.proofs.Setting.{set_of, set_kind, set_more, set_spare}
use Rattle.sg_sync.proofs.renew.set_rects.Goals as goal

abbrev zero_part : RectPart
zero_part = record { x = pos 0; y = pos 0; w = pos 0; h = pos 0; argb = 0 }

pub set_rect-requires : goal.set_rect-requires
set_rect-requires c =
    set_kind (forest_of c.args.nodes.now) (forest_of c.loop-i.nodes) c.args.serial c.args.keys.now c.args.parts.now c.loop-i.i (omega arith) c.requires.len c.requires.of_item c.requires.distinct c.loop-i.invariant.swapped zero_part

pub loop-i-preserved : goal.loop-i-preserved
loop-i-preserved c =
    let was = set_of (forest_of c.args.nodes.now) (forest_of c.loop-i.nodes) c.args.serial c.args.keys.now c.args.parts.now c.loop-i.i (omega arith) c.requires.len c.requires.of_item c.requires.distinct c.loop-i.invariant.swapped zero_part in
    record {
      swapped =
          set_more (forest_of c.args.nodes.now) (forest_of c.loop-i.nodes) c.args.serial c.args.keys.now c.args.parts.now c.loop-i.i (omega arith) c.requires.len c.requires.of_item c.requires.distinct c.loop-i.invariant.swapped zero_part
          (forest_of c.set_rect.new.self) c.rect_node.result c.rect_node.ensures c.set_rect.ensures.after;
      spare =
          set_spare (forest_of c.loop-i.nodes) (forest_of c.set_rect.new.self) _ was.0 c.rect_node.result was.1.0 c.set_rect.ensures.after ∙ c.loop-i.invariant.spare;
      forest = c.set_rect.ensures.forest;
    }

pub returns-clause-swapped : goal.returns-clause-swapped
returns-clause-swapped c =
    let same = c.requires.len in
    subst (λ (ks : List NodeKey). Swapped (forest_of c.args.nodes.now) (forest_of c.loop-i.nodes) ks ks [] (list_map (rect_node c.args.serial) c.args.parts.now)) (take_all c.loop-i.i c.args.keys.now (omega arith))
    (subst (λ (ps : List RectPart). Swapped (forest_of c.args.nodes.now) (forest_of c.loop-i.nodes) (take c.loop-i.i c.args.keys.now) (take c.loop-i.i c.args.keys.now) [] (list_map (rect_node c.args.serial) ps)) (take_all c.loop-i.i c.args.parts.now (omega arith))
    c.loop-i.invariant.swapped)
