use Rattle.std.proofs.Common.{List, pos, ◌∙◌, subst, arith, take, [], map as list_map}
use Rattle.std.proofs.lemmas.List.{take_all, length-set}
use Rattle.links.specs.declared.node_key.NodeKey.{NodeKey}
use Rattle.item_geometry.specs.declared.parts.RectPart.{RectPart}
use Rattle.sg_nodes.specs.Stored.{forest_of}
use Rattle.sg_sync.specs.Swapping.{Swapped, rect_node}
use Rattle.sg_sync.proofs.Setting.{make_more}
use Rattle.sg_sync.proofs.renew.make_five.Goals as goal

pub loop-i-preserved : goal.loop-i-preserved
loop-i-preserved c =
    let keys_long = c.loop-i.invariant.len in
    let parts_long = c.told-parts in
    record {
      swapped =
          make_more (forest_of c.args.nodes.now) (forest_of c.loop-i.nodes) (forest_of c.make_rect.new.nodes) c.args.serial c.loop-i.keys c.args.parts.now c.loop-i.i
          (record { x = pos 0; y = pos 0; w = pos 0; h = pos 0; argb = 0 }) c.make_rect.result (omega arith) (omega arith) c.loop-i.invariant.swapped c.make_rect.ensures.swapped;
      spare = let one = c.loop-i.invariant.spare in let more = c.make_rect.ensures.spare in omega arith;
      len = length-set c.loop-i.keys c.loop-i.i c.make_rect.result ∙ c.loop-i.invariant.len;
      forest = c.make_rect.ensures.forest;
    }

pub returns-clause-swapped : goal.returns-clause-swapped
returns-clause-swapped c =
    let keys_long = c.loop-i.invariant.len in
    let parts_long = c.told-parts in
    subst (λ (ks : List NodeKey). Swapped (forest_of c.args.nodes.now) (forest_of c.loop-i.nodes) [] ks [] (list_map (rect_node c.args.serial) c.args.parts.now)) (take_all c.loop-i.i c.loop-i.keys (omega arith))
    (subst (λ (ps : List RectPart). Swapped (forest_of c.args.nodes.now) (forest_of c.loop-i.nodes) [] (take c.loop-i.i c.loop-i.keys) [] (list_map (rect_node c.args.serial) ps)) (take_all c.loop-i.i c.args.parts.now (omega arith))
    c.loop-i.invariant.swapped)
