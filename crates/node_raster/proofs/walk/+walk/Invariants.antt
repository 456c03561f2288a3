use Rattle.std.proofs.Common.{◌≡◌, ℕ, ◌+◌, ◌*◌, take}
use Rattle.std.specs.Prelude.{option_map, flat_map, slice_get}
use Rattle.sg_nodes.specs.Forest.{IsForest, key_of}
use Rattle.sg_nodes.specs.Stored.{forest_of}
use Rattle.node_raster.specs.Nodes.{paint_node_within}
use Rattle.node_raster.specs.Drawn.{ShowsMore}
use Rattle.node_raster.proofs.Siblings.{left_from}
use Rattle.node_raster.proofs.walk.+walk.Given as goal

abbrev pub decreases-draw_node : goal.decreases-draw_node
decreases-draw_node l = 2 * l.reach.levels

abbrev pub decreases-draw_children : goal.decreases-draw_children
decreases-draw_children l = 2 * l.reach.levels + 1

-- the children before one place were painted, and the next one stands there
abbrev pub invariant-draw_children-loop-next : goal.invariant-draw_children-loop-next
invariant-draw_children-loop-next l = record {
  place : ℕ;
  next : l.next ≡ option_map key_of (slice_get ((forest_of l.nodes).children l.fn.key.slot) place);
  drawn : ShowsMore (flat_map (paint_node_within l.reach.levels (forest_of l.nodes) l.reach.viewport) (take place ((forest_of l.nodes).children l.fn.key.slot))) l.initial.canvas l.canvas;
  forest : IsForest (forest_of l.nodes);
}

abbrev pub decreases-draw_children-loop-next : goal.decreases-draw_children-loop-next
decreases-draw_children-loop-next l = left_from ((forest_of l.nodes).children l.fn.key.slot) l.next
