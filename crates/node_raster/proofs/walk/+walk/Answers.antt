use Rattle.std.proofs.Common.{◌≡◌, ℕ, ◌+◌, List, Some, sym, ◌∙◌}
use Rattle.std.specs.Prelude.{slice_get}
use Rattle.sg_nodes.specs.Forest.{Forest}
use Rattle.sg_nodes.specs.Stored.{forest_of}
use Rattle.node_raster.specs.Nodes.{paint_node_within}
use Rattle.node_raster.proofs.Siblings.{fewer_left, slot_is}
use Rattle.node_raster.proofs.Walked.{shows_no_level, shows_no_node, shows_rect, shows_hidden, shows_group, shows_one_more, shows_all}
use Rattle.node_raster.proofs.walk.+walk.Goals as goal

pub draw_node-returns-then-reach-eq0 : goal.draw_node-returns-then-reach-eq0
draw_node-returns-then-reach-eq0 t c =
    shows_no_level c.args.reach.levels (forest_of c.args.nodes.now) c.args.reach.viewport c.args.key.slot c.args.canvas.now c.if-reach-eq0.true

pub draw_node-returns-in_default : goal.draw_node-returns-in_default
draw_node-returns-in_default t c =
    shows_no_node c.args.reach.levels (forest_of c.args.nodes.now) c.args.reach.viewport c.args.key.slot c.args.canvas.now (sym c.in_default.ensures.node)

pub draw_node-returns-in-Rect : goal.draw_node-returns-in-Rect
draw_node-returns-in-Rect t c =
    shows_rect c.args.reach.levels (forest_of c.args.nodes.now) c.args.reach.viewport c.args.key.slot c.args.canvas.now
    c.in-Some.node.now c.in-Rect.rect c.draw_rect.new.canvas c.if-reach-eq0.false (sym c.in-Some.ensures.node) c.in-Rect.is c.draw_rect.ensures

pub draw_node-returns-else-group : goal.draw_node-returns-else-group
draw_node-returns-else-group t c =
    shows_hidden c.args.reach.levels (forest_of c.args.nodes.now) c.args.reach.viewport c.args.key.slot c.args.canvas.now
    c.in-Some.node.now c.in-Group.group (sym c.in-Some.ensures.node) c.in-Group.is c.if-group.false

pub draw_node-returns-then-group : goal.draw_node-returns-then-group
draw_node-returns-then-group t c =
    shows_group c.args.reach.levels (forest_of c.args.nodes.now) c.args.reach.viewport c.args.key.slot c.args.canvas.now
    c.in-Some.node.now c.in-Group.group c.inside_group.result.levels c.inside_group.result.viewport c.draw_children.new.canvas
    (sym c.in-Some.ensures.node) c.in-Group.is c.if-group.true c.inside_group.ensures.levels c.inside_group.ensures.viewport c.draw_children.ensures

pub draw_children-loop-next-smaller : goal.draw_children-loop-next-smaller
draw_children-loop-next-smaller t c =
    let f : Forest = forest_of c.args.nodes.now in
    let children : List ℕ = f.children c.args.key.slot in
    let at : slice_get children c.loop-next.invariant.place ≡ Some c.in-Some.child.slot =
    slot_is (slice_get children c.loop-next.invariant.place) c.in-Some.child (sym c.loop-next.invariant.next ∙ c.in-Some.is) in
    fewer_left children (c.requires.one_place c.args.key.slot) c.loop-next.invariant.place c.in-Some.child c.loop-next.next c.next_sibling-next.result
    c.in-Some.is at (c.next_sibling-next.ensures.next c.args.key.slot c.loop-next.invariant.place at)

pub draw_children-loop-next-preserved : goal.draw_children-loop-next-preserved
draw_children-loop-next-preserved t c =
    let f : Forest = forest_of c.args.nodes.now in
    let children : List ℕ = f.children c.args.key.slot in
    let at : slice_get children c.loop-next.invariant.place ≡ Some c.in-Some.child.slot =
    slot_is (slice_get children c.loop-next.invariant.place) c.in-Some.child (sym c.loop-next.invariant.next ∙ c.in-Some.is) in
    record {
      place = c.loop-next.invariant.place + 1;
      next = c.next_sibling-next.ensures.next c.args.key.slot c.loop-next.invariant.place at;
      drawn =
          shows_one_more (paint_node_within c.args.reach.levels f c.args.reach.viewport) children c.loop-next.invariant.place c.in-Some.child.slot
          c.args.canvas.now c.loop-next.canvas c.draw_node.new.canvas at c.loop-next.invariant.drawn c.draw_node.ensures;
      forest = c.loop-next.invariant.forest;
    }

pub draw_children-returns : goal.draw_children-returns
draw_children-returns t c =
    let f : Forest = forest_of c.args.nodes.now in
    shows_all (paint_node_within c.args.reach.levels f c.args.reach.viewport) (f.children c.args.key.slot) c.loop-next.invariant.place
    c.args.canvas.now c.loop-next.canvas (sym c.loop-next.invariant.next ∙ c.in_default.is) c.loop-next.invariant.drawn
