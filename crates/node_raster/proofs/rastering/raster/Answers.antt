use Rattle.std.proofs.Common.{◌≡◌}
use Rattle.rect_raster.specs.Drawing.{drawing}
use Rattle.painting.specs.Shapes.{shapes}
use Rattle.sg_nodes.specs.Stored.{forest_of}
use Rattle.node_raster.specs.Nodes.{paint_of_nodes}
use Rattle.node_raster.proofs.Whole.{root_shown, nothing_shown, all_shown, scene_shown}
use Rattle.node_raster.proofs.rastering.raster.Goals as goal

shown : (c : goal.After-draw_node) → c.draw_node.new.canvas ≡ drawing c.args.w c.args.h (shapes (paint_of_nodes 258 (forest_of c.args.nodes.now)))
shown c =
    root_shown (forest_of c.args.nodes.now) c.args.canvas.now c.clear.new.canvas c.args.w c.args.h c.requires.width c.requires.height c.clear.ensures
    c.root.result c.in-Some.root c.on_levels.result.levels c.on_levels.result.viewport c.draw_node.new.canvas c.root.ensures c.in-Some.is
    c.on_levels.ensures.viewport c.on_levels.ensures.levels c.draw_node.ensures

pub returns-in-Some-clause-drawn : goal.returns-in-Some-clause-drawn
returns-in-Some-clause-drawn c = all_shown (forest_of c.args.nodes.now) c.args.w c.args.h c.draw_node.new.canvas (shown c) c.requires.shallow

pub returns-in-Some-clause-frame : goal.returns-in-Some-clause-frame
returns-in-Some-clause-frame c = scene_shown (forest_of c.args.nodes.now) c.args.w c.args.h c.draw_node.new.canvas (shown c)

nothing : (c : goal.In_default) → c.clear.new.canvas ≡ drawing c.args.w c.args.h (shapes (paint_of_nodes 258 (forest_of c.args.nodes.now)))
nothing c =
    nothing_shown (forest_of c.args.nodes.now) c.args.canvas.now c.clear.new.canvas c.args.w c.args.h c.requires.width c.requires.height c.clear.ensures
    c.root.result c.root.ensures c.in_default.is

pub returns-in_default-clause-drawn : goal.returns-in_default-clause-drawn
returns-in_default-clause-drawn c = all_shown (forest_of c.args.nodes.now) c.args.w c.args.h c.clear.new.canvas (nothing c) c.requires.shallow

pub returns-in_default-clause-frame : goal.returns-in_default-clause-frame
returns-in_default-clause-frame c = scene_shown (forest_of c.args.nodes.now) c.args.w c.args.h c.clear.new.canvas (nothing c)
