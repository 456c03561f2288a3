use Rattle.node_raster.proofs.Alike.{nodes_painted}
use Rattle.node_raster.proofs.laws.nodes_paint_their_scene.Goals as goal

pub returns : goal.returns
returns c = λ f p stand. nodes_painted stand
