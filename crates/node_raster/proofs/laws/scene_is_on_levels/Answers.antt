use Rattle.node_raster.proofs.Depth.{on_all_levels}
use Rattle.node_raster.proofs.laws.scene_is_on_levels.Goals as goal

pub returns : goal.returns
returns c = λ items root tree. on_all_levels tree
