use Rattle.node_raster.proofs.Shallow.{shallow}
use Rattle.node_raster.proofs.laws.standing_nodes_are_shallow.Goals as goal

pub returns : goal.returns
returns c = λ f p forest stand. shallow forest stand
