use Rattle.sg_standing.proofs.Laws.{agree_new}
use Rattle.sg_standing.proofs.new_nodes_agree.Goals as goal

pub returns : goal.returns
returns c = agree_new
