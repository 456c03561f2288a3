use Rattle.sg_standing.proofs.Laws.{has_nodes, is_owned}
use Rattle.sg_standing.proofs.nodes_of_items.Goals as goal

pub returns-clause-items : goal.returns-clause-items
returns-clause-items c = has_nodes

pub returns-clause-nodes : goal.returns-clause-nodes
returns-clause-nodes c = is_owned
