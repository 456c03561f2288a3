use Rattle.expr_eval.proofs.Follows as follows
use Rattle.expr_eval.proofs.laws.walks_as_evaluated.Goals as goal

pub returns : goal.returns
returns c = follows.walks
