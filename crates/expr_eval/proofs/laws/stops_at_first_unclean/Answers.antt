use Rattle.expr_eval.proofs.Cuts as cuts
use Rattle.expr_eval.proofs.laws.stops_at_first_unclean.Goals as goal

pub returns : goal.returns
returns c = cuts.stops_at_first_unclean
