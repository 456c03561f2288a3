use Rattle.settling.proofs.Changes.{later_clean}
use Rattle.settling.proofs.Visited.{visits_clean, visits_later, runs_later}
use Rattle.settling.proofs.Fulfilled.{settles_later}
use Rattle.settling.proofs.laws.visits_keep_values.Goals as goal

pub returns-clause-visited : goal.returns-clause-visited
returns-clause-visited g c = λ tree s t u p q v w h i. later_clean g.F.Field.space p (visits_later g.F.Field.space tree i) (visits_clean g.F.Field.space tree h)

pub returns-clause-evaluated : goal.returns-clause-evaluated
returns-clause-evaluated g c = λ tree s t u p q v r h i. later_clean g.F.Field.space p (runs_later g.F.Field.space tree i) (visits_clean g.F.Field.space tree h)

pub returns-clause-settled : goal.returns-clause-settled
returns-clause-settled g c = λ tree places s t u p v h i. later_clean g.F.Field.space p (settles_later g.F.Field.space tree i) (visits_clean g.F.Field.space tree h)
