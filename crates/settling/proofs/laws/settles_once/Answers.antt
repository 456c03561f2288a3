use Rattle.settling.proofs.Once.{visits_once}
use Rattle.settling.proofs.Fuel.{settles_once as one_state}
use Rattle.settling.proofs.laws.settles_once.Goals as goal

pub returns-clause-visits : goal.returns-clause-visits
returns-clause-visits g c = λ tree s t u p v w h i. visits_once g.F.Field.space tree h w u i

pub returns-clause-settles : goal.returns-clause-settles
returns-clause-settles g c = λ tree places s t u h i. one_state g.F.Field.space tree h u i
