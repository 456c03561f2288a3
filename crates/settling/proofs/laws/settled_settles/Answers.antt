use Rattle.settling.proofs.Fuel.{settled_is, settles_settled}
use Rattle.settling.proofs.laws.settled_settles.Goals as goal

pub returns-clause-settles : goal.returns-clause-settles
returns-clause-settles g c = λ tree places s covers. settled_is g.F.Field.space tree places s covers

pub returns-clause-only : goal.returns-clause-only
returns-clause-only g c = λ tree places s t covers h. settles_settled g.F.Field.space tree covers h
