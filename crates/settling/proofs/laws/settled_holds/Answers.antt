use Rattle.settling.proofs.Outcome.{settled_ends}
use Rattle.settling.proofs.laws.settled_holds.Goals as goal

pub returns : goal.returns
returns g c = λ tree places s p covers ready. settled_ends g.F.Field.space tree places s covers ready p
