use Rattle.sg_standing.proofs.Changing.{agree_changed}
use Rattle.sg_standing.proofs.changes_agree.Goals as goal

pub returns : goal.returns
returns c f old new agree change = agree_changed agree change
