use Rattle.painting.proofs.Levels.{deeper}
use Rattle.painting.proofs.laws.deeper_is_the_same.Goals as goal

pub returns : goal.returns
returns c = deeper
