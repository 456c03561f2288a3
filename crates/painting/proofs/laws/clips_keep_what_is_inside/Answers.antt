use Rattle.painting.proofs.Confined.{confined}
use Rattle.painting.proofs.laws.clips_keep_what_is_inside.Goals as goal

pub returns : goal.returns
returns c = confined
