use Rattle.stage_run.proofs.OneAnswer.{same_picture, same_notes}
use Rattle.stage_run.proofs.laws.one_painting.Goals as goal

pub returns : goal.returns
returns c = record { pictures = same_picture; notes = same_notes }
