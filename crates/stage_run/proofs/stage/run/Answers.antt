use Rattle.stage_run.proofs.Endings.{complete-cause}
use Rattle.stage_run.proofs.stage.run.Goals as goal

pub returns-clause-complete : goal.returns-clause-complete
returns-clause-complete g c = complete-cause _ _ c.play-status.ensures.cause
