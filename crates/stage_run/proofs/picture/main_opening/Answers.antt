use Rattle.stage_run.proofs.picture.main_opening.Goals as goal

pub returns-clause-shown : goal.returns-clause-shown
returns-clause-shown g c = (c.in_ok-unit.unit, c.in_ok-opening.ensures.shown, c.in_ok-opening.ensures.noted, c.in_ok-unit.ensures.read)
