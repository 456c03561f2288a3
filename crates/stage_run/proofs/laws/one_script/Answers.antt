use Rattle.stage_run.proofs.ScriptLemmas.{script_is_good, bad_line_is_one, count_is_one}
use Rattle.stage_run.proofs.laws.one_script.Goals as goal

pub returns-clause-counts : goal.returns-clause-counts
returns-clause-counts c = count_is_one

pub returns-clause-lines : goal.returns-clause-lines
returns-clause-lines c = bad_line_is_one

pub returns-clause-apart : goal.returns-clause-apart
returns-clause-apart c = script_is_good
