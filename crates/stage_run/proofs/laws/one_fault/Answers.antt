use Rattle.stage_run.proofs.OneAnswer.{same_fault, no_fault_of}
use Rattle.stage_run.proofs.laws.one_fault.Goals as goal

pub returns-clause-faults : goal.returns-clause-faults
returns-clause-faults c = same_fault

pub returns-clause-apart : goal.returns-clause-apart
returns-clause-apart c = no_fault_of
