use Rattle.fault_laws.proofs.Faults.{statement_fault}
use Rattle.fault_laws.proofs.statement_faults.Goals as goal

pub returns : goal.returns
returns c = statement_fault
