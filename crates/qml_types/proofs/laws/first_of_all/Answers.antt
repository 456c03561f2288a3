use Rattle.qml_types.proofs.First.{compiled_fault, compiled_lawful, compiled_made}
use Rattle.qml_types.proofs.laws.first_of_all.Goals as goal

pub returns-clause-fault : goal.returns-clause-fault
returns-clause-fault c = compiled_fault

pub returns-clause-lawful : goal.returns-clause-lawful
returns-clause-lawful c = compiled_lawful

pub returns-clause-made : goal.returns-clause-made
returns-clause-made c = compiled_made
