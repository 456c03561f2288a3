use Rattle.qml_parse.proofs.OneReading.{one_document, one_text_fault, fault_apart}
use Rattle.type_loader.proofs.Once.{faults_once, never_both, units_once}
use Rattle.type_loader.proofs.laws.one_answer.Goals as goal

pub returns-clause-units : goal.returns-clause-units
returns-clause-units c = units_once one_document one_text_fault fault_apart

pub returns-clause-faults : goal.returns-clause-faults
returns-clause-faults c = faults_once one_document one_text_fault fault_apart

pub returns-clause-apart : goal.returns-clause-apart
returns-clause-apart c = never_both one_document one_text_fault fault_apart
