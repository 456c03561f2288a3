use Rattle.qml_parse.proofs.OneReading.{one_document, one_text_fault, fault_apart}
use Rattle.qml_parse.proofs.laws.one_reading.Goals as goal

pub returns-clause-documents : goal.returns-clause-documents
returns-clause-documents c = one_document

pub returns-clause-faults : goal.returns-clause-faults
returns-clause-faults c = one_text_fault

pub returns-clause-apart : goal.returns-clause-apart
returns-clause-apart c = fault_apart
