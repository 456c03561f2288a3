use Rattle.fault_laws.proofs.Faults.{value_fault, object_fault, member_fault, import_fault, document_fault}
use Rattle.fault_laws.proofs.document_faults.Goals as goal

pub returns-clause-values : goal.returns-clause-values
returns-clause-values c = value_fault

pub returns-clause-objects : goal.returns-clause-objects
returns-clause-objects c = object_fault

pub returns-clause-members : goal.returns-clause-members
returns-clause-members c = member_fault

pub returns-clause-imports : goal.returns-clause-imports
returns-clause-imports c = import_fault

pub returns-clause-documents : goal.returns-clause-documents
returns-clause-documents c = document_fault
