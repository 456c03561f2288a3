use Rattle.document_laws.proofs.Imports.{imports_read}
use Rattle.document_laws.proofs.Reading.{reads_value, reads_object, reads_member, reads_document, document_once}
use Rattle.document_laws.proofs.spelled_read.Goals as goal

pub returns-clause-values : goal.returns-clause-values
returns-clause-values c = reads_value

pub returns-clause-objects : goal.returns-clause-objects
returns-clause-objects c = reads_object

pub returns-clause-members : goal.returns-clause-members
returns-clause-members c = reads_member

pub returns-clause-imports : goal.returns-clause-imports
returns-clause-imports c = imports_read

pub returns-clause-documents : goal.returns-clause-documents
returns-clause-documents c = reads_document

pub returns-clause-once : goal.returns-clause-once
returns-clause-once c = document_once
