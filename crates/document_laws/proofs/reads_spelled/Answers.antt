use Rattle.document_laws.proofs.Imports.{imports_cover}
use Rattle.document_laws.proofs.Reading.{value_reads, object_reads, member_reads, document_reads}
use Rattle.document_laws.proofs.reads_spelled.Goals as goal

pub returns-clause-values : goal.returns-clause-values
returns-clause-values c = value_reads

pub returns-clause-objects : goal.returns-clause-objects
returns-clause-objects c = object_reads

pub returns-clause-members : goal.returns-clause-members
returns-clause-members c = member_reads

pub returns-clause-imports : goal.returns-clause-imports
returns-clause-imports c = imports_cover

pub returns-clause-documents : goal.returns-clause-documents
returns-clause-documents c = document_reads
