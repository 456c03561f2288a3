use Rattle.fault_laws.proofs.Hopeless.{no_document_begins_so}
use Rattle.fault_laws.proofs.no_document_begins_so.Goals as goal

pub returns : goal.returns
returns c = no_document_begins_so
