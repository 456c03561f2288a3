use Rattle.prefix_laws.proofs.DocumentPrefixes.{document_prefix}
use Rattle.prefix_laws.proofs.StatementPrefixes.{statement_prefix}
use Rattle.prefix_laws.proofs.prefixes_are_viable.Goals as goal

pub returns-clause-statements : goal.returns-clause-statements
returns-clause-statements c = statement_prefix

pub returns-clause-documents : goal.returns-clause-documents
returns-clause-documents c = document_prefix
