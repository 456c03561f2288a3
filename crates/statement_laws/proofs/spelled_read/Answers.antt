use Rattle.statement_laws.proofs.Complete.{statement_complete, block_complete, statement_once}
use Rattle.statement_laws.proofs.spelled_read.Goals as goal

pub returns-clause-stmts : goal.returns-clause-stmts
returns-clause-stmts c = statement_complete

pub returns-clause-blocks : goal.returns-clause-blocks
returns-clause-blocks c = block_complete

pub returns-clause-once : goal.returns-clause-once
returns-clause-once c = statement_once
