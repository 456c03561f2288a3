use Rattle.grammar_laws.proofs.Reading.{reads_expr, reads_whole, reads_once}
use Rattle.grammar_laws.proofs.spelled_read.Goals as goal

pub returns-clause-inside : goal.returns-clause-inside
returns-clause-inside c = reads_expr

pub returns-clause-outermost : goal.returns-clause-outermost
returns-clause-outermost c = reads_whole

pub returns-clause-once : goal.returns-clause-once
returns-clause-once c = reads_once
