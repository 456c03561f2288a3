use Rattle.grammar_laws.proofs.Reading.{expr_reads, whole_reads}
use Rattle.grammar_laws.proofs.reads_spelled.Goals as goal

pub returns-clause-inside : goal.returns-clause-inside
returns-clause-inside c = expr_reads

pub returns-clause-outermost : goal.returns-clause-outermost
returns-clause-outermost c = whole_reads
