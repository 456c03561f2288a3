use Rattle.grammar_laws.proofs.Failing.{expr_faults, whole_faults, none_begins, none_begins_outermost}
use Rattle.grammar_laws.proofs.fault_is_first.Goals as goal

pub returns-clause-inside : goal.returns-clause-inside
returns-clause-inside c = expr_faults

pub returns-clause-outermost : goal.returns-clause-outermost
returns-clause-outermost c = whole_faults

pub returns-clause-hopeless : goal.returns-clause-hopeless
returns-clause-hopeless c = none_begins

pub returns-clause-hopeless_outermost : goal.returns-clause-hopeless_outermost
returns-clause-hopeless_outermost c = none_begins_outermost
