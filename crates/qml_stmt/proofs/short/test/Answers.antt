use Rattle.std.proofs.Common.{rules}
use Rattle.qml_grammar.specs.Statements.{test}
use Rattle.qml_stmt.proofs.short.test.Goals as goal

pub returns-then-sees : goal.returns-then-sees
unfolding test
returns-then-sees c = search rules

pub returns-in_err-whole_expression : goal.returns-in_err-whole_expression
unfolding test
returns-in_err-whole_expression c = search rules

pub returns : goal.returns
unfolding test
returns c = search rules
