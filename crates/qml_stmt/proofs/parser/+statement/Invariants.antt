-- The measure of the functions that read statements, and what the loop over a block keeps.
use Rattle.std.proofs.Common.{◌≡◌, ℕ, ◌+◌, ◌*◌, ◌-◌}
use Rattle.qml_grammar.specs.Inputs.{repeated}
use Rattle.qml_grammar.specs.Statements.{bodies, goes_on_inside, one_more}
use Rattle.qml_expr.specs.Seen.{input_of}
use Rattle.qml_stmt.specs.Runs.{run}
use Rattle.qml_stmt.proofs.parser.+statement.Given as goal

-- below the calls that stay on the same level
abbrev rank : ℕ → ℕ → ℕ
rank levels steps = 20 * levels + steps

abbrev pub decreases-nested : goal.decreases-nested
decreases-nested l = rank l.levels 0

abbrev pub decreases-block : goal.decreases-block
decreases-block l = rank l.levels 0

abbrev pub decreases-block_statement : goal.decreases-block_statement
decreases-block_statement l = rank l.levels 1

abbrev pub decreases-otherwise : goal.decreases-otherwise
decreases-otherwise l = rank l.levels 1

abbrev pub decreases-choice : goal.decreases-choice
decreases-choice l = rank l.levels 2

abbrev pub decreases-while_statement : goal.decreases-while_statement
decreases-while_statement l = rank l.levels 1

abbrev pub decreases-for_body : goal.decreases-for_body
decreases-for_body l = rank l.levels 1

abbrev pub decreases-for_step : goal.decreases-for_step
decreases-for_step l = rank l.levels 2

abbrev pub decreases-for_test : goal.decreases-for_test
decreases-for_test l = rank l.levels 3

abbrev pub decreases-for_statement : goal.decreases-for_statement
decreases-for_statement l = rank l.levels 4

abbrev pub decreases-by_word : goal.decreases-by_word
decreases-by_word l = rank l.levels 5

abbrev pub decreases-statement : goal.decreases-statement
decreases-statement l = rank l.levels 6

abbrev pub decreases-one_more : goal.decreases-one_more
decreases-one_more l = rank l.levels 7

abbrev pub decreases-run : goal.decreases-run
decreases-run l = rank l.levels 8

abbrev pub decreases-statements : goal.decreases-statements
decreases-statements l = rank l.levels 9

abbrev pub invariant-run-loop-turn : goal.invariant-run-loop-turn
invariant-run-loop-turn l = run l.levels (bodies l.levels) (input_of l.fn.cursor) ≡ repeated goes_on_inside (one_more l.levels (bodies l.levels)) (l._turn-end - l._turn) l.stmts (input_of l.cursor)
