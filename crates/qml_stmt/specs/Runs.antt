-- Statements without the brace behind them.
use Rattle.std.specs.Prelude.{ℕ, List, []}
use Rattle.qml_ast.specs.declared.stmt.Stmt.{Stmt}
use Rattle.qml_grammar.specs.Inputs.{Parser, while_next}
use Rattle.qml_grammar.specs.Statements.{Bodies, one_more, goes_on_inside}

-- as many statements as there are before a brace that closes, or before the end
unfoldable pub run : ℕ → Bodies → Parser (List Stmt)
run d v = while_next goes_on_inside (one_more d v) []
