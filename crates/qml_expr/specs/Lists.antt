-- Arguments without the parentheses round them.
use Rattle.std.specs.Prelude.{[], ◌∷◌, List}
use Rattle.qml_ast.specs.declared.expr.Expr.{Expr}
use Rattle.qml_grammar.specs.Expressions.{Inner, argument}
use Rattle.qml_grammar.specs.Inputs.{Parser, ◌>>=◌, while_next}
use Rattle.qml_grammar.specs.Lexemes.{is_mark}
use Rattle.qml_grammar.specs.declared.mark.Mark.TheVariants.{Comma}

-- one or more expressions with commas between them
unfoldable pub listed : Inner → Parser (List Expr)
listed v = do
  x ← v.expr
  while_next (is_mark Comma) (argument v) (x ∷ [])
