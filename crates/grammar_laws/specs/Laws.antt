-- What it means that what is read is spelled, and that what is spelled is read.
use Rattle.std.specs.Prelude.{◌≡◌, ℕ, ◌+◌, false, List, ◌++◌}
use Rattle.qml_ast.specs.declared.expr.Expr.{Expr}
use Rattle.qml_grammar.specs.ExpressionGrammar.{IsExpr}
use Rattle.qml_grammar.specs.Inputs.{Input, ahead}
use Rattle.qml_grammar.specs.Lexemes.{Token}
use Rattle.qml_grammar.specs.StatementGrammar.{goes_on, IsWhole}

-- the one input is the other one with these tokens, of so many nodes, still in front
pub record Way (i j : Input) (nodes : ℕ) (text : List Token) : Type 0 where
  pub rest : i.rest ≡ text ++ j.rest
  pub used : i.nodes ≡ nodes + j.nodes
  pub end : i.end ≡ j.end

-- the tokens from the one input to the other one spell the expression, which is longest there
pub record Reads (d : ℕ) (i j : Input) (x : Expr) : Type 0 where
  pub nodes : ℕ
  pub text : List Token
  pub way : Way i j nodes text
  pub spelled : IsExpr d nodes text x
  pub longest : goes_on (ahead j) ≡ false

-- likewise for an outermost expression, which leaves the number of nodes as it was
pub record ReadsWhole (d : ℕ) (i j : Input) (x : Expr) : Type 0 where
  pub text : List Token
  pub way : Way i j 0 text
  pub spelled : IsWhole 200 d text (ahead j) x
