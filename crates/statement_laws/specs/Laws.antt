-- What it means that what is read is spelled, and that what is spelled is read.
use Rattle.std.specs.Prelude.{ℕ, List, Option}
use Rattle.qml_ast.specs.declared.stmt.Stmt.{Stmt}
use Rattle.qml_grammar.specs.Inputs.{Input, ahead}
use Rattle.qml_grammar.specs.Lexemes.{Token}
use Rattle.qml_grammar.specs.StatementGrammar.{IsBlock}
use Rattle.grammar_laws.specs.Laws.{Way}

-- the tokens from the one input to the other one spell this, before what follows them
pub record Covers {A : Type 0} (Spells : List Token → Option Token → A → Type 0) (i j : Input) (x : A) : Type 0 where
  pub text : List Token
  pub way : Way i j 0 text
  pub spelled : Spells text (ahead j) x

-- a block, whatever follows it
abbrev pub IsBlockBefore : ℕ → List Token → Option Token → List Stmt → Type 0
IsBlockBefore d ts next xs = IsBlock 200 d ts xs
