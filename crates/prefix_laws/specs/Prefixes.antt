-- What it means that tokens can go on: with others behind them the productions spell something, where an
-- expression may have as many nodes as it takes, and one level more may be opened.
use Rattle.std.specs.Prelude.{◌≡◌, ℕ, suc, true, List, [], ◌∷◌, ◌++◌, ◌⊎◌, Option, codes}
use Rattle.qml_ast.specs.declared.document.Document.{Document}
use Rattle.qml_ast.specs.declared.fault.DocFault.{DocFault}
use Rattle.qml_ast.specs.declared.span.Span.{Span}
use Rattle.qml_ast.specs.declared.stmt.Stmt.{Stmt}
use Rattle.qml_grammar.specs.DocumentGrammar.{IsName, IsDocumentWithin}
use Rattle.qml_grammar.specs.ExpressionGrammar.{IsMark}
use Rattle.qml_grammar.specs.Inputs.{Input, place}
use Rattle.qml_grammar.specs.Lexemes.{Token, is_mark}
use Rattle.qml_grammar.specs.StatementGrammar.{IsWord, IsStmt}
use Rattle.qml_grammar.specs.declared.mark.Mark.TheVariants.{CloseBrace, Dot}
use Rattle.qml_grammar.specs.declared.word.Word.TheVariants.{Import}
use Rattle.grammar_laws.specs.Faults.{IsFaultAt}
use Rattle.grammar_laws.specs.Laws.{Way}
use Rattle.fault_laws.specs.Faults.{place_before}

-- the fault stands behind such tokens
pub record FaultsBehind (Prefix : List Token → Type 0) (i : Input) (fault : DocFault) : Type 0 where
  pub nodes : ℕ
  pub text : List Token
  pub at : Input
  pub way : Way i at nodes text
  pub place : IsFaultAt fault (place at)
  pub viable : Prefix text

-- the tokens and others spell a statement before a `}`
pub record IsStmtPrefix (d : ℕ) (text : List Token) : Type 0 where
  pub others : List Token
  pub most : ℕ
  pub value : Stmt
  pub spelled : (next : Option Token) → is_mark CloseBrace next ≡ true → IsStmt most (suc d) (text ++ others) next value

-- the tokens and others spell a document
pub record IsDocumentPrefix (text : List Token) : Type 0 where
  pub others : List Token
  pub most : ℕ
  pub value : Document
  pub spelled : IsDocumentWithin most 65 (text ++ others) value

-- The tokens end with a dot behind the name of a module, which no document has. Those before the dot can go on.
pub record EndsInModule (text : List Token) : Type 0 where
  pub before : List Token
  pub word : Token
  pub name : Token
  pub dot : Token
  pub is : text ≡ before ++ word ∷ name ∷ dot ∷ []
  pub is_import : IsWord word Import
  pub is_name : IsName name (codes "QtQuick")
  pub is_dot : IsMark dot Dot
  pub viable : IsDocumentPrefix (before ++ word ∷ name ∷ [])

-- what stands before a document's first fault: the tokens before the one at which the fault has its place
pub record PrefixBeforeFault (ts : List Token) (end : Span) (fault : DocFault) : Type 0 where
  pub text : List Token
  pub rest : List Token
  pub whole : ts ≡ text ++ rest
  pub place : IsFaultAt fault (place_before rest end)
  pub viable : IsDocumentPrefix text ⊎ EndsInModule text
