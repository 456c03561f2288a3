-- What it means that a fault is the first one: it depends on the tokens up to it alone, and those before it can
-- go on.
use Rattle.std.specs.Prelude.{◌≡◌, ℕ, List, ◌++◌, Err}
use Rattle.qml_ast.specs.declared.fault.DocFault.{DocFault}
use Rattle.qml_ast.specs.declared.fault.DocFault.TheVariants.{Syntax, TooDeep, Unsupported}
use Rattle.qml_ast.specs.declared.span.Span.{Span}
use Rattle.qml_grammar.specs.Inputs.{Input, Parser, ahead, place}
use Rattle.qml_grammar.specs.Lexemes.{Token}
use Rattle.grammar_laws.specs.Laws.{Way}

-- the fault stands at this place
pub data IsFaultAt (fault : DocFault) (at : Span) : Type 0 where
  syntax : fault ≡ Syntax at → IsFaultAt fault at
  unsupported : fault ≡ Unsupported at → IsFaultAt fault at
  deep : fault ≡ TooDeep at → IsFaultAt fault at

-- both have the same token next, or the end, at the same place, and the same number of nodes
pub record IsLike (l at : Input) : Type 0 where
  pub ahead : ahead l ≡ ahead at
  pub place : place l ≡ place at
  pub nodes : l.nodes ≡ at.nodes

-- with others behind them the tokens spell something
pub record CanGoOn {A : Type 0} (Spells : ℕ → List Token → A → Type 0) (text : List Token) : Type 0 where
  pub others : List Token
  pub nodes : ℕ
  pub value : A
  pub spelled : Spells nodes (text ++ others) value

-- The fault stands at a token, or at the end. The tokens before it can go on to something that is spelled, and
-- every input with the same tokens, the one of the fault among them, has the same fault.
pub record FaultsAt {A : Type 0} (Spells : ℕ → List Token → A → Type 0) (read : Parser A) (i : Input) (fault : DocFault) : Type 0 where
  pub nodes : ℕ
  pub text : List Token
  pub at : Input
  pub way : Way i at nodes text
  pub place : IsFaultAt fault (place at)
  pub before : CanGoOn Spells text
  pub alike : (k l : Input) → Way k l nodes text → IsLike l at → read k ≡ Err fault
