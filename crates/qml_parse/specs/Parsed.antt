-- What a text is parsed as.
use Rattle.std.specs.Prelude.{◌≡◌, ℕ, List, Ok}
use Rattle.qml_ast.specs.declared.document.Document.{Document}
use Rattle.qml_grammar.specs.Documents.{reading}
use Rattle.qml_grammar.specs.Lexemes.{Token}
use Rattle.qml_tokens.specs.Spelled.{HasTokens, end_of}

-- what a text's tokens are read as is this document
pub record IsReadAs (bytes : List ℕ) (d : Document) : Type 0 where
  pub tokens : List Token
  pub has : HasTokens bytes tokens
  pub is : reading tokens (end_of bytes) ≡ Ok d
