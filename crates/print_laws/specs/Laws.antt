-- What it means that a canonical text spells what it is the text of.
use Rattle.std.specs.Prelude.{ℕ, List}
use Rattle.qml_ast.specs.Alike.{IsAlike}
use Rattle.qml_ast.specs.declared.document.Document.{Document}
use Rattle.qml_tokens.specs.Spelled.{Spells}

-- the text spells a document that differs from this one in places at most
pub record SpellsAlike (bytes : List ℕ) (d : Document) : Type 0 where
  pub other : Document
  pub spelled : Spells bytes other
  pub alike : IsAlike d other
