-- A token that stands in a text.
use Rattle.std.specs.Prelude.{ℕ, ◌≤◌, List, length, slice_range}
use Rattle.qml_lex.specs.Meaning.{IsSpelled}
use Rattle.qml_lex.specs.declared.token.Token.{Token}

-- a token's text is within a text, and is one of its kind
pub record IsWithin (bytes : List ℕ) (token : Token) : Type 0 where
  pub order : token.start ≤ token.end
  pub within : token.end ≤ length bytes
  pub spelled : IsSpelled token.kind (slice_range bytes token.start token.end)
