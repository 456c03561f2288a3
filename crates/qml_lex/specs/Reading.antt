-- A whole text and its tokens, or the place where it has none.
use Rattle.std.specs.Prelude.{◌≡◌, ℕ, ◌+◌, ◌<◌, ◌≤◌, nat_eq, if◌then◌else◌, List, [], ◌∷◌, length, drop, IsUtf8}
use Rattle.std.specs.List.{starts_with}
use Rattle.std.specs.Str.Lossy.{utf8_valid_len}
use Rattle.qml_lex.specs.Pieces.{piece_of}
use Rattle.qml_lex.specs.Places.{place_of}
use Rattle.qml_lex.specs.declared.token.TokenKind.{TokenKind}
use Rattle.qml_lex.specs.declared.token.Token.{Token}
use Rattle.qml_lex.specs.declared.piece.Piece.TheVariants.{End, Bad, Blank, Lexeme}
use Rattle.qml_ast.specs.declared.span.Span.{Span}
use Rattle.qml_ast.specs.declared.fault.DocFault.{DocFault}
use Rattle.qml_ast.specs.declared.fault.DocFault.TheVariants.{NotUtf8, BadToken, NoMemory}

-- at this offset of a text stand so many bytes of it, at least one
abbrev pub AreWithin : List ℕ → ℕ → ℕ → Type 0
AreWithin bytes offset n = (0 < n) × (offset + n ≤ length bytes)

-- the token of this kind with so many bytes at this offset of a text
abbrev pub token_at : List ℕ → ℕ → TokenKind → ℕ → Token
token_at bytes offset kind n =
    record { kind = kind; start = offset; end = offset + n; span = place_of bytes offset }

-- a text has these tokens from an offset on
pub data HasTokens (bytes : List ℕ) : ℕ → List Token → Type 0 where
  at_end : (offset : ℕ) (tokens : List Token) →
      piece_of (drop offset bytes) ≡ End → tokens ≡ [] → HasTokens bytes offset tokens
  past_blank : (offset n next : ℕ) (tokens : List Token) →
      piece_of (drop offset bytes) ≡ Blank n → AreWithin bytes offset n → next ≡ offset + n →
      HasTokens bytes next tokens → HasTokens bytes offset tokens
  past_lexeme : (offset n next : ℕ) (kind : TokenKind) (tokens following : List Token) →
      piece_of (drop offset bytes) ≡ Lexeme kind n → AreWithin bytes offset n → next ≡ offset + n →
      tokens ≡ token_at bytes offset kind n ∷ following → HasTokens bytes next following →
      HasTokens bytes offset tokens

-- the first piece of a text from an offset on that is no token stands at this place
pub data IsBadAt (bytes : List ℕ) : ℕ → Span → Type 0 where
  here : (offset : ℕ) (place : Span) →
      piece_of (drop offset bytes) ≡ Bad → place ≡ place_of bytes offset → IsBadAt bytes offset place
  later_blank : (offset n next : ℕ) (place : Span) →
      piece_of (drop offset bytes) ≡ Blank n → AreWithin bytes offset n → next ≡ offset + n →
      IsBadAt bytes next place → IsBadAt bytes offset place
  later_lexeme : (offset n next : ℕ) (kind : TokenKind) (place : Span) →
      piece_of (drop offset bytes) ≡ Lexeme kind n → AreWithin bytes offset n → next ≡ offset + n →
      IsBadAt bytes next place → IsBadAt bytes offset place

-- the bytes of a byte order mark
abbrev pub byte_order_mark : List ℕ
byte_order_mark = 0xEF ∷ 0xBB ∷ 0xBF ∷ []

-- where the first piece begins: after a byte order mark, where there is one
abbrev pub first_offset : List ℕ → ℕ
first_offset bytes = if starts_with nat_eq bytes byte_order_mark then 3 else 0

-- a text is read as these tokens
pub record IsReadAs (bytes : List ℕ) (tokens : List Token) : Type 0 where
  pub utf8 : IsUtf8 bytes
  pub tokens_are : HasTokens bytes (first_offset bytes) tokens

-- this fault ends the reading of a text from an offset on
abbrev pub IsStopped : List ℕ → ℕ → DocFault → Type 0
IsStopped bytes offset (BadToken at) = IsBadAt bytes offset at
IsStopped bytes offset NoMemory = Unit {0}
IsStopped bytes offset _ = ⊥

-- a text is not read, for this fault
abbrev pub IsRefused : List ℕ → DocFault → Type 0
IsRefused bytes (NotUtf8 at) = ¬ (IsUtf8 bytes) × (at ≡ utf8_valid_len bytes)
IsRefused bytes fault = IsUtf8 bytes × IsStopped bytes (first_offset bytes) fault
