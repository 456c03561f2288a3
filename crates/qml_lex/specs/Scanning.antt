-- The tokens of a text, one after the other.
use Rattle.std.specs.Prelude.{◌≡◌, ℕ, ◌<◌, ◌≤◌, ◌^◌, List, [], ◌∷◌, length, slice_range, Option, Some, None, Result, Ok, Err, IsUtf8}
use Rattle.std.specs.Str.Lossy.{utf8_valid_len}
use Rattle.qml_lex.specs.Meaning.{IsSpelled}
use Rattle.qml_lex.specs.Places.{place_of}
use Rattle.qml_lex.specs.Reading.{HasTokens, IsBadAt, first_offset}
use Rattle.qml_lex.specs.declared.lexer.Scanner.{Scanner}
use Rattle.qml_lex.specs.declared.token.Token.{Token}
use Rattle.qml_ast.specs.declared.span.Span.{Span}
use Rattle.qml_ast.specs.declared.fault.DocFault.{DocFault}
use Rattle.qml_ast.specs.declared.fault.DocFault.TheVariants.{NotUtf8, BadToken}

-- a scanner stands in a text of UTF-8, and knows the place
pub record Stands (scanner : Scanner) : Type 0 where
  pub utf8 : IsUtf8 scanner.bytes.now
  pub short : length scanner.bytes.now ≤ 2 ^ 31
  pub within : scanner.at ≤ length scanner.bytes.now
  pub placed : scanner.span ≡ place_of scanner.bytes.now scanner.at

-- a scanner stands before a text's first piece
pub record Begins (bytes : List ℕ) (scanner : Scanner) : Type 0 where
  pub text : scanner.bytes.now ≡ bytes
  pub stands : Stands scanner
  pub first : scanner.at ≡ first_offset bytes

-- a text is no UTF-8, for this fault
abbrev pub IsNotUtf8 : List ℕ → DocFault → Type 0
IsNotUtf8 bytes (NotUtf8 at) = ¬ (IsUtf8 bytes) × (at ≡ utf8_valid_len bytes)
IsNotUtf8 bytes _ = ⊥

-- the first token behind this offset of a text, which ends at that one: what follows it follows
pub record IsNext (bytes : List ℕ) (start stop : ℕ) (token : Token) : Type 0 where
  pub behind : start ≤ token.start
  pub some : token.start < token.end
  pub ends : token.end ≡ stop
  pub within : stop ≤ length bytes
  pub spelled : IsSpelled token.kind (slice_range bytes token.start token.end)
  pub read : (tokens : List Token) → HasTokens bytes stop tokens → HasTokens bytes start (token ∷ tokens)
  pub bad : (place : Span) → IsBadAt bytes stop place → IsBadAt bytes start place

-- the first token behind this offset, or no more
abbrev pub HasNext : List ℕ → ℕ → ℕ → Option Token → Type 0
HasNext bytes start stop None = HasTokens bytes start []
HasNext bytes start stop (Some token) = IsNext bytes start stop token

-- a scanner that gives no token stays where it was
abbrev pub StaysWithout : Result (Option Token) DocFault → Scanner → Scanner → Type 0
StaysWithout (Ok (Some token)) was is = Unit {0}
StaysWithout (Ok None) was is = is ≡ was
StaysWithout (Err fault) was is = is ≡ was

-- what stands behind this offset has this fault
abbrev pub IsBadFrom : List ℕ → ℕ → DocFault → Type 0
IsBadFrom bytes start (BadToken at) = IsBadAt bytes start at
IsBadFrom bytes start _ = ⊥
