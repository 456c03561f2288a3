-- What the bytes of a text spell: their tokens as the grammar has them, a document, or a fault.
use Rattle.std.specs.Prelude.{◌≡◌, ℕ, List, [], ◌∷◌, length, slice_range, Some, Err}
use Rattle.qml_ast.specs.declared.document.Document.{Document}
use Rattle.qml_ast.specs.declared.fault.DocFault.{DocFault}
use Rattle.qml_ast.specs.declared.fault.DocFault.TheVariants.{NotUtf8, BadToken, Syntax, TooDeep, Unsupported, NoMemory}
use Rattle.qml_ast.specs.declared.span.Span.{Span}
use Rattle.qml_grammar.specs.DocumentGrammar.{IsDocument}
use Rattle.qml_grammar.specs.Documents.{reading}
use Rattle.qml_grammar.specs.Lexemes.{Lexeme, integer, decimal, text, mark, Token, lexeme_of_name}
use Rattle.qml_grammar.specs.Marks.{mark_text}
use Rattle.qml_grammar.specs.declared.mark.Mark.{Mark as AnyMark}
use Rattle.qml_lex.specs.Meaning.{whole_of, fraction_of, body_of}
use Rattle.qml_lex.specs.Numbers.{integer_of}
use Rattle.qml_lex.specs.Places.{place_of}
use Rattle.qml_lex.specs.Reading.{IsReadAs, IsRefused}
use Rattle.qml_lex.specs.Texts.{value_of}
use Rattle.qml_lex.specs.declared.token.Token.{Token as LexedToken}
use Rattle.qml_lex.specs.declared.token.TokenKind.{TokenKind}
use Rattle.qml_lex.specs.declared.token.TokenKind.TheVariants.{Name, Integer, Decimal, Text, Mark}

-- what the text of a token of this kind says
abbrev pub Says : TokenKind → List ℕ → Lexeme → Type 0
Says Name s l = l ≡ lexeme_of_name s
Says Integer s l = (n : ℕ) × (integer_of s ≡ Some n) × (l ≡ integer n)
Says Decimal s l = l ≡ decimal (whole_of s) (fraction_of s)
Says Text s l = l ≡ text (value_of (body_of s))
Says Mark s l = (m : AnyMark) × (s ≡ mark_text m) × (l ≡ mark m)

-- a token of a text, as the grammar has it
pub record IsTokenOf (bytes : List ℕ) (lexed : LexedToken) (t : Token) : Type 0 where
  pub place : t.span ≡ lexed.span
  pub says : Says lexed.kind (slice_range bytes lexed.start lexed.end) t.lexeme

-- the tokens of a text, as the grammar has them
pub data AreTokensOf (bytes : List ℕ) : List LexedToken → List Token → Type 0 where
  none : {lexed : List LexedToken} {ts : List Token} → lexed ≡ [] → ts ≡ [] → AreTokensOf bytes lexed ts
  more : {lexed : List LexedToken} {ts : List Token} (l : LexedToken) (ls : List LexedToken) (t : Token) (us : List Token) →
      lexed ≡ l ∷ ls → ts ≡ t ∷ us → IsTokenOf bytes l t → AreTokensOf bytes ls us → AreTokensOf bytes lexed ts

-- a text is made of these tokens
pub record HasTokens (bytes : List ℕ) (ts : List Token) : Type 0 where
  pub lexed : List LexedToken
  pub read : IsReadAs bytes lexed
  pub are : AreTokensOf bytes lexed ts

-- the place behind a text's last byte
abbrev pub end_of : List ℕ → Span
end_of bytes = place_of bytes (length bytes)

-- a text spells a document
pub record Spells (bytes : List ℕ) (d : Document) : Type 0 where
  pub tokens : List Token
  pub has : HasTokens bytes tokens
  pub document : IsDocument tokens d

-- what a text's tokens are read as gives this fault
pub record IsReadFaulty (bytes : List ℕ) (fault : DocFault) : Type 0 where
  pub tokens : List Token
  pub has : HasTokens bytes tokens
  pub is : reading tokens (end_of bytes) ≡ Err fault

-- a text has this first fault, unless memory ran out
abbrev pub HasFault : List ℕ → DocFault → Type 0
HasFault bytes (NotUtf8 at) = IsRefused bytes (NotUtf8 at)
HasFault bytes (BadToken at) = IsRefused bytes (BadToken at)
HasFault bytes (Syntax at) = IsReadFaulty bytes (Syntax at)
HasFault bytes (TooDeep at) = IsReadFaulty bytes (TooDeep at)
HasFault bytes (Unsupported at) = IsReadFaulty bytes (Unsupported at)
HasFault bytes NoMemory = Unit {0}
HasFault bytes _ = ⊥
