-- How a scanner goes on.
use Rattle.std.proofs.Common.{◌≡◌, ℕ, ◌+◌, ◌≤◌, List, [], ◌∷◌, ◌++◌, Option, None, length, drop, sym, refl, ap, subst, arith}
use Rattle.std.proofs.lemmas.List.{append-nil, append_assoc}
use Rattle.std.specs.Prelude.{slice_range, All}
use Rattle.std.specs.Str.{IsUtf8}
use Rattle.qml_lex.specs.Meaning.{IsSpelled}
use Rattle.qml_lex.specs.Pieces.{piece_of}
use Rattle.qml_lex.specs.Places.{place_of}
use Rattle.qml_lex.specs.Reading.{AreWithin, HasTokens, at_end, past_lexeme, IsBadAt}
use Rattle.qml_lex.specs.Scanning.{Stands, IsNext, HasNext}
use Rattle.qml_lex.specs.declared.lexer.Scanner.{Scanner}
use Rattle.qml_lex.specs.declared.token.TokenKind.{TokenKind}
use Rattle.qml_lex.specs.declared.token.Token.{Token}
use Rattle.qml_lex.specs.declared.piece.Piece.TheVariants.{End, Lexeme}
use Rattle.qml_ast.specs.declared.span.Span.{Span}
use Rattle.qml_lex.proofs.Inside.{take-rest}
use Rattle.qml_lex.proofs.Spelling.{token_is_spelled, tokens_are_spelled}
use Rattle.qml_lex.proofs.Steps.{rest_of, bad_lexeme}

-- what the rest of a text is read as from one offset, it is from another one
abbrev pub ReadsOn : List ℕ → ℕ → ℕ → Type 0
ReadsOn bytes start at = (rest : List Token) → HasTokens bytes at rest → HasTokens bytes start rest

-- and what is bad from the one is so from the other
abbrev pub StaysBad : List ℕ → ℕ → ℕ → Type 0
StaysBad bytes start at = (place : Span) → IsBadAt bytes at place → IsBadAt bytes start place

-- no token is left
pub next_none : (bytes : List ℕ) (start at : ℕ) → ReadsOn bytes start at → End ≡ piece_of (rest_of bytes at) → HasTokens bytes start []
next_none bytes start at read is = read [] (at_end at [] (sym (rw (take-rest bytes at) at is)) refl)

-- the next token is this one
pub next_some : (bytes : List ℕ) (start at n : ℕ) (kind : TokenKind) (span : Span) → IsUtf8 bytes → start ≤ at → ReadsOn bytes start at → StaysBad bytes start at → Lexeme kind n ≡ piece_of (rest_of bytes at) → AreWithin bytes at n → span ≡ place_of bytes at → IsNext bytes start (at + n) (record { kind = kind; start = at; end = at + n; span = span })
next_some bytes start at n kind span utf8 order read bad is within placed =
    let piece : piece_of (drop at bytes) ≡ Lexeme kind n = sym (rw (take-rest bytes at) at is) in
    record {
      behind = order;
      some = omega (arith, within);
      ends = refl;
      within = within.1;
      spelled = token_is_spelled bytes at n kind utf8 piece within;
      read = λ (tokens : List Token) following.
          let same : Span → List Token = λ s. record { kind = kind; start = at; end = at + n; span = s } ∷ tokens in
          read (same span) (past_lexeme at n (at + n) kind (same span) tokens piece within refl (ap same placed) following);
      bad = bad_lexeme bytes start at n kind bad is within;
    }

-- a scanner that did not move, and one that moved on in its text
pub stands_still : (was is : Scanner) → is ≡ was → Stands was → Stands is
stands_still was is same stands = rw same stands

pub stands_on : (was is : Scanner) (at : ℕ) (span : Span) → is ≡ was → Stands was → at ≤ length was.bytes.now → span ≡ place_of was.bytes.now at → Stands (record { bytes = is.bytes; at = at; span = span })
stands_on was is at span same stands within placed = rw same (record { utf8 = stands.utf8; short = stands.short; within = within; placed = placed })

pub same_text : (was is : Scanner) → is ≡ was → is.bytes.now ≡ was.bytes.now
same_text was is same = rw same refl

-- the tokens so far and those of the rest are those of all
abbrev pub ReadSoFar : List ℕ → ℕ → ℕ → List Token → Type 0
ReadSoFar bytes start at so_far = (rest : List Token) → HasTokens bytes at rest → HasTokens bytes start (so_far ++ rest)

pub one_more : (bytes : List ℕ) (start at stop : ℕ) (so_far : List Token) (token : Token) → ReadSoFar bytes start at so_far → IsNext bytes at stop token → ReadSoFar bytes start stop (so_far ++ token ∷ [])
one_more bytes start at stop so_far token read next rest following =
    let P : List Token → Type 0 = λ tokens. HasTokens bytes start tokens in
    subst P (sym (append_assoc so_far (token ∷ []) rest)) (read (token ∷ rest) (next.read rest following))

pub no_more : (bytes : List ℕ) (start at : ℕ) (so_far : List Token) → ReadSoFar bytes start at so_far → HasTokens bytes at [] → HasTokens bytes start so_far
no_more bytes start at so_far read none =
    let P : List Token → Type 0 = λ tokens. HasTokens bytes start tokens in
    subst P (append-nil so_far) (read [] none)

-- once no more is left, all are spelled as their kinds are
pub all_spelled : (bytes : List ℕ) (scanner : Scanner) (start stop : ℕ) (so_far tokens : List Token) (next : Option Token) → scanner.bytes.now ≡ bytes → Stands scanner → ReadSoFar bytes start scanner.at so_far → HasNext scanner.bytes.now scanner.at stop next → next ≡ None → tokens ≡ so_far → All (λ token. IsSpelled token.kind (slice_range bytes token.start token.end)) tokens
all_spelled bytes scanner start stop so_far tokens next text stands read found none are =
    let none_left : HasTokens bytes scanner.at [] = rw (text, none) at found in
    let utf8 : IsUtf8 bytes = rw text at stands.utf8 in
    rw are (tokens_are_spelled bytes start so_far utf8 (no_more bytes start scanner.at so_far read none_left))
