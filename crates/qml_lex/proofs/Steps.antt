-- How the tokens of a text go on.
use Rattle.std.proofs.Common.{◌≡◌, ℕ, ◌+◌, ◌-◌, ◌≤◌, List, [], ◌∷◌, ◌++◌, length, take, drop, sym, refl, ap, ◌∙◌, subst, arith}
use Rattle.std.proofs.lemmas.List.{append-nil, append_assoc, length-take, length-drop}
use Rattle.qml_lex.specs.Pieces.{piece_of}
use Rattle.qml_lex.specs.Places.{place_of}
use Rattle.qml_lex.specs.Reading.{AreWithin, token_at, HasTokens, at_end, past_blank, past_lexeme, IsBadAt, here, later_blank, later_lexeme}
use Rattle.qml_lex.specs.declared.token.TokenKind.{TokenKind}
use Rattle.qml_lex.specs.declared.token.Token.{Token}
use Rattle.qml_lex.specs.declared.piece.Piece.TheVariants.{End, Bad, Blank, Lexeme}
use Rattle.qml_ast.specs.declared.span.Span.{Span}
use Rattle.qml_lex.proofs.Inside.{take-rest}

-- the text from an offset on
abbrev pub rest_of : List ℕ → ℕ → List ℕ
rest_of bytes at = take (length bytes - at) (drop at bytes)

-- a piece of the rest is one of the whole text
pub within_rest : (bytes : List ℕ) (at n : ℕ) → at ≤ length bytes → n ≤ length (rest_of bytes at) → at + n ≤ length bytes
within_rest bytes at n h fits = omega (arith, length-take (length bytes - at) (drop at bytes), length-drop at bytes)

-- the tokens so far are all
pub reads_end : (bytes : List ℕ) (start at : ℕ) (items result : List Token) → ((rest : List Token) → HasTokens bytes at rest → HasTokens bytes start (items ++ rest)) → End ≡ piece_of (rest_of bytes at) → result ≡ items → HasTokens bytes start result
reads_end bytes start at items result read is is_result =
    let e : items ++ [] ≡ result = append-nil items ∙ sym is_result in
    let P : List Token → Type 0 = λ tokens. HasTokens bytes start tokens in
    subst P e (read [] (at_end at [] (sym (rw (take-rest bytes at) at is)) refl))

-- the tokens go on behind a blank
pub reads_blank : (bytes : List ℕ) (start at n : ℕ) (items : List Token) → ((rest : List Token) → HasTokens bytes at rest → HasTokens bytes start (items ++ rest)) → Blank n ≡ piece_of (rest_of bytes at) → AreWithin bytes at n → (rest : List Token) → HasTokens bytes (at + n) rest → HasTokens bytes start (items ++ rest)
reads_blank bytes start at n items read is within rest following =
    read rest (past_blank at n (at + n) rest (sym (rw (take-rest bytes at) at is)) within refl following)

-- and behind a token
pub reads_lexeme : (bytes : List ℕ) (start at n : ℕ) (kind : TokenKind) (items : List Token) (token : Token) → ((rest : List Token) → HasTokens bytes at rest → HasTokens bytes start (items ++ rest)) → Lexeme kind n ≡ piece_of (rest_of bytes at) → AreWithin bytes at n → token ≡ token_at bytes at kind n → (rest : List Token) → HasTokens bytes (at + n) rest → HasTokens bytes start ((items ++ token ∷ []) ++ rest)
reads_lexeme bytes start at n kind items token read is within is_token rest following =
    let P : List Token → Type 0 = λ tokens. HasTokens bytes start tokens in
    subst P (sym (append_assoc items (token ∷ []) rest))
    (read (token ∷ rest) (past_lexeme at n (at + n) kind (token ∷ rest) rest (sym (rw (take-rest bytes at) at is)) within refl (ap (λ t. t ∷ rest) is_token) following))

-- what is bad in the rest is so in all
pub bad_here : (bytes : List ℕ) (start at : ℕ) (span : Span) → ((place : Span) → IsBadAt bytes at place → IsBadAt bytes start place) → Bad ≡ piece_of (rest_of bytes at) → span ≡ place_of bytes at → IsBadAt bytes start span
bad_here bytes start at span bad is is_span = bad span (here at span (sym (rw (take-rest bytes at) at is)) is_span)

pub bad_blank : (bytes : List ℕ) (start at n : ℕ) → ((place : Span) → IsBadAt bytes at place → IsBadAt bytes start place) → Blank n ≡ piece_of (rest_of bytes at) → AreWithin bytes at n → (place : Span) → IsBadAt bytes (at + n) place → IsBadAt bytes start place
bad_blank bytes start at n bad is within place later =
    bad place (later_blank at n (at + n) place (sym (rw (take-rest bytes at) at is)) within refl later)

pub bad_lexeme : (bytes : List ℕ) (start at n : ℕ) (kind : TokenKind) → ((place : Span) → IsBadAt bytes at place → IsBadAt bytes start place) → Lexeme kind n ≡ piece_of (rest_of bytes at) → AreWithin bytes at n → (place : Span) → IsBadAt bytes (at + n) place → IsBadAt bytes start place
bad_lexeme bytes start at n kind bad is within place later =
    bad place (later_lexeme at n (at + n) kind place (sym (rw (take-rest bytes at) at is)) within refl later)
