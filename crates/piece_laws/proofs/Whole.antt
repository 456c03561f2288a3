-- Pieces are lexed one behind the other.
use Rattle.std.proofs.Common.{◌≡◌, ℕ, ◌+◌, ◌-◌, ◌*◌, ◌<◌, true, false, nat_eq, ltb, List, [], ◌∷◌, ◌++◌, length, take, drop, get_or, replicate, refl, ap, ◌∙◌, sym, subst, arith}
use Rattle.std.specs.Prelude.{slice_range}
use Rattle.std.specs.List.{prefix_len}
use Rattle.std.specs.Str.{IsUtf8}
use Rattle.std.proofs.Math.Seq.{take-append_seam, drop-append_seam}
use Rattle.std.proofs.lemmas.Bool.Decides.{nat_tests}
use Rattle.std.proofs.lemmas.Grind.{common_steps}
use Rattle.std.proofs.lemmas.List.{length-append, length-drop}
use Rattle.std.proofs.lemmas.Str.{IsUtf8-append, IsUtf8-nil}
use Rattle.qml_ast.specs.declared.span.Span.{Span}
use Rattle.qml_grammar.specs.Lexemes.{Lexeme, plain, word, integer, decimal, text, mark, Token}
use Rattle.qml_grammar.specs.Words.{word_text}
use Rattle.qml_lex.specs.Bytes.{is_blank}
use Rattle.qml_lex.specs.Pieces.{piece_of, blank_piece}
use Rattle.qml_lex.specs.Places.{place_of, line_after, column_after}
use Rattle.qml_lex.specs.Reading.{HasTokens as HasLexed, at_end, past_blank, past_lexeme, token_at, first_offset, AreWithin}
use Rattle.qml_lex.specs.declared.piece.Piece.TheVariants.{End, Blank, Lexeme as Found}
use Rattle.qml_lex.specs.declared.token.Token.{Token as LexedToken}
use Rattle.qml_lex.specs.declared.token.TokenKind.{TokenKind}
use Rattle.qml_lex.specs.declared.token.TokenKind.TheVariants.{Name, Integer, Decimal, Text, Mark}
use Rattle.qml_lex.proofs.LongestMark.{and_right}
use Rattle.qml_tokens.specs.Spelled.{Says, AreTokensOf, none, more, HasTokens}
use Rattle.piece_laws.specs.Pieces.{Piece, token, space, line, lexeme_text, piece_text, pieces_text, past, placed, may_stand_before, are_spaced, IsLawfulLexeme, AreLawfulPieces, start}
use Rattle.piece_laws.proofs.Begins.{begins_before, lexeme_some, Stops, pieces_stop, no_blank_behind_space, no_blank_behind_line}
use Rattle.piece_laws.proofs.Fronts.{front_len, all_same}
use Rattle.piece_laws.proofs.Names.{name_is_lexed, word_is_name, says_plain, says_word}
use Rattle.piece_laws.proofs.Numerals.{digits_of_decimal, integer_is_lexed, integer_of_digits, decimal_is_lexed, says_decimal}
use Rattle.piece_laws.proofs.Places.{along_place, line_place}
use Rattle.piece_laws.proofs.Quotes.{text_is_lexed, says_text}
use Rattle.piece_laws.proofs.Signs.{mark_is_lexed}
use Rattle.piece_laws.proofs.Spelt.{is_low, low_is_utf8, lexeme_utf8, lexeme_inside}

-- Tokens

abbrev kind_of : Lexeme → TokenKind
kind_of (plain n) = Name
kind_of (word w) = Name
kind_of (integer n) = Integer
kind_of (decimal m n) = Decimal
kind_of (text s) = Text
kind_of (mark m) = Mark

-- a token before what does not go on with it
pub lexeme_is_lexed : (l : Lexeme) (rest : List ℕ) → IsLawfulLexeme l → Stops l rest → piece_of (lexeme_text l ++ rest) ≡ Found (kind_of l) (length (lexeme_text l))
lexeme_is_lexed (plain n) rest is stops = name_is_lexed n rest is.0 stops
lexeme_is_lexed (word w) rest is stops = name_is_lexed (word_text w) rest (word_is_name w) stops
lexeme_is_lexed (integer n) rest is stops = integer_is_lexed n (lexeme_text (integer n)) rest is (digits_of_decimal n is) stops.0 stops.1
lexeme_is_lexed (decimal m n) rest is stops =
    decimal_is_lexed m n (lexeme_text (integer m)) (lexeme_text (integer n)) rest (digits_of_decimal m is.0) (digits_of_decimal n is.1) stops
lexeme_is_lexed (text s) rest is stops = text_is_lexed s rest is.1
lexeme_is_lexed (mark m) rest is stops = mark_is_lexed m rest stops

-- what it says
pub lexeme_says : (l : Lexeme) → IsLawfulLexeme l → Says (kind_of l) (lexeme_text l) l
lexeme_says (plain n) is = sym (says_plain n is.1)
lexeme_says (word w) is = sym (says_word w)
lexeme_says (integer n) is = (n, integer_of_digits n (lexeme_text (integer n)) is (digits_of_decimal n is), refl)
lexeme_says (decimal m n) is =
    says_decimal m n (lexeme_text (integer m)) (lexeme_text (integer n)) is.0 is.1 (digits_of_decimal m is.0) (digits_of_decimal n is.1)
lexeme_says (text s) is = ap text (sym (says_text s))
lexeme_says (mark m) is = (m, refl, refl)

-- Blanks

blank_begins : (byte : ℕ) (rest : List ℕ) → is_blank byte ≡ true → piece_of (byte ∷ rest) ≡ Blank (prefix_len is_blank (byte ∷ rest))
unfolding piece_of blank_piece
blank_begins byte rest h = rw h refl

space_is_lexed : (rest : List ℕ) → prefix_len is_blank rest ≡ 0 → piece_of (32 ∷ rest) ≡ Blank 1
space_is_lexed rest behind = blank_begins 32 rest refl ∙ ap (λ n. Blank n) (front_len is_blank (32 ∷ []) rest refl behind)

line_is_lexed : (k : ℕ) (rest : List ℕ) → prefix_len is_blank rest ≡ 0 → piece_of ((10 ∷ replicate k 32) ++ rest) ≡ Blank (length {A = ℕ} (10 ∷ replicate k 32))
line_is_lexed k rest behind =
    blank_begins 10 (replicate k 32 ++ rest) refl ∙ ap (λ n. Blank n) (front_len is_blank (10 ∷ replicate k 32) rest (all_same is_blank k 32 refl) behind)

-- Pieces from an offset on

-- a text has these tokens from an offset on
pub record AreReadFrom (bytes : List ℕ) (offset : ℕ) (ts : List Token) : Type 0 where
  pub lexed : List LexedToken
  pub read : HasLexed bytes offset lexed
  pub are : AreTokensOf bytes lexed ts

-- what stands at an offset lies within the text
within : (bytes s rest : List ℕ) (offset n : ℕ) → drop offset bytes ≡ s ++ rest → n ≡ length s → 0 < n → AreWithin bytes offset n
within bytes s rest offset n is len some = (some, omega (arith, ap length is, length-drop offset bytes, length-append s rest))

-- what stands behind it
behind : (bytes s rest : List ℕ) (offset n : ℕ) → drop offset bytes ≡ s ++ rest → n ≡ length s → drop (offset + n) bytes ≡ rest
behind bytes s rest offset n is len =
    let e : drop (offset + n) bytes ≡ drop n (drop offset bytes) = grind (arith, common_steps) in
    e ∙ (ap (drop n) is ∙ (ap (λ k. drop k (s ++ rest)) len ∙ drop-append_seam s rest))

-- its bytes
slice : (bytes s rest : List ℕ) (offset n : ℕ) → drop offset bytes ≡ s ++ rest → n ≡ length s → slice_range bytes offset (offset + n) ≡ s
slice bytes s rest offset n is len =
    let e : offset + n - offset ≡ length s = omega arith in
    ap (λ k. take k (drop offset bytes)) e ∙ (ap (take (length s)) is ∙ take-append_seam s rest)

-- a blank before tokens, and a token before them
blank_read : (bytes : List ℕ) (offset n : ℕ) (ts : List Token) → piece_of (drop offset bytes) ≡ Blank n → AreWithin bytes offset n → AreReadFrom bytes (offset + n) ts → AreReadFrom bytes offset ts
blank_read bytes offset n ts is w r = record { lexed = r.lexed; read = past_blank offset n (offset + n) r.lexed is w refl r.read; are = r.are }

token_read : (bytes : List ℕ) (offset n : ℕ) (kind : TokenKind) (l : Lexeme) (at : Span) (ts : List Token) → piece_of (drop offset bytes) ≡ Found kind n → AreWithin bytes offset n → at ≡ place_of bytes offset → Says kind (slice_range bytes offset (offset + n)) l → AreReadFrom bytes (offset + n) ts → AreReadFrom bytes offset (record { lexeme = l; span = at } ∷ ts)
token_read bytes offset n kind l at ts is w place says r = record {
  lexed = token_at bytes offset kind n ∷ r.lexed;
  read = past_lexeme offset n (offset + n) kind (token_at bytes offset kind n ∷ r.lexed) r.lexed is w refl refl r.read;
  are = more (token_at bytes offset kind n) r.lexed (record { lexeme = l; span = at }) ts refl refl (record { place = place; says = says }) r.are;
}

nothing_is_end : (bytes : List ℕ) → bytes ≡ [] → piece_of bytes ≡ End
unfolding piece_of
nothing_is_end bytes e = rw e refl

-- pieces behind a piece
spaced_behind : (p : Piece) (ps : List Piece) → are_spaced (p ∷ ps) ≡ true → are_spaced ps ≡ true
spaced_behind p [] h = refl
spaced_behind p (q ∷ ps) h = and_right (may_stand_before p q) (are_spaced (q ∷ ps)) h

-- pieces that stand at an offset, the first of them at its place
pub pieces_read : (bytes : List ℕ) (ps : List Piece) (offset : ℕ) (at : Span) → drop offset bytes ≡ pieces_text ps → at ≡ place_of bytes offset → are_spaced ps ≡ true → AreLawfulPieces ps → AreReadFrom bytes offset (placed at ps)
pieces_read bytes [] offset at is place spaced are =
    record { lexed = []; read = at_end offset [] (nothing_is_end (drop offset bytes) is) refl; are = none refl refl }
pieces_read bytes (token l ∷ ps) offset at is place spaced are =
    let n : ℕ = length (lexeme_text l) in
    let rest : List ℕ = pieces_text ps in
    let found : piece_of (drop offset bytes) ≡ Found (kind_of l) n =
    ap piece_of is ∙ lexeme_is_lexed l rest are.0 (pieces_stop l ps spaced are.1) in
    let P : List ℕ → Type 0 = λ s. Says (kind_of l) s l in
    token_read bytes offset n (kind_of l) l at (placed (past at (token l)) ps) found (within bytes (lexeme_text l) rest offset n is refl (lexeme_some l are.0)) place
    (subst P (sym (slice bytes (lexeme_text l) rest offset n is refl)) (lexeme_says l are.0))
    (pieces_read bytes ps (offset + n) (past at (token l)) (behind bytes (lexeme_text l) rest offset n is refl) (along_place bytes (lexeme_text l) rest offset n at (lexeme_inside l are.0) is refl place) (spaced_behind (token l) ps spaced) are.1)
pieces_read bytes (space ∷ ps) offset at is place spaced are =
    let rest : List ℕ = pieces_text ps in
    let found : piece_of (drop offset bytes) ≡ Blank 1 = ap piece_of is ∙ space_is_lexed rest (no_blank_behind_space ps spaced are.1) in
    blank_read bytes offset 1 (placed (past at space) ps) found (within bytes (32 ∷ []) rest offset 1 is refl (omega arith))
    (pieces_read bytes ps (offset + 1) (past at space) (behind bytes (32 ∷ []) rest offset 1 is refl) (along_place bytes (32 ∷ []) rest offset 1 at refl is refl place) (spaced_behind space ps spaced) are.1)
pieces_read bytes (line levels ∷ ps) offset at is place spaced are =
    let rest : List ℕ = pieces_text ps in
    let s : List ℕ = 10 ∷ replicate (4 * levels) 32 in
    let n : ℕ = length s in
    let found : piece_of (drop offset bytes) ≡ Blank n = ap piece_of is ∙ line_is_lexed (4 * levels) rest (no_blank_behind_line levels ps spaced are.1) in
    blank_read bytes offset n (placed (past at (line levels)) ps) found (within bytes s rest offset n is refl (omega arith))
    (pieces_read bytes ps (offset + n) (past at (line levels)) (behind bytes s rest offset n is refl) (line_place bytes rest offset n (4 * levels) at is refl place) (spaced_behind (line levels) ps spaced) are.1)

-- The whole text

-- pieces begin with an ASCII byte, and so with no byte order mark
pieces_begin_low : (ps : List Piece) → AreLawfulPieces ps → ltb (get_or (pieces_text ps) 0 0) 128 ≡ true
pieces_begin_low [] are = refl
pieces_begin_low (token l ∷ ps) are = (begins_before l (pieces_text ps) are.0).low
pieces_begin_low (space ∷ ps) are = refl
pieces_begin_low (line levels ∷ ps) are = refl

no_mark_at : (s : List ℕ) → ltb (get_or s 0 0) 128 ≡ true → first_offset s ≡ 0
no_mark_at [] h = refl
no_mark_at (x ∷ s) h = let other : nat_eq 0xEF x ≡ false = grind (arith, nat_tests) in rw other refl

piece_utf8 : (p : Piece) (ps : List Piece) → AreLawfulPieces (p ∷ ps) → IsUtf8 (piece_text p)
piece_utf8 (token l) ps are = lexeme_utf8 l are.0
piece_utf8 space ps are = low_is_utf8 (32 ∷ []) refl
piece_utf8 (line levels) ps are = low_is_utf8 (10 ∷ replicate (4 * levels) 32) (all_same is_low (4 * levels) 32 refl)

pieces_utf8 : (ps : List Piece) → AreLawfulPieces ps → IsUtf8 (pieces_text ps)
pieces_utf8 [] are = IsUtf8-nil
pieces_utf8 (p ∷ ps) are = IsUtf8-append (piece_text p) (pieces_text ps) (piece_utf8 p ps are) (pieces_utf8 ps are.1)

-- a text begins at the first place
starts_there : (s : List ℕ) → start ≡ place_of s 0
unfolding line_after column_after
starts_there s = refl

pub pieces_are_lexed : (ps : List Piece) → are_spaced ps ≡ true → AreLawfulPieces ps → HasTokens (pieces_text ps) (placed start ps)
pieces_are_lexed ps spaced are =
    let bytes : List ℕ = pieces_text ps in
    let all = pieces_read bytes ps 0 start refl (starts_there bytes) spaced are in
    let P : ℕ → Type 0 = λ offset. HasLexed bytes offset all.lexed in
    record {
      lexed = all.lexed;
      read = record { utf8 = pieces_utf8 ps are; tokens_are = subst P (sym (no_mark_at bytes (pieces_begin_low ps are))) all.read };
      are = all.are;
    }
