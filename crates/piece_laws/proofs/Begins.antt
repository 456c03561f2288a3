-- What a token begins with, and what stands behind one.
use Rattle.std.proofs.Common.{◌≡◌, ℕ, ◌*◌, ◌<◌, ◌≤◌, Bool, true, false, ◌||◌, ltb, List, [], ◌∷◌, ◌++◌, length, get_or, replicate, refl, ap, ◌∙◌, sym, subst, arith}
use Rattle.std.specs.Prelude.{nat_eq}
use Rattle.std.specs.Char.{is_ascii_digit}
use Rattle.std.specs.Fmt.{decimal as decimal_text}
use Rattle.std.specs.List.{prefix_len}
use Rattle.std.proofs.lemmas.Bool.Decides.{nat_tests}
use Rattle.std.proofs.lemmas.List.{get_or_append_left, length-append}
use Rattle.qml_grammar.specs.CanonicalExpressions.{quoted}
use Rattle.qml_grammar.specs.Lexemes.{Lexeme, plain, word, integer, decimal, text, mark}
use Rattle.qml_grammar.specs.Marks.{mark_text, mark_number, same_mark}
use Rattle.qml_grammar.specs.Words.{word_text}
use Rattle.qml_grammar.specs.declared.mark.Mark.{Mark}
use Rattle.qml_grammar.specs.declared.mark.Mark.TheVariants.{OpenBrace, Bang, Plus, Minus, Equal, EqualEqual, Star, Slash, Less, Greater, BangEqual, Dot}
use Rattle.qml_lex.specs.Bytes.{is_letter, is_word, is_blank}
use Rattle.qml_lex.specs.Pieces.{is_fraction}
use Rattle.qml_lex.proofs.LongestMark.{and_left, and_right}
use Rattle.piece_laws.specs.Pieces.{Piece, token, space, line, lexeme_text, pieces_text, may_touch, are_spaced, is_mark_piece, is_number, IsLawfulLexeme, AreLawfulPieces}
use Rattle.piece_laws.proofs.Fronts.{no_front, first_passes}
use Rattle.piece_laws.proofs.Names.{word_is_name}
use Rattle.piece_laws.proofs.Numerals.{digits_of_decimal}
use Rattle.piece_laws.proofs.Signs.{goes_on, neither, apart_stops}

-- The first byte

-- a byte that goes on with some mark
abbrev is_joint : ℕ → Bool
is_joint byte = nat_eq 61 byte || (nat_eq 43 byte || (nat_eq 45 byte || (nat_eq 47 byte || nat_eq 42 byte)))

both_not : (a b : Bool) → a ≡ false → b ≡ false → (a || b) ≡ false
both_not true b h g = cc
both_not false b h g = g

joint_at : (m : Mark) (byte : ℕ) → nat_eq 61 byte ≡ false → nat_eq 43 byte ≡ false → nat_eq 45 byte ≡ false → nat_eq 47 byte ≡ false → nat_eq 42 byte ≡ false → goes_on m byte ≡ false
joint_at Bang byte equal plus minus slash star = equal
joint_at Equal byte equal plus minus slash star = equal
joint_at EqualEqual byte equal plus minus slash star = equal
joint_at BangEqual byte equal plus minus slash star = equal
joint_at Less byte equal plus minus slash star = equal
joint_at Greater byte equal plus minus slash star = equal
joint_at Star byte equal plus minus slash star = equal
joint_at Plus byte equal plus minus slash star = both_not (nat_eq 61 byte) (nat_eq 43 byte) equal plus
joint_at Minus byte equal plus minus slash star = both_not (nat_eq 61 byte) (nat_eq 45 byte) equal minus
joint_at Slash byte equal plus minus slash star =
    both_not (nat_eq 61 byte) (nat_eq 47 byte || nat_eq 42 byte) equal (both_not (nat_eq 47 byte) (nat_eq 42 byte) slash star)
joint_at _ byte equal plus minus slash star = refl

-- what is no such byte goes on with no mark
no_joint : (m : Mark) (byte : ℕ) → is_joint byte ≡ false → goes_on m byte ≡ false
no_joint m byte h =
    let a = neither (nat_eq 61 byte) (nat_eq 43 byte || (nat_eq 45 byte || (nat_eq 47 byte || nat_eq 42 byte))) h in
    let b = neither (nat_eq 43 byte) (nat_eq 45 byte || (nat_eq 47 byte || nat_eq 42 byte)) a.1 in
    let c = neither (nat_eq 45 byte) (nat_eq 47 byte || nat_eq 42 byte) b.1 in
    let d = neither (nat_eq 47 byte) (nat_eq 42 byte) c.1 in
    joint_at m byte a.0 b.0 c.0 d.0 d.1

-- what is known of the first byte of a token
pub record Begins (l : Lexeme) (byte : ℕ) : Type 0 where
  pub no_blank : is_blank byte ≡ false
  pub low : ltb byte 128 ≡ true
  pub joint : is_mark_piece l ≡ false → is_joint byte ≡ false
  pub word : is_mark_piece l ≡ true → is_word byte ≡ false
  pub digit : is_number l ≡ false → is_ascii_digit byte ≡ false

letter_begins : (l : Lexeme) (byte : ℕ) → is_letter byte ≡ true → is_mark_piece l ≡ false → Begins l byte
letter_begins l byte h other = record {
  no_blank = grind (arith, nat_tests);
  low = grind (arith, nat_tests);
  joint = λ _. grind (arith, nat_tests);
  word = λ is. cc;
  digit = λ _. grind (arith, nat_tests);
}

digit_begins : (l : Lexeme) (byte : ℕ) → is_ascii_digit byte ≡ true → is_number l ≡ true → is_mark_piece l ≡ false → Begins l byte
digit_begins l byte h number other = record {
  no_blank = grind (arith, nat_tests);
  low = grind (arith, nat_tests);
  joint = λ _. grind (arith, nat_tests);
  word = λ is. cc;
  digit = λ is. cc;
}

mark_begins : (m : Mark) → Begins (mark m) (get_or (mark_text m) 0 0)
unfolding mark_text
mark_begins OpenBrace = record { no_blank = refl; low = refl; joint = λ is. cc; word = λ _. refl; digit = λ _. refl }
mark_begins _ = record { no_blank = refl; low = refl; joint = λ is. cc; word = λ _. refl; digit = λ _. refl }

front_first : (s rest : List ℕ) → 0 < length s → get_or (s ++ rest) 0 0 ≡ get_or s 0 0
front_first s rest some = get_or_append_left s rest 0 0 some

number_begins : (l : Lexeme) (n : ℕ) (rest : List ℕ) → n ≤ 2147483647 → is_number l ≡ true → is_mark_piece l ≡ false → Begins l (get_or (decimal_text n ++ rest) 0 0)
number_begins l n rest h number other =
    let are = digits_of_decimal n h in
    let P : ℕ → Type 0 = λ byte. Begins l byte in
    subst P (sym (front_first (decimal_text n) rest are.some))
    (digit_begins l (get_or (decimal_text n) 0 0) (first_passes is_ascii_digit (decimal_text n) are.some are.ascii) number other)

pub lexeme_begins : (l : Lexeme) → IsLawfulLexeme l → Begins l (get_or (lexeme_text l) 0 0)
lexeme_begins (plain n) is = letter_begins (plain n) (get_or n 0 0) is.0.first refl
lexeme_begins (word w) is = letter_begins (word w) (get_or (word_text w) 0 0) (word_is_name w).first refl
lexeme_begins (integer n) is =
    let P : ℕ → Type 0 = λ byte. Begins (integer n) byte in
    subst P (front_first (decimal_text n) [] (digits_of_decimal n is).some) (number_begins (integer n) n [] is refl refl)
lexeme_begins (decimal m n) is = number_begins (decimal m n) m (46 ∷ decimal_text n) is.0 refl refl
lexeme_begins (text s) is = record { no_blank = refl; low = refl; joint = λ _. refl; word = λ h. cc; digit = λ _. refl }
lexeme_begins (mark m) is = mark_begins m

-- each token has a byte
mark_some : (m : Mark) → 0 < length (mark_text m)
unfolding mark_text
mark_some OpenBrace = omega arith
mark_some _ = omega arith

pub lexeme_some : (l : Lexeme) → IsLawfulLexeme l → 0 < length (lexeme_text l)
lexeme_some (plain n) is = is.0.some
lexeme_some (word w) is = (word_is_name w).some
lexeme_some (integer n) is = (digits_of_decimal n is).some
lexeme_some (decimal m n) is = omega (arith, length-append (decimal_text m) (46 ∷ decimal_text n))
lexeme_some (text s) is = omega arith
lexeme_some (mark m) is = mark_some m

pub lexeme_first : (l : Lexeme) (rest : List ℕ) → IsLawfulLexeme l → get_or (lexeme_text l ++ rest) 0 0 ≡ get_or (lexeme_text l) 0 0
lexeme_first l rest is = front_first (lexeme_text l) rest (lexeme_some l is)

-- the same of a token before something else
pub begins_before : (l : Lexeme) (rest : List ℕ) → IsLawfulLexeme l → Begins l (get_or (lexeme_text l ++ rest) 0 0)
begins_before l rest is =
    let P : ℕ → Type 0 = λ byte. Begins l byte in subst P (sym (lexeme_first l rest is)) (lexeme_begins l is)

-- What stands behind a token

-- it does not go on with the token
abbrev pub Stops : Lexeme → List ℕ → Type 0
Stops (plain n) rest = prefix_len is_word rest ≡ 0
Stops (word w) rest = prefix_len is_word rest ≡ 0
Stops (integer n) rest = (prefix_len is_word rest ≡ 0) × (is_fraction rest ≡ false)
Stops (decimal m n) rest = prefix_len is_word rest ≡ 0
Stops (text s) rest = Unit {0}
Stops (mark m) rest = goes_on m (get_or rest 0 0) ≡ false

-- nothing, or a blank
blank_stops : (l : Lexeme) (rest : List ℕ) → is_word (get_or rest 0 0) ≡ false → is_fraction rest ≡ false → is_joint (get_or rest 0 0) ≡ false → Stops l rest
blank_stops (plain n) rest no_word point joint = no_front is_word rest no_word
blank_stops (word w) rest no_word point joint = no_front is_word rest no_word
blank_stops (integer n) rest no_word point joint = (no_front is_word rest no_word, point)
blank_stops (decimal m n) rest no_word point joint = no_front is_word rest no_word
blank_stops (text s) rest no_word point joint = tt
blank_stops (mark m) rest no_word point joint = no_joint m (get_or rest 0 0) joint

-- a dot before what is no number
no_number : (l : Lexeme) → may_touch (mark Dot) l ≡ true → is_number l ≡ false
unfolding same_mark mark_number
no_number (integer n) h = cc
no_number (decimal m n) h = cc
no_number _ h = refl

no_fraction : (ps : List Piece) → are_spaced (token (mark Dot) ∷ ps) ≡ true → AreLawfulPieces ps → is_ascii_digit (get_or (pieces_text ps) 0 0) ≡ false
no_fraction [] h are = refl
no_fraction (space ∷ ps) h are = refl
no_fraction (line levels ∷ ps) h are = refl
no_fraction (token l ∷ ps) h are =
    (begins_before l (pieces_text ps) are.0).digit (no_number l (and_left (may_touch (mark Dot) l) (are_spaced (token l ∷ ps)) h))

mark_no_fraction : (m : Mark) (ps : List Piece) → are_spaced (token (mark m) ∷ ps) ≡ true → AreLawfulPieces ps → is_fraction (mark_text m ++ pieces_text ps) ≡ false
unfolding mark_text
mark_no_fraction Dot ps h are = no_fraction ps h are
mark_no_fraction _ ps h are = refl

-- a mark behind a name or a number
mark_behind : (m : Mark) (rest : List ℕ) → prefix_len is_word (mark_text m ++ rest) ≡ 0
mark_behind m rest = no_front is_word (mark_text m ++ rest) ((begins_before (mark m) rest tt).word refl)

token_stops : (l k : Lexeme) (ps : List Piece) → may_touch l k ≡ true → are_spaced (token k ∷ ps) ≡ true → IsLawfulLexeme k → AreLawfulPieces ps → Stops l (lexeme_text k ++ pieces_text ps)
token_stops (plain n) (mark m) ps h g is are = mark_behind m (pieces_text ps)
token_stops (word w) (mark m) ps h g is are = mark_behind m (pieces_text ps)
token_stops (integer n) (mark m) ps h g is are = (mark_behind m (pieces_text ps), mark_no_fraction m ps g are)
token_stops (decimal i j) (mark m) ps h g is are = mark_behind m (pieces_text ps)
token_stops (text s) k ps h g is are = tt
token_stops (mark m) (mark n) ps h g is are = ap (goes_on m) (lexeme_first (mark n) (pieces_text ps) tt) ∙ apart_stops m n h
token_stops (mark m) (plain n) ps h g is are = no_joint m (get_or (n ++ pieces_text ps) 0 0) ((begins_before (plain n) (pieces_text ps) is).joint refl)
token_stops (mark m) (word w) ps h g is are = no_joint m (get_or (word_text w ++ pieces_text ps) 0 0) ((begins_before (word w) (pieces_text ps) is).joint refl)
token_stops (mark m) (integer n) ps h g is are = no_joint m (get_or (lexeme_text (integer n) ++ pieces_text ps) 0 0) ((begins_before (integer n) (pieces_text ps) is).joint refl)
token_stops (mark m) (decimal i j) ps h g is are = no_joint m (get_or (lexeme_text (decimal i j) ++ pieces_text ps) 0 0) ((begins_before (decimal i j) (pieces_text ps) is).joint refl)
token_stops (mark m) (text s) ps h g is are = no_joint m (get_or (quoted s ++ pieces_text ps) 0 0) ((begins_before (text s) (pieces_text ps) is).joint refl)
token_stops _ _ ps h g is are = cc

-- pieces behind a token that may stand there
pub pieces_stop : (l : Lexeme) (ps : List Piece) → are_spaced (token l ∷ ps) ≡ true → AreLawfulPieces ps → Stops l (pieces_text ps)
pieces_stop l [] h are = blank_stops l [] refl refl refl
pieces_stop l (space ∷ ps) h are = blank_stops l (32 ∷ pieces_text ps) refl refl refl
pieces_stop l (line levels ∷ ps) h are = blank_stops l (10 ∷ (replicate (4 * levels) 32 ++ pieces_text ps)) refl refl refl
pieces_stop l (token k ∷ ps) h are =
    token_stops l k ps (and_left (may_touch l k) (are_spaced (token k ∷ ps)) h) (and_right (may_touch l k) (are_spaced (token k ∷ ps)) h) are.0 are.1

-- pieces behind a blank
pub no_blank_behind_space : (ps : List Piece) → are_spaced (space ∷ ps) ≡ true → AreLawfulPieces ps → prefix_len is_blank (pieces_text ps) ≡ 0
no_blank_behind_space [] h are = refl
no_blank_behind_space (token l ∷ ps) h are = no_front is_blank (lexeme_text l ++ pieces_text ps) (begins_before l (pieces_text ps) are.0).no_blank
no_blank_behind_space (space ∷ ps) h are = cc
no_blank_behind_space (line levels ∷ ps) h are = cc

pub no_blank_behind_line : (n : ℕ) (ps : List Piece) → are_spaced (line n ∷ ps) ≡ true → AreLawfulPieces ps → prefix_len is_blank (pieces_text ps) ≡ 0
no_blank_behind_line n [] h are = refl
no_blank_behind_line n (token l ∷ ps) h are = no_front is_blank (lexeme_text l ++ pieces_text ps) (begins_before l (pieces_text ps) are.0).no_blank
no_blank_behind_line n (space ∷ ps) h are = cc
no_blank_behind_line n (line levels ∷ ps) h are = cc
