-- What a text begins with.
use Rattle.std.specs.Prelude.{ℕ, ◌+◌, ◌<◌, ◌≤◌, nat_eq, nat_le, ◌==◌, Bool, ◌&&◌, if◌then◌else◌, List, [], ◌∷◌, length, take, drop, slice_index, Option, None, Some, is_some, codes}
use Rattle.std.specs.List.{list_all, prefix_len, position_or_len, starts_with}
use Rattle.std.specs.Char.{is_ascii_digit}
use Rattle.qml_lex.specs.Bytes.{is_letter, is_word, is_blank, is_line_end, is_quote, shifted}
use Rattle.qml_lex.specs.Numbers.{integer_of}
use Rattle.qml_lex.specs.Marks.{mark_of}
use Rattle.qml_lex.specs.Texts.{body_len, value_of}
use Rattle.qml_lex.specs.declared.token.TokenKind.TheVariants.{Name, Integer, Decimal, Text, Mark}
use Rattle.qml_lex.specs.declared.piece.Piece.{Piece}
use Rattle.qml_lex.specs.declared.piece.Piece.TheVariants.{End, Bad, Blank, Lexeme}

-- a piece with bytes has at least one, and at most those of a text
abbrev pub IsWithin : ℕ → Piece → Type 0
IsWithin n End = Unit {0}
IsWithin n Bad = Unit {0}
IsWithin n (Blank len) = (0 < len) × (len ≤ n)
IsWithin n (Lexeme kind len) = (0 < len) × (len ≤ n)

-- a name of so many bytes, which is not too long
abbrev pub name_of_len : ℕ → Piece
name_of_len n = if nat_le n 65536 then Lexeme Name n else Bad

-- a name
unfoldable pub name_piece : List ℕ → Piece
name_piece text = name_of_len (prefix_len is_word text)

-- a point and a digit
abbrev pub is_fraction : List ℕ → Bool
is_fraction rest = slice_index rest 0 == 46 && is_ascii_digit (slice_index rest 1)

-- a decimal: so many digits, and a point and what follows it
unfoldable pub decimal_piece : ℕ → List ℕ → Piece
decimal_piece whole rest =
    let fraction = prefix_len is_word (drop 1 rest) in
    if list_all is_ascii_digit (take fraction (drop 1 rest)) then Lexeme Decimal (whole + 1 + fraction) else Bad

-- a number: the longest run of digits, letters and '_', and after digits alone also a fraction
unfoldable pub number_piece : List ℕ → Piece
number_piece text =
    let n = prefix_len is_word text in
    if list_all is_ascii_digit (take n text) && is_fraction (drop n text) then decimal_piece n (drop n text)
    else (if is_some (integer_of (take n text)) then Lexeme Integer n else Bad)

-- a text whose opening quote stands before these bytes, with so many bytes inside
abbrev pub text_of_body : List ℕ → Option ℕ → Piece
text_of_body rest None = Bad
text_of_body rest (Some n) = if nat_le (length (value_of (take n rest))) 65536 then Lexeme Text (n + 2) else Bad

-- a text between two quotes
unfoldable pub text_piece : ℕ → List ℕ → Piece
text_piece quote rest = text_of_body rest (body_len quote rest)

-- a comment up to the end of its line
unfoldable pub line_comment : List ℕ → Piece
line_comment text = Blank (position_or_len is_line_end text)

-- how many bytes stand before the first "*/"
abbrev pub before_close : List ℕ → Option ℕ
before_close [] = None
before_close (byte ∷ rest) =
    if starts_with nat_eq (byte ∷ rest) (codes "*/") then Some 0 else shifted 1 (before_close rest)

-- a comment that has so many bytes between "/*" and "*/"
abbrev pub comment_of_len : Option ℕ → Piece
comment_of_len None = Bad
comment_of_len (Some n) = Blank (n + 4)

-- a comment from "/*" to "*/"
unfoldable pub block_comment : List ℕ → Piece
block_comment text = comment_of_len (before_close (drop 2 text))

-- a mark
abbrev pub piece_of_mark : Option (List ℕ) → Piece
piece_of_mark None = Bad
piece_of_mark (Some mark) = Lexeme Mark (length mark)

-- blanks, as many as there are
unfoldable pub blank_piece : List ℕ → Piece
blank_piece text = Blank (prefix_len is_blank text)

-- a comment or a mark
unfoldable pub other_piece : List ℕ → Piece
other_piece text =
    if starts_with nat_eq text (codes "//") then line_comment text
    else (if starts_with nat_eq text (codes "/*") then block_comment text
    else piece_of_mark (mark_of text))

-- what a text begins with
unfoldable pub piece_of : List ℕ → Piece
piece_of [] = End
piece_of (byte ∷ rest) =
    if is_blank byte then blank_piece (byte ∷ rest)
    else (if is_letter byte then name_piece (byte ∷ rest)
    else (if is_ascii_digit byte then number_piece (byte ∷ rest)
    else (if is_quote byte then text_piece byte rest
    else other_piece (byte ∷ rest))))
