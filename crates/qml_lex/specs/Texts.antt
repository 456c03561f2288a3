-- What stands between the quotes of a text.
use Rattle.std.specs.Prelude.{ℕ, zero, suc, ◌-◌, nat_lt, nat_le, ◌==◌, ◌&&◌, ◌||◌, if◌then◌else◌, List, [], ◌∷◌, ◌++◌, length, take, Option, None, Some, option_map, option_and_then, encode_utf8}
use Rattle.qml_lex.specs.Numbers.{number_of}
use Rattle.qml_lex.specs.Bytes.{is_line_end, shifted}
use Rattle.qml_lex.specs.declared.text.Part.{Part}
use Rattle.qml_lex.specs.declared.text.Part.TheVariants.{Raw, Short, Code}

-- the byte that a backslash and this byte stand for
abbrev pub short_escape : ℕ → Option ℕ
short_escape byte =
    if byte == 110 then Some 10
    else (if byte == 116 then Some 9
    else (if byte == 114 then Some 13
    else (if (byte == 92 || byte == 34) || byte == 39 then Some byte
    else None)))

-- the character of this code, where it is one's and so no surrogate's
abbrev pub scalar_of : ℕ → Option ℕ
scalar_of code =
    if nat_lt code 0xD800 || (nat_le 0xE000 code && nat_lt code 0x110000) then Some code else None

-- the character of four hexadecimal digits
unfoldable pub code_of : List ℕ → Option ℕ
code_of digits = if length digits == 4 then option_and_then scalar_of (number_of 16 digits) else None

-- what a backslash and these bytes begin with
unfoldable pub escape_of : List ℕ → Option Part
escape_of [] = None
escape_of (byte ∷ rest) =
    if byte == 117 then option_map Code (code_of (take 4 rest)) else option_map Short (short_escape byte)

-- what these bytes of a text begin with: an escape, or a byte that stands for itself
unfoldable pub part_of : List ℕ → Option Part
part_of [] = None
part_of (byte ∷ rest) =
    if is_line_end byte then None else (if byte == 92 then escape_of rest else Some (Raw byte))

-- how many bytes it is spelled with
abbrev pub spelled_len : Part → ℕ
spelled_len (Raw byte) = 1
spelled_len (Short byte) = 2
spelled_len (Code character) = 6

-- the bytes that it stands for
abbrev pub part_value : Part → List ℕ
part_value (Raw byte) = byte ∷ []
part_value (Short byte) = byte ∷ []
part_value (Code character) = encode_utf8 character

-- how many bytes stand before the closing quote, once the next ones, which belong to an escape, are passed;
-- none where the text has no end or has something else inside
abbrev pub body_len_after : ℕ → ℕ → List ℕ → Option ℕ
body_len_after quote passed [] = None
body_len_after quote (suc passed) (byte ∷ rest) = shifted 1 (body_len_after quote passed rest)
body_len_after quote zero (byte ∷ rest) =
    if byte == quote then Some 0
    else option_and_then (λ part. shifted 1 (body_len_after quote (spelled_len part - 1) rest)) (part_of (byte ∷ rest))

-- how many bytes of a text stand between its opening quote and its closing one, which is the same
unfoldable pub body_len : ℕ → List ℕ → Option ℕ
body_len quote text = body_len_after quote 0 text

-- the value of what begins with this, or with a byte that is nothing, and goes on with what this gives for
-- the bytes of an escape that are still to be passed
abbrev pub value_with : Option Part → (ℕ → List ℕ) → List ℕ
value_with None following = following 0
value_with (Some part) following = part_value part ++ following (spelled_len part - 1)

-- the value of what stands between the quotes, once the next bytes, which belong to an escape, are passed
abbrev pub value_after : ℕ → List ℕ → List ℕ
value_after passed [] = []
value_after (suc passed) (byte ∷ rest) = value_after passed rest
value_after zero (byte ∷ rest) = value_with (part_of (byte ∷ rest)) (λ following. value_after following rest)

-- the value of what stands between the quotes
unfoldable pub value_of : List ℕ → List ℕ
value_of body = value_after 0 body
