-- The text of a token and what it means.
use Rattle.std.specs.Prelude.{◌≡◌, ℕ, ◌+◌, ◌-◌, ◌<◌, ◌≤◌, IsTrue, List, length, take, drop, min, slice_index, IsSome, IsUtf8, bytes_eq}
use Rattle.std.specs.List.{list_all, list_any, prefix_len}
use Rattle.std.specs.Char.{is_ascii_digit}
use Rattle.std.specs.Str.Parse.{digits_value}
use Rattle.qml_lex.specs.Bytes.{is_letter, is_word, is_quote}
use Rattle.qml_lex.specs.Marks.{marks}
use Rattle.qml_lex.specs.Numbers.{integer_of}
use Rattle.qml_lex.specs.Texts.{value_of}
use Rattle.qml_lex.specs.declared.token.TokenKind.{TokenKind}
use Rattle.qml_lex.specs.declared.token.TokenKind.TheVariants.{Name, Integer, Decimal, Text, Mark}

-- the text of a name
pub record IsName (text : List ℕ) : Type 0 where
  pub some : 0 < length text
  pub first : IsTrue (is_letter (slice_index text 0))
  pub word : IsTrue (list_all is_word text)
  pub short : length text ≤ 65536

-- how many digits stand before a decimal's point
abbrev pub whole_len : List ℕ → ℕ
whole_len text = prefix_len is_ascii_digit text

-- the text of a decimal
pub record IsDecimal (text : List ℕ) : Type 0 where
  pub whole : 0 < whole_len text
  pub point : slice_index text (whole_len text) ≡ 46
  pub fraction : IsTrue (list_all is_ascii_digit (drop (whole_len text + 1) text))
  pub some : whole_len text + 1 < length text

-- the value of the digits before a decimal's point, or the greatest integer where it is more
abbrev pub whole_of : List ℕ → ℕ
whole_of text = min (digits_value 10 (take (whole_len text) text)) 2147483647

-- the same of those after the point
abbrev pub fraction_of : List ℕ → ℕ
fraction_of text = min (digits_value 10 (drop (whole_len text + 1) text)) 2147483647

-- what stands between the quotes of a text
abbrev pub body_of : List ℕ → List ℕ
body_of text = take (length text - 2) (drop 1 text)

-- the text of a text, its quotes included
pub record IsQuoted (text : List ℕ) : Type 0 where
  pub quotes : 2 ≤ length text
  pub quote : IsTrue (is_quote (slice_index text 0))
  pub closed : slice_index text (length text - 1) ≡ slice_index text 0
  pub short : length (value_of (body_of text)) ≤ 65536
  pub utf8 : IsUtf8 (value_of (body_of text))

-- the text of a token of this kind
abbrev pub IsSpelled : TokenKind → List ℕ → Type 0
IsSpelled Name text = IsName text
IsSpelled Integer text = IsSome (integer_of text)
IsSpelled Decimal text = IsDecimal text
IsSpelled Text text = IsQuoted text
IsSpelled Mark text = IsTrue (list_any (λ mark. bytes_eq mark text) marks)
