-- The bytes that tokens are made of.
use Rattle.std.specs.Prelude.{ℕ, ◌+◌, ◌==◌, Bool, ◌||◌, Option, None, Some}
use Rattle.std.specs.Char.{is_ascii_alphabetic, is_ascii_digit}

-- an ASCII letter or '_'
abbrev pub is_letter : ℕ → Bool
is_letter byte = is_ascii_alphabetic byte || byte == 95

-- an ASCII letter, '_' or a digit
abbrev pub is_word : ℕ → Bool
is_word byte = is_letter byte || is_ascii_digit byte

-- LF, which alone ends a line
abbrev pub is_line_end : ℕ → Bool
is_line_end byte = byte == 10

-- a space, a tab, CR or LF
abbrev pub is_blank : ℕ → Bool
is_blank byte = (byte == 32 || byte == 9) || (byte == 13 || byte == 10)

-- '"' or '\''
abbrev pub is_quote : ℕ → Bool
is_quote byte = byte == 34 || byte == 39

-- an offset that was found behind so many bytes
abbrev pub shifted : ℕ → Option ℕ → Option ℕ
shifted n None = None
shifted n (Some offset) = Some (n + offset)
