-- What numbers are spelled as, and their values.
use Rattle.std.specs.Prelude.{ℕ, nat_lt, nat_le, nat_eq, ◌==◌, Bool, ◌&&◌, if◌then◌else◌, List, drop, length, slice_index, Option, None, Some, codes}
use Rattle.std.specs.List.{list_all, starts_with}
use Rattle.std.specs.Char.{digit_value}
use Rattle.std.specs.Str.Parse.{digits_value}

-- a digit of this base; letters of both cases stand for ten and more
abbrev pub is_digit : ℕ → ℕ → Bool
is_digit base byte = nat_lt (digit_value byte) base

-- only digits of this base, and at least one
abbrev pub are_digits : ℕ → List ℕ → Bool
are_digits base digits = nat_lt 0 (length digits) && list_all (is_digit base) digits

-- the value of digits in this base, where it fits 31 bits
unfoldable pub number_of : ℕ → List ℕ → Option ℕ
number_of base digits =
    if are_digits base digits && nat_le (digits_value base digits) 2147483647 then Some (digits_value base digits) else None

-- a zero with something behind it
abbrev pub has_leading_zero : List ℕ → Bool
has_leading_zero word = nat_lt 1 (length word) && slice_index word 0 == 48

-- the value of an integer's word: "0x" and hexadecimal digits, or decimal digits with no leading zero
unfoldable pub integer_of : List ℕ → Option ℕ
integer_of word =
    if starts_with nat_eq word (codes "0x") then number_of 16 (drop 2 word)
    else (if has_leading_zero word then None else number_of 10 word)
