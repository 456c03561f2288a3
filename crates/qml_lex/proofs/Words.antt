-- Letters, digits and '_' are ASCII, and so text.
use Rattle.std.proofs.Common.{◌≡◌, ℕ, zero, suc, ◌<◌, true, List, [], ◌∷◌, get_or, lit<, arith}
use Rattle.std.specs.List.{list_all}
use Rattle.std.specs.Str.{IsUtf8}
use Rattle.std.proofs.lemmas.Str.{IsUtf8-from_ascii}
use Rattle.std.proofs.lemmas.Bool.Decides.{nat_tests}
use Rattle.qml_lex.proofs.LongestMark.{and_left, and_right}
use Rattle.qml_lex.specs.Bytes.{is_word}

pub word_byte_is_ascii : (byte : ℕ) → is_word byte ≡ true → byte < 128
word_byte_is_ascii byte h = grind (arith, nat_tests)

pub word_is_ascii : (text : List ℕ) → list_all is_word text ≡ true → (i : ℕ) → get_or text i 0 < 128
word_is_ascii [] h i = lit< tt
word_is_ascii (x ∷ xs) h zero = word_byte_is_ascii x (and_left (is_word x) (list_all is_word xs) h)
word_is_ascii (x ∷ xs) h (suc i) = word_is_ascii xs (and_right (is_word x) (list_all is_word xs) h) i

pub word_is_utf8 : (text : List ℕ) → list_all is_word text ≡ true → IsUtf8 text
word_is_utf8 text h = IsUtf8-from_ascii text (word_is_ascii text h)
