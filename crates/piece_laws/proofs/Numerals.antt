-- Integers and decimals are lexed to themselves.
use Rattle.std.proofs.Common.{◌≡◌, ℕ, ◌+◌, ◌^◌, ◌<◌, ◌≤◌, inl, inr, Bool, true, false, ◌&&◌, le-leb, List, [], ◌∷◌, ◌++◌, append_assoc, length, take, drop, get_or, Some, min, refl, ap, ◌∙◌, arith}
use Rattle.std.specs.Prelude.{codes, nat_eq}
use Rattle.std.specs.Char.{is_ascii_digit, digit_value}
use Rattle.std.specs.Fmt.{decimal as decimal_text}
use Rattle.std.specs.List.{list_all, prefix_len, starts_with}
use Rattle.std.specs.Str.Parse.{digits_value, AllDigits}
use Rattle.std.proofs.Math.Seq.{drop-append-add, take-append_seam, drop-append_seam}
use Rattle.std.proofs.lemmas.List.{length-append}
use Rattle.std.proofs.lemmas.Bool.{lt-ltb, cases_lt}
use Rattle.std.proofs.lemmas.Bool.Decides.{nat_tests}
use Rattle.std.proofs.lemmas.Fmt.{decimal_is_IsNumeral, decimal_digit, first_decimal}
use Rattle.qml_grammar.specs.Lexemes.{decimal}
use Rattle.qml_lex.specs.Bytes.{is_letter, is_word, is_blank}
use Rattle.qml_lex.specs.Meaning.{whole_len, whole_of, fraction_of}
use Rattle.qml_lex.specs.Numbers.{is_digit, has_leading_zero, integer_of, number_of}
use Rattle.qml_lex.specs.Pieces.{piece_of, number_piece, decimal_piece, is_fraction}
use Rattle.qml_lex.specs.declared.piece.Piece.TheVariants.{Lexeme as Found}
use Rattle.qml_lex.specs.declared.token.TokenKind.TheVariants.{Integer, Decimal}
use Rattle.qml_lex.proofs.LongestMark.{and_left}
use Rattle.piece_laws.proofs.Fronts.{and_both, front_len, all_others}

-- Digits

digit_of_value : (byte : ℕ) → digit_value byte < 10 → is_ascii_digit byte ≡ true
digit_of_value byte h = grind (arith, nat_tests)

pub digit_is_word : (byte : ℕ) → is_ascii_digit byte ≡ true → is_word byte ≡ true
digit_is_word byte h = grind (arith, nat_tests)

digits_pass : (s : List ℕ) → AllDigits 10 s → list_all (is_digit 10) s ≡ true
digits_pass [] all = refl
digits_pass (x ∷ s) all = and_both (is_digit 10 x) (list_all (is_digit 10) s) (lt-ltb (digit_value x) 10 all.0) (digits_pass s all.1)

digits_are_ascii : (s : List ℕ) → AllDigits 10 s → list_all is_ascii_digit s ≡ true
digits_are_ascii [] all = refl
digits_are_ascii (x ∷ s) all = and_both (is_ascii_digit x) (list_all is_ascii_digit s) (digit_of_value x all.0) (digits_are_ascii s all.1)

-- what the digits of a number are
pub record AreDigitsOf (n : ℕ) (s : List ℕ) : Type 0 where
  pub some : 0 < length s
  pub all : AllDigits 10 s
  pub ascii : list_all is_ascii_digit s ≡ true
  pub words : list_all is_word s ≡ true
  pub value : digits_value 10 s ≡ n
  pub no_zero : has_leading_zero s ≡ false

no_leading_zero : (n : ℕ) → n < 2 ^ 64 → has_leading_zero (decimal_text n) ≡ false
no_leading_zero n h = elim (cases_lt n 10) [
  | inl small ↦ rw (decimal_digit n small) refl
  | inr large ↦
      let first : 48 < get_or (decimal_text n) 0 0 = first_decimal n (omega arith) h in
      grind (arith, nat_tests)
]

pub digits_of_decimal : (n : ℕ) → n ≤ 2147483647 → AreDigitsOf n (decimal_text n)
digits_of_decimal n h =
    let small : n < 2 ^ 64 = omega arith in
    let is = decimal_is_IsNumeral n small in
    let ascii = digits_are_ascii (decimal_text n) is.0.1 in
    record {
      some = is.0.0;
      all = is.0.1;
      ascii = ascii;
      words = all_others is_ascii_digit is_word (decimal_text n) digit_is_word ascii;
      value = is.1;
      no_zero = no_leading_zero n small;
    }

-- The value

-- the second byte of an integer is no letter
no_x : (a b c : Bool) → b ≡ false → (a && (b && c)) ≡ false
no_x true b c h = rw h refl
no_x false b c h = refl

no_hexadecimal : (s : List ℕ) → AllDigits 10 s → starts_with nat_eq s (codes "0x") ≡ false
no_hexadecimal [] all = refl
no_hexadecimal (x ∷ []) all = no_x (nat_eq 48 x) false true refl
no_hexadecimal (x ∷ y ∷ s) all = no_x (nat_eq 48 x) (nat_eq 120 y) true (digit_is_no_x y (digit_of_value y all.1.0))
  where
    digit_is_no_x : (z : ℕ) → is_ascii_digit z ≡ true → nat_eq 120 z ≡ false
    digit_is_no_x z h = grind (arith, nat_tests)

-- digits whose value is known
pub number_of_value : (base : ℕ) (s : List ℕ) (n : ℕ) → 0 < length s → list_all (is_digit base) s ≡ true → digits_value base s ≡ n → n ≤ 2147483647 → number_of base s ≡ Some n
unfolding number_of
number_of_value base s n some digits value h = rw (lt-ltb 0 (length s) some, digits, value, le-leb n 2147483647 h) refl

pub integer_of_digits : (n : ℕ) (s : List ℕ) → n ≤ 2147483647 → AreDigitsOf n s → integer_of s ≡ Some n
unfolding integer_of
integer_of_digits n s h are =
    rw (no_hexadecimal s are.all, are.no_zero) (number_of_value 10 s n are.some (digits_pass s are.all) are.value h)

-- Integers

digit_is_no_other : (byte : ℕ) → is_ascii_digit byte ≡ true → (is_blank byte ≡ false) × (is_letter byte ≡ false)
digit_is_no_other byte h = (grind (arith, nat_tests), grind (arith, nat_tests))

number_from : (byte : ℕ) (s : List ℕ) → is_ascii_digit byte ≡ true → piece_of (byte ∷ s) ≡ number_piece (byte ∷ s)
unfolding piece_of
number_from byte s digit = let other = digit_is_no_other byte digit in rw (other.0, other.1, digit) refl

number_begins : (s rest : List ℕ) → 0 < length s → list_all is_ascii_digit s ≡ true → piece_of (s ++ rest) ≡ number_piece (s ++ rest)
number_begins [] rest some all = absurd (omega arith)
number_begins (x ∷ s) rest some all = number_from x (s ++ rest) (and_left (is_ascii_digit x) (list_all is_ascii_digit s) all)

-- the rest behind digits
number_at : (text s rest : List ℕ) (n : ℕ) → prefix_len is_word text ≡ length s → take (length s) text ≡ s → drop (length s) text ≡ rest → list_all is_ascii_digit s ≡ true → is_fraction rest ≡ false → integer_of s ≡ Some n → number_piece text ≡ Found Integer (length s)
unfolding number_piece
number_at text s rest n len front behind digits no_point value = rw (len, front, behind, digits, no_point, value) refl

decimal_at : (text s rest : List ℕ) (f : ℕ) → prefix_len is_word text ≡ length s → take (length s) text ≡ s → drop (length s) text ≡ rest → list_all is_ascii_digit s ≡ true → is_fraction rest ≡ true → decimal_piece (length s) rest ≡ Found Decimal f → number_piece text ≡ Found Decimal f
unfolding number_piece
decimal_at text s rest f len front behind digits point piece = rw (len, front, behind, digits, point) piece

-- an integer before what does not go on with it
pub integer_is_lexed : (n : ℕ) (s rest : List ℕ) → n ≤ 2147483647 → AreDigitsOf n s → prefix_len is_word rest ≡ 0 → is_fraction rest ≡ false → piece_of (s ++ rest) ≡ Found Integer (length s)
integer_is_lexed n s rest h are none no_point =
    number_begins s rest are.some are.ascii ∙ number_at (s ++ rest) s rest n (front_len is_word s rest are.words none) (take-append_seam s rest) (drop-append_seam s rest) are.ascii no_point (integer_of_digits n s h are)

-- Decimals

fraction_at : (whole f : ℕ) (point rest s : List ℕ) → drop 1 point ≡ rest → prefix_len is_word rest ≡ f → take f rest ≡ s → list_all is_ascii_digit s ≡ true → decimal_piece whole point ≡ Found Decimal (whole + 1 + f)
unfolding decimal_piece
fraction_at whole f point rest s behind len front digits = rw (behind, len, front, digits) refl

point_before : (s rest : List ℕ) → 0 < length s → list_all is_ascii_digit s ≡ true → is_fraction (46 ∷ (s ++ rest)) ≡ true
point_before [] rest some all = absurd (omega arith)
point_before (x ∷ s) rest some all = and_left (is_ascii_digit x) (list_all is_ascii_digit s) all

no_word_before_point : (rest : List ℕ) → prefix_len is_word (46 ∷ rest) ≡ 0
no_word_before_point rest = refl

-- a decimal before what does not go on with it
pub decimal_is_lexed : (m n : ℕ) (s t rest : List ℕ) → AreDigitsOf m s → AreDigitsOf n t → prefix_len is_word rest ≡ 0 → piece_of ((s ++ 46 ∷ t) ++ rest) ≡ Found Decimal (length (s ++ 46 ∷ t))
decimal_is_lexed m n s t rest are others none =
    let behind : List ℕ = 46 ∷ (t ++ rest) in
    let whole : (s ++ 46 ∷ t) ++ rest ≡ s ++ behind = append_assoc s (46 ∷ t) rest in
    let len : length s + 1 + length t ≡ length (s ++ 46 ∷ t) = omega (arith, length-append s (46 ∷ t)) in
    let fraction : decimal_piece (length s) behind ≡ Found Decimal (length s + 1 + length t) =
    fraction_at (length s) (length t) behind (t ++ rest) t refl (front_len is_word t rest others.words none) (take-append_seam t rest) others.ascii in
    ap piece_of whole ∙ (number_begins s behind are.some are.ascii
    ∙ (decimal_at (s ++ behind) s behind (length s + 1 + length t) (front_len is_word s behind are.words (no_word_before_point (t ++ rest))) (take-append_seam s behind) (drop-append_seam s behind) are.ascii (point_before t rest others.some others.ascii) fraction
    ∙ ap (λ k. Found Decimal k) len))

capped : (v n : ℕ) → v ≡ n → n ≤ 2147483647 → min v 2147483647 ≡ n
capped v n e h = omega arith

pub says_decimal : (m n : ℕ) (s t : List ℕ) → m ≤ 2147483647 → n ≤ 2147483647 → AreDigitsOf m s → AreDigitsOf n t → decimal m n ≡ decimal (whole_of (s ++ 46 ∷ t)) (fraction_of (s ++ 46 ∷ t))
says_decimal m n s t h g are others =
    let text : List ℕ = s ++ 46 ∷ t in
    let len : whole_len text ≡ length s = front_len is_ascii_digit s (46 ∷ t) are.ascii refl in
    let before : take (whole_len text) text ≡ s = ap (λ k. take k text) len ∙ take-append_seam s (46 ∷ t) in
    let next : whole_len text + 1 ≡ length s + 1 = omega arith in
    let behind : drop (whole_len text + 1) text ≡ t = ap (λ k. drop k text) next ∙ drop-append-add s (46 ∷ t) 1 in
    let whole : whole_of text ≡ m = capped (digits_value 10 (take (whole_len text) text)) m (ap (digits_value 10) before ∙ are.value) h in
    let fraction : fraction_of text ≡ n = capped (digits_value 10 (drop (whole_len text + 1) text)) n (ap (digits_value 10) behind ∙ others.value) g in
    rw (whole, fraction) refl
