-- The bytes of tokens: they are UTF-8, and none is a line end.
use Rattle.std.proofs.Common.{◌≡◌, ℕ, suc, zero, ◌/◌, ◌%◌, ◌<◌, ◌≤◌, inl, inr, Bool, true, false, cond, ◌&&◌, not, eqb, ltb, List, [], ◌∷◌, ◌++◌, get_or, refl, ap, ◌∙◌, sym, subst, arith}
use lib.Utf8.{scalar, scalars}
use Rattle.std.specs.Prelude.{codes, encode_utf8, encode_utf8_all}
use Rattle.std.specs.Fmt.{digit_glyph, decimal as decimal_text}
use Rattle.std.specs.List.{flat_map, list_all}
use Rattle.std.specs.Str.{IsUtf8}
use Rattle.std.proofs.lemmas.Bool.{cases_lt, lt-ltb, le-ltb, ltb-true, ne_eqb}
use Rattle.std.proofs.lemmas.Bool.Decides.{nat_tests}
use Rattle.std.proofs.lemmas.Grind.{flat_map-append}
use Rattle.std.proofs.lemmas.List.{append-nil}
use Rattle.std.proofs.lemmas.List.Concat.{flat_map-cons}
use Rattle.std.proofs.lemmas.Str.{IsUtf8-append, IsUtf8-nil, IsUtf8-encode, IsUtf8-from_ascii, encode_ascii}
use Rattle.qml_ast.specs.TextForm.{byte_text}
use Rattle.qml_grammar.specs.CanonicalExpressions.{escaped, quoted}
use Rattle.qml_grammar.specs.Lexemes.{Lexeme, plain, word, integer, decimal, text, mark}
use Rattle.qml_grammar.specs.Marks.{mark_text}
use Rattle.qml_grammar.specs.Words.{word_text}
use Rattle.qml_grammar.specs.declared.mark.Mark.{Mark}
use Rattle.qml_grammar.specs.declared.mark.Mark.TheVariants.{OpenBrace}
use Rattle.qml_lex.specs.Bytes.{is_word, is_line_end}
use Rattle.qml_lex.proofs.LongestMark.{and_left, and_right}
use Rattle.qml_lex.proofs.Utf8.{AllHigh, encode_high}
use Rattle.piece_laws.specs.Pieces.{lexeme_text, IsLawfulLexeme}
use Rattle.piece_laws.proofs.Fronts.{and_both, all_others, all_append}
use Rattle.piece_laws.proofs.Names.{word_is_name}
use Rattle.piece_laws.proofs.Numerals.{digits_of_decimal}

abbrev pub is_low : ℕ → Bool
is_low byte = ltb byte 128

abbrev pub is_inside : ℕ → Bool
is_inside byte = not (is_line_end byte)

word_is_low : (byte : ℕ) → is_word byte ≡ true → is_low byte ≡ true
word_is_low byte h = grind (arith, nat_tests)

word_is_inside : (byte : ℕ) → is_word byte ≡ true → is_inside byte ≡ true
word_is_inside byte h = grind (arith, nat_tests)

-- ASCII is UTF-8
low_is_ascii : (s : List ℕ) → list_all is_low s ≡ true → (i : ℕ) → get_or s i 0 < 128
low_is_ascii [] all i = omega arith
low_is_ascii (x ∷ s) all zero = ltb-true x 128 (and_left (is_low x) (list_all is_low s) all)
low_is_ascii (x ∷ s) all (suc i) = low_is_ascii s (and_right (is_low x) (list_all is_low s) all) i

pub low_is_utf8 : (s : List ℕ) → list_all is_low s ≡ true → IsUtf8 s
low_is_utf8 s all = IsUtf8-from_ascii s (low_is_ascii s all)

-- Quoted texts

glyph_is_low : (d : ℕ) → d < 16 → is_low (digit_glyph false d) ≡ true
glyph_is_low d h = grind (arith, nat_tests)

glyph_is_inside : (d : ℕ) → d < 16 → is_inside (digit_glyph false d) ≡ true
glyph_is_inside d h = grind (arith, nat_tests)

-- a test that the bytes of all escapes pass
record EscapesPass (p : ℕ → Bool) : Type 0 where
  backslash : p 92 ≡ true
  quote : p 34 ≡ true
  n : p 110 ≡ true
  t : p 116 ≡ true
  r : p 114 ≡ true
  u : p 117 ≡ true
  zero_digit : p 48 ≡ true
  glyph : (d : ℕ) → d < 16 → p (digit_glyph false d) ≡ true

two_pass : (p : ℕ → Bool) (x y : ℕ) → p x ≡ true → p y ≡ true → list_all p (x ∷ y ∷ []) ≡ true
two_pass p x y f g = and_both (p x) (p y && true) f (and_both (p y) true g refl)

code_passes : (p : ℕ → Bool) (byte : ℕ) → EscapesPass p → byte < 32 → list_all p (codes "\\u00" ++ byte_text byte) ≡ true
code_passes p byte e h =
    all_append p (92 ∷ 117 ∷ []) (48 ∷ 48 ∷ byte_text byte) (two_pass p 92 117 e.backslash e.u)
    (all_append p (48 ∷ 48 ∷ []) (byte_text byte) (two_pass p 48 48 e.zero_digit e.zero_digit)
    (two_pass p (digit_glyph false (byte / 16)) (digit_glyph false (byte % 16)) (e.glyph (byte / 16) (omega arith)) (e.glyph (byte % 16) (omega arith))))

escape_passes : (p : ℕ → Bool) (byte : ℕ) (q b n t r low : Bool) → EscapesPass p → eqb byte 10 ≡ n → ltb byte 32 ≡ low → (eqb byte 10 ≡ false → p byte ≡ true) → list_all p (cond q (codes "\\\"") (cond b (codes "\\\\") (cond n (codes "\\n") (cond t (codes "\\t") (cond r (codes "\\r") (cond low (codes "\\u00" ++ byte_text byte) (byte ∷ []))))))) ≡ true
escape_passes p byte true b n t r low e en el itself = two_pass p 92 34 e.backslash e.quote
escape_passes p byte false true n t r low e en el itself = two_pass p 92 92 e.backslash e.backslash
escape_passes p byte false false true t r low e en el itself = two_pass p 92 110 e.backslash e.n
escape_passes p byte false false false true r low e en el itself = two_pass p 92 116 e.backslash e.t
escape_passes p byte false false false false true low e en el itself = two_pass p 92 114 e.backslash e.r
escape_passes p byte false false false false false true e en el itself = code_passes p byte e (ltb-true byte 32 el)
escape_passes p byte false false false false false false e en el itself = and_both (p byte) true (itself en) refl

escaped_passes : (p : ℕ → Bool) (byte : ℕ) → EscapesPass p → (eqb byte 10 ≡ false → p byte ≡ true) → list_all p (escaped byte) ≡ true
escaped_passes p byte e itself =
    escape_passes p byte (eqb byte 34) (eqb byte 92) (eqb byte 10) (eqb byte 9) (eqb byte 13) (ltb byte 32) e refl refl itself

escapes_are_low : EscapesPass is_low
escapes_are_low = record { backslash = refl; quote = refl; n = refl; t = refl; r = refl; u = refl; zero_digit = refl; glyph = glyph_is_low }

escapes_are_inside : EscapesPass is_inside
escapes_are_inside = record { backslash = refl; quote = refl; n = refl; t = refl; r = refl; u = refl; zero_digit = refl; glyph = glyph_is_inside }

inside_escaped : (s : List ℕ) → list_all is_inside (flat_map escaped s) ≡ true
inside_escaped [] = refl
inside_escaped (byte ∷ s) =
    ap (list_all is_inside) (flat_map-cons escaped byte s)
    ∙ all_append is_inside (escaped byte) (flat_map escaped s) (escaped_passes is_inside byte escapes_are_inside (λ e. ap not e)) (inside_escaped s)

-- no byte of a quoted text is a line end
inside_quoted : (s : List ℕ) → list_all is_inside (quoted s) ≡ true
inside_quoted s = all_append is_inside (flat_map escaped s) (34 ∷ []) (inside_escaped s) refl

-- bytes that are no ASCII are spelled as themselves
high_itself : (byte : ℕ) → 128 ≤ byte → escaped byte ≡ byte ∷ []
high_itself byte h =
    let q : eqb byte 34 ≡ false = ne_eqb byte 34 (λ e. omega arith) in
    let b : eqb byte 92 ≡ false = ne_eqb byte 92 (λ e. omega arith) in
    let n : eqb byte 10 ≡ false = ne_eqb byte 10 (λ e. omega arith) in
    let t : eqb byte 9 ≡ false = ne_eqb byte 9 (λ e. omega arith) in
    let r : eqb byte 13 ≡ false = ne_eqb byte 13 (λ e. omega arith) in
    let low : ltb byte 32 ≡ false = le-ltb byte 32 (omega arith) in
    rw (q, b, n, t, r, low) refl

high_escaped : (s : List ℕ) → AllHigh s → flat_map escaped s ≡ s
high_escaped [] h = refl
high_escaped (byte ∷ s) h =
    flat_map-cons escaped byte s ∙ (ap (λ l. l ++ flat_map escaped s) (high_itself byte h.0) ∙ ap (λ l. byte ∷ l) (high_escaped s h.1))

character_utf8 : (c : ℕ) → scalar c ≡ true → IsUtf8 (flat_map escaped (encode_utf8 c))
character_utf8 c is = elim (cases_lt c 128) [
  | inl low ↦
      let alone : flat_map escaped (encode_utf8 c) ≡ escaped c =
      ap (flat_map escaped) (encode_ascii c low) ∙ (flat_map-cons escaped c [] ∙ append-nil (escaped c)) in
      let P : List ℕ → Type 0 = λ l. IsUtf8 l in
      subst P (sym alone) (low_is_utf8 (escaped c) (escaped_passes is_low c escapes_are_low (λ e. lt-ltb c 128 low)))
  | inr high ↦
      let P : List ℕ → Type 0 = λ l. IsUtf8 l in
      subst P (sym (high_escaped (encode_utf8 c) (encode_high c high))) (IsUtf8-encode c is)
]

characters_utf8 : (cs : List ℕ) → scalars cs ≡ true → IsUtf8 (flat_map escaped (encode_utf8_all cs))
characters_utf8 [] is = IsUtf8-nil
characters_utf8 (c ∷ cs) is =
    let P : List ℕ → Type 0 = λ l. IsUtf8 l in
    subst P (sym (flat_map-append escaped (encode_utf8 c) (encode_utf8_all cs)))
    (IsUtf8-append (flat_map escaped (encode_utf8 c)) (flat_map escaped (encode_utf8_all cs)) (character_utf8 c (and_left (scalar c) (scalars cs) is)) (characters_utf8 cs (and_right (scalar c) (scalars cs) is)))

quoted_utf8 : (s : List ℕ) → IsUtf8 s → IsUtf8 (quoted s)
quoted_utf8 s u =
    let P : List ℕ → Type 0 = λ l. IsUtf8 (flat_map escaped l) in
    let inner : IsUtf8 (flat_map escaped s) = subst P u.1.1 (characters_utf8 u.0 u.1.0) in
    IsUtf8-append (34 ∷ []) (flat_map escaped s ++ 34 ∷ []) (low_is_utf8 (34 ∷ []) refl)
    (IsUtf8-append (flat_map escaped s) (34 ∷ []) inner (low_is_utf8 (34 ∷ []) refl))

-- Marks and numbers

mark_low : (m : Mark) → list_all is_low (mark_text m) ≡ true
unfolding mark_text
mark_low OpenBrace = refl
mark_low _ = refl

mark_inside : (m : Mark) → list_all is_inside (mark_text m) ≡ true
unfolding mark_text
mark_inside OpenBrace = refl
mark_inside _ = refl

number_passes : (p : ℕ → Bool) (n : ℕ) → ((byte : ℕ) → is_word byte ≡ true → p byte ≡ true) → n ≤ 2147483647 → list_all p (decimal_text n) ≡ true
number_passes p n words h = let are = digits_of_decimal n h in all_others is_word p (decimal_text n) words are.words

decimal_passes : (p : ℕ → Bool) (m n : ℕ) → ((byte : ℕ) → is_word byte ≡ true → p byte ≡ true) → p 46 ≡ true → m ≤ 2147483647 → n ≤ 2147483647 → list_all p (decimal_text m ++ 46 ∷ decimal_text n) ≡ true
decimal_passes p m n words point h g =
    all_append p (decimal_text m) (46 ∷ decimal_text n) (number_passes p m words h)
    (and_both (p 46) (list_all p (decimal_text n)) point (number_passes p n words g))

-- Every token

pub lexeme_utf8 : (l : Lexeme) → IsLawfulLexeme l → IsUtf8 (lexeme_text l)
lexeme_utf8 (plain n) is = low_is_utf8 n (all_others is_word is_low n word_is_low is.0.word)
lexeme_utf8 (word w) is = low_is_utf8 (word_text w) (all_others is_word is_low (word_text w) word_is_low (word_is_name w).word)
lexeme_utf8 (integer n) is = low_is_utf8 (decimal_text n) (number_passes is_low n word_is_low is)
lexeme_utf8 (decimal m n) is = low_is_utf8 (lexeme_text (decimal m n)) (decimal_passes is_low m n word_is_low refl is.0 is.1)
lexeme_utf8 (text s) is = quoted_utf8 s is.0
lexeme_utf8 (mark m) is = low_is_utf8 (mark_text m) (mark_low m)

pub lexeme_inside : (l : Lexeme) → IsLawfulLexeme l → list_all is_inside (lexeme_text l) ≡ true
lexeme_inside (plain n) is = all_others is_word is_inside n word_is_inside is.0.word
lexeme_inside (word w) is = all_others is_word is_inside (word_text w) word_is_inside (word_is_name w).word
lexeme_inside (integer n) is = number_passes is_inside n word_is_inside is
lexeme_inside (decimal m n) is = decimal_passes is_inside m n word_is_inside refl is.0 is.1
lexeme_inside (text s) is = inside_quoted s
lexeme_inside (mark m) is = mark_inside m
