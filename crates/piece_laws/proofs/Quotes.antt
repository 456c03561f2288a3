-- Quoted texts are lexed to themselves.
use Rattle.std.proofs.Common.{◌≡◌, ℕ, suc, ◌+◌, ◌-◌, ◌/◌, ◌%◌, ◌<◌, ◌≤◌, Bool, true, false, cond, ◌&&◌, eqb, ltb, eqb-true, ltb-true, le-leb, List, [], ◌∷◌, ◌++◌, append_assoc, length, take, drop, Some, refl, ap, ◌∙◌, sym, subst, arith}
use Rattle.std.specs.Prelude.{codes, option_map}
use Rattle.std.specs.Char.{digit_value}
use Rattle.std.specs.Fmt.{digit_glyph}
use Rattle.std.specs.List.{flat_map, list_all}
use Rattle.std.specs.Str.Parse.{digits_value}
use Rattle.std.proofs.Math.Seq.{take-append_seam, drop-append_seam}
use Rattle.std.proofs.lemmas.Bool.{lt-ltb}
use Rattle.std.proofs.lemmas.Bool.Decides.{nat_tests}
use Rattle.std.proofs.lemmas.List.{length-append}
use Rattle.std.proofs.lemmas.List.Concat.{flat_map-cons}
use Rattle.std.proofs.lemmas.Str.{encode_ascii}
use Rattle.qml_ast.specs.TextForm.{byte_text}
use Rattle.qml_grammar.specs.CanonicalExpressions.{escaped, quoted}
use Rattle.qml_lex.specs.Bytes.{shifted}
use Rattle.qml_lex.specs.Meaning.{body_of}
use Rattle.qml_lex.specs.Numbers.{is_digit, number_of}
use Rattle.qml_lex.specs.Pieces.{piece_of, text_piece, text_of_body}
use Rattle.qml_lex.specs.Texts.{part_of, escape_of, code_of, part_value, spelled_len, value_of, body_len}
use Rattle.qml_lex.specs.declared.piece.Piece.TheVariants.{Lexeme as Found}
use Rattle.qml_lex.specs.declared.text.Part.{Part}
use Rattle.qml_lex.specs.declared.text.Part.TheVariants.{Raw, Short, Code}
use Rattle.qml_lex.specs.declared.token.TokenKind.TheVariants.{Text}
use Rattle.qml_lex.proofs.Inside.{body_len-part, value_of-part, body_len-quote}
use Rattle.qml_lex.proofs.Utf8.{value_of-nil}
use Rattle.piece_laws.proofs.Numerals.{number_of_value}
use Rattle.piece_laws.proofs.Fronts.{and_both}

-- how a byte of a text is spelled: as an escape of it, or as itself
pub record IsPart (byte : ℕ) (s : List ℕ) : Type 0 where
  pub first : ℕ
  pub more : List ℕ
  pub part : Part
  pub is : s ≡ first ∷ more
  pub other : eqb first 34 ≡ false
  pub begins : (rest : List ℕ) → part_of (first ∷ (more ++ rest)) ≡ Some part
  pub len : spelled_len part ≡ suc (length more)
  pub value : part_value part ≡ byte ∷ []

-- A byte by a backslash and another one

short_part : (byte letter : ℕ) → ((rest : List ℕ) → part_of (92 ∷ (letter ∷ rest)) ≡ Some (Short byte)) → IsPart byte (92 ∷ letter ∷ [])
short_part byte letter begins = record {
  first = 92;
  more = letter ∷ [];
  part = Short byte;
  is = refl;
  other = refl;
  begins = begins;
  len = refl;
  value = refl;
}

quote_part : (rest : List ℕ) → part_of (92 ∷ (34 ∷ rest)) ≡ Some (Short 34)
unfolding part_of escape_of
quote_part rest = refl

backslash_part : (rest : List ℕ) → part_of (92 ∷ (92 ∷ rest)) ≡ Some (Short 92)
unfolding part_of escape_of
backslash_part rest = refl

line_end_part : (rest : List ℕ) → part_of (92 ∷ (110 ∷ rest)) ≡ Some (Short 10)
unfolding part_of escape_of
line_end_part rest = refl

tab_part : (rest : List ℕ) → part_of (92 ∷ (116 ∷ rest)) ≡ Some (Short 9)
unfolding part_of escape_of
tab_part rest = refl

return_part : (rest : List ℕ) → part_of (92 ∷ (114 ∷ rest)) ≡ Some (Short 13)
unfolding part_of escape_of
return_part rest = refl

-- A byte by its code

glyph_value : (d : ℕ) → d < 16 → digit_value (digit_glyph false d) ≡ d
glyph_value d h = grind (arith, nat_tests)

glyph_is_digit : (d : ℕ) → d < 16 → is_digit 16 (digit_glyph false d) ≡ true
glyph_is_digit d h = rw (glyph_value d h) (lt-ltb d 16 h)

-- the bytes of an escape by a code below 32
abbrev code_digits : ℕ → List ℕ
code_digits byte = 48 ∷ 48 ∷ byte_text byte

code_digits_value : (byte : ℕ) → byte < 32 → digits_value 16 (code_digits byte) ≡ byte
code_digits_value byte h =
    rw (glyph_value (byte / 16) (omega arith), glyph_value (byte % 16) (omega arith)) (omega arith)

code_of_value : (digits : List ℕ) (n : ℕ) → length digits ≡ 4 → number_of 16 digits ≡ Some n → n < 0xD800 → code_of digits ≡ Some n
unfolding code_of
code_of_value digits n len is h = rw (len, is, lt-ltb n 0xD800 h) refl

code_is_its : (byte : ℕ) → byte < 32 → code_of (code_digits byte) ≡ Some byte
code_is_its byte h =
    let high : is_digit 16 (digit_glyph false (byte / 16)) ≡ true = glyph_is_digit (byte / 16) (omega arith) in
    let low : is_digit 16 (digit_glyph false (byte % 16)) ≡ true = glyph_is_digit (byte % 16) (omega arith) in
    let digits : list_all (is_digit 16) (code_digits byte) ≡ true = and_both (is_digit 16 (digit_glyph false (byte / 16))) (is_digit 16 (digit_glyph false (byte % 16)) && true) high (and_both (is_digit 16 (digit_glyph false (byte % 16))) true low refl) in
    code_of_value (code_digits byte) byte refl (number_of_value 16 (code_digits byte) byte (omega arith) digits (code_digits_value byte h) (omega arith)) (omega arith)

code_begins : (byte : ℕ) (rest : List ℕ) → byte < 32 → part_of (92 ∷ (117 ∷ (code_digits byte ++ rest))) ≡ Some (Code byte)
unfolding part_of escape_of
code_begins byte rest h = ap (option_map Code) (code_is_its byte h)

code_part : (byte : ℕ) → byte < 32 → IsPart byte (92 ∷ 117 ∷ code_digits byte)
code_part byte h = record {
  first = 92;
  more = 117 ∷ code_digits byte;
  part = Code byte;
  is = refl;
  other = refl;
  begins = λ rest. code_begins byte rest h;
  len = refl;
  value = encode_ascii byte (omega arith);
}

-- A byte that stands for itself

raw_begins : (byte : ℕ) (rest : List ℕ) → eqb byte 10 ≡ false → eqb byte 92 ≡ false → part_of (byte ∷ rest) ≡ Some (Raw byte)
unfolding part_of
raw_begins byte rest line_end backslash = rw (line_end, backslash) refl

raw_part : (byte : ℕ) → eqb byte 34 ≡ false → eqb byte 10 ≡ false → eqb byte 92 ≡ false → IsPart byte (byte ∷ [])
raw_part byte quote line_end backslash = record {
  first = byte;
  more = [];
  part = Raw byte;
  is = refl;
  other = quote;
  begins = λ rest. raw_begins byte rest line_end backslash;
  len = refl;
  value = refl;
}

-- Any byte

moved : (byte x : ℕ) (s : List ℕ) → eqb byte x ≡ true → IsPart x s → IsPart byte s
moved byte x s e is = let P : ℕ → Type 0 = λ n. IsPart n s in subst P (sym (eqb-true byte x e)) is

part_at : (byte : ℕ) (q b n t r low : Bool) → eqb byte 34 ≡ q → eqb byte 92 ≡ b → eqb byte 10 ≡ n → eqb byte 9 ≡ t → eqb byte 13 ≡ r → ltb byte 32 ≡ low → IsPart byte (cond q (codes "\\\"") (cond b (codes "\\\\") (cond n (codes "\\n") (cond t (codes "\\t") (cond r (codes "\\r") (cond low (codes "\\u00" ++ byte_text byte) (byte ∷ [])))))))
part_at byte true b n t r low eq eb en et er el = moved byte 34 (92 ∷ 34 ∷ []) eq (short_part 34 34 quote_part)
part_at byte false true n t r low eq eb en et er el = moved byte 92 (92 ∷ 92 ∷ []) eb (short_part 92 92 backslash_part)
part_at byte false false true t r low eq eb en et er el = moved byte 10 (92 ∷ 110 ∷ []) en (short_part 10 110 line_end_part)
part_at byte false false false true r low eq eb en et er el = moved byte 9 (92 ∷ 116 ∷ []) et (short_part 9 116 tab_part)
part_at byte false false false false true low eq eb en et er el = moved byte 13 (92 ∷ 114 ∷ []) er (short_part 13 114 return_part)
part_at byte false false false false false true eq eb en et er el = code_part byte (ltb-true byte 32 el)
part_at byte false false false false false false eq eb en et er el = raw_part byte eq en eb

pub escaped_part : (byte : ℕ) → IsPart byte (escaped byte)
escaped_part byte = part_at byte (eqb byte 34) (eqb byte 92) (eqb byte 10) (eqb byte 9) (eqb byte 13) (ltb byte 32) refl refl refl refl refl refl

-- Bytes of a text one after the other

behind_part : (byte : ℕ) (s rest : List ℕ) (is : IsPart byte s) → drop (spelled_len is.part) (is.first ∷ (is.more ++ rest)) ≡ rest
behind_part byte s rest is = rw is.len (drop-append_seam is.more rest)

value_step : (byte : ℕ) (s rest : List ℕ) → IsPart byte s → value_of (s ++ rest) ≡ byte ∷ value_of rest
value_step byte s rest is =
    ap (λ l. value_of (l ++ rest)) is.is
    ∙ (value_of-part is.first (is.more ++ rest) is.part (is.begins rest)
    ∙ rw (is.value, behind_part byte s rest is) refl)

len_step : (byte : ℕ) (s rest : List ℕ) → IsPart byte s → body_len 34 (s ++ rest) ≡ shifted (length s) (body_len 34 rest)
len_step byte s rest is =
    let fits : spelled_len is.part ≤ suc (length (is.more ++ rest)) = omega (arith, is.len, length-append is.more rest) in
    let len : spelled_len is.part ≡ length s = is.len ∙ sym (ap length is.is) in
    ap (λ l. body_len 34 (l ++ rest)) is.is
    ∙ (body_len-part 34 is.first (is.more ++ rest) is.part is.other (is.begins rest) fits
    ∙ rw (behind_part byte s rest is, len) refl)

-- the value of what is between the quotes is the text
pub escaped_value : (s : List ℕ) → value_of (flat_map escaped s) ≡ s
escaped_value [] = value_of-nil
escaped_value (byte ∷ s) =
    ap value_of (flat_map-cons escaped byte s)
    ∙ (value_step byte (escaped byte) (flat_map escaped s) (escaped_part byte)
    ∙ ap (λ l. byte ∷ l) (escaped_value s))

-- the closing quote is found behind it
escaped_len : (s rest : List ℕ) → body_len 34 (flat_map escaped s ++ 34 ∷ rest) ≡ Some (length (flat_map escaped s))
escaped_len [] rest = body_len-quote 34 (34 ∷ rest) 0 (omega arith) refl
escaped_len (byte ∷ s) rest =
    let more : List ℕ = flat_map escaped s in
    let whole : flat_map escaped (byte ∷ s) ++ 34 ∷ rest ≡ escaped byte ++ (more ++ 34 ∷ rest) =
    ap (λ l. l ++ 34 ∷ rest) (flat_map-cons escaped byte s) ∙ append_assoc (escaped byte) more (34 ∷ rest) in
    let len : length (escaped byte) + length more ≡ length (flat_map escaped (byte ∷ s)) =
    sym (ap length (flat_map-cons escaped byte s) ∙ length-append (escaped byte) more) in
    ap (body_len 34) whole
    ∙ (len_step byte (escaped byte) (more ++ 34 ∷ rest) (escaped_part byte)
    ∙ (ap (shifted (length (escaped byte))) (escaped_len s rest)
    ∙ ap Some len))

-- The whole text

text_begins : (rest : List ℕ) → piece_of (34 ∷ rest) ≡ text_of_body rest (body_len 34 rest)
unfolding piece_of text_piece
text_begins rest = refl

text_at : (xs body : List ℕ) (s : List ℕ) (n : ℕ) → body_len 34 xs ≡ Some n → take n xs ≡ body → value_of body ≡ s → length s ≤ 65536 → text_of_body xs (body_len 34 xs) ≡ Found Text (n + 2)
text_at xs body s n len front value short = rw (len, front, value, le-leb (length s) 65536 short) refl

quoted_len : (s : List ℕ) → length (flat_map escaped s) + 2 ≡ length (quoted s)
quoted_len s = omega (arith, length-append (flat_map escaped s) (34 ∷ []))

pub text_is_lexed : (s rest : List ℕ) → length s ≤ 65536 → piece_of (quoted s ++ rest) ≡ Found Text (length (quoted s))
text_is_lexed s rest short =
    let body : List ℕ = flat_map escaped s in
    let xs : List ℕ = (body ++ 34 ∷ []) ++ rest in
    let whole : xs ≡ body ++ 34 ∷ rest = append_assoc body (34 ∷ []) rest in
    let len : body_len 34 xs ≡ Some (length body) = ap (body_len 34) whole ∙ escaped_len s rest in
    let front : take (length body) xs ≡ body = ap (take (length body)) whole ∙ take-append_seam body (34 ∷ rest) in
    text_begins xs ∙ (text_at xs body s (length body) len front (escaped_value s) short ∙ ap (λ n. Found Text n) (quoted_len s))

pub says_text : (s : List ℕ) → value_of (body_of (quoted s)) ≡ s
says_text s =
    let body : List ℕ = flat_map escaped s in
    let inner : length (quoted s) - 2 ≡ length body = omega (arith, quoted_len s) in
    let is : body_of (quoted s) ≡ body = ap (λ n. take n (body ++ 34 ∷ [])) inner ∙ take-append_seam body (34 ∷ []) in
    ap value_of is ∙ escaped_value s
