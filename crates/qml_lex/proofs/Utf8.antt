-- The value of a text is UTF-8.
use Rattle.std.proofs.Common.{◌≡◌, ℕ, zero, suc, ◌+◌, ◌-◌, ◌<◌, ◌≤◌, inl, inr, Bool, true, false, cond, ◌&&◌, ◌||◌, ltb, leb, eqb, eqb-true, List, [], ◌∷◌, ◌++◌, length, take, drop, get_or, Option, None, Some, refl, ap, ◌∙◌, subst, arith}
use lib.Utf8.{encode, scalar, scalars}
use Rattle.std.specs.Prelude.{option_map, option_and_then, encode_utf8_all}
use Rattle.std.specs.List.{list_all}
use Rattle.std.specs.Str.{IsUtf8}
use Rattle.std.specs.Char.{encode_utf8, IsScalar}
use Rattle.std.proofs.lemmas.Str.{IsUtf8-append, IsUtf8-nil, IsUtf8-encode, IsUtf8-drop, IsCharBoundary-after_ascii, encode_ascii, length-encode, len_utf8_bounds}
use Rattle.std.proofs.lemmas.List.{length-take, length-drop, length-append}
use Rattle.std.proofs.lemmas.Grind.{common_steps}
use Rattle.std.proofs.lemmas.Bool.Decides.{nat_tests}
use Rattle.std.proofs.lemmas.Bool.{cases_lt, ne_eqb, lt-ltb, le-ltb}
use Rattle.std.specs.Str.Parse.{digits_value}
use Rattle.qml_lex.specs.Numbers.{is_digit, number_of}
use Rattle.qml_lex.specs.Texts.{value_of, part_of, escape_of, code_of, short_escape, scalar_of, part_value, spelled_len}
use Rattle.qml_lex.specs.declared.text.Part.{Part}
use Rattle.qml_lex.specs.declared.text.Part.TheVariants.{Raw, Short, Code}
use Rattle.qml_lex.proofs.Inside.{value_of-part, value_of-none}
use Rattle.qml_lex.proofs.LongestMark.{and_left, and_right}

-- bytes that are no ASCII stand for themselves
abbrev pub AllHigh : List ℕ → Type 0
AllHigh [] = Unit {0}
AllHigh (x ∷ xs) = (128 ≤ x) × AllHigh xs

high_part : (x : ℕ) (rest : List ℕ) → 128 ≤ x → part_of (x ∷ rest) ≡ Some (Raw x)
unfolding part_of
high_part x rest h =
    let no_end : eqb x 10 ≡ false = ne_eqb x 10 (λ e. omega arith) in
    let no_escape : eqb x 92 ≡ false = ne_eqb x 92 (λ e. omega arith) in
    rw (no_end, no_escape) refl

value_of_high : (xs rest : List ℕ) → AllHigh xs → value_of (xs ++ rest) ≡ xs ++ value_of rest
value_of_high [] rest h = refl
value_of_high (x ∷ xs) rest h = value_of-part x (xs ++ rest) (Raw x) (high_part x (xs ++ rest) h.0) ∙ ap (λ v. x ∷ v) (value_of_high xs rest h.1)

-- the bytes of a character that is no ASCII
pub encode_high : (c : ℕ) → 128 ≤ c → AllHigh (encode_utf8 c)
unfolding encode
encode_high c h =
    let past_one : ltb c 128 ≡ false = le-ltb c 128 h in
    elim (cases_lt c 2048) [
      | inl two ↦ rw (past_one, lt-ltb c 2048 two) (omega arith, (omega arith, tt))
      | inr past_two ↦ elim (cases_lt c 65536) [
        | inl three ↦ rw (past_one, le-ltb c 2048 past_two, lt-ltb c 65536 three) (omega arith, (omega arith, (omega arith, tt)))
        | inr four ↦ rw (past_one, le-ltb c 2048 past_two, le-ltb c 65536 four) (omega arith, (omega arith, (omega arith, (omega arith, tt))))
      ]
    ]

-- a byte below 128 alone
one_ascii : (v : ℕ) → v < 128 → IsUtf8 (v ∷ [])
one_ascii v h = let P : List ℕ → Type 0 = λ bs. IsUtf8 bs in subst P (encode_ascii v h) (IsUtf8-encode v (lt-scalar v h))
  where
    lt-scalar : (n : ℕ) → n < 128 → IsScalar n
    lt-scalar n g = rw (lt-ltb n 55296 (omega arith)) refl

-- what a part that begins with an ASCII byte has: it ends with one, within the text, and its value is UTF-8
abbrev PartFits : ℕ → List ℕ → Option Part → Type 0
PartFits byte rest None = Unit {0}
PartFits byte rest (Some part) =
    (get_or (byte ∷ rest) (spelled_len part - 1) 0 < 128) × ((spelled_len part ≤ length (byte ∷ rest)) × IsUtf8 (part_value part))

short_small : (e v : ℕ) → short_escape e ≡ Some v → (e < 128) × (v < 128)
short_small e v h = (grind (arith, nat_tests), grind (arith, nat_tests))

short_fits : (byte e : ℕ) (rest : List ℕ) (o : Option ℕ) → short_escape e ≡ o → PartFits byte (e ∷ rest) (option_map Short o)
short_fits byte e rest None h = tt
short_fits byte e rest (Some v) h = let small = short_small e v h in (small.0, (omega arith, one_ascii v small.1))

digit_is_ascii : (x : ℕ) → is_digit 16 x ≡ true → x < 128
digit_is_ascii x h = grind (arith, nat_tests)

-- what the code of an escape is
record IsCode (digits : List ℕ) (c : ℕ) : Type 0 where
  four : length digits ≡ 4
  scalar : IsScalar c
  digits_are : list_all (is_digit 16) digits ≡ true

code_at : (four : Bool) (o : Option ℕ) (c : ℕ) → cond four (option_and_then scalar_of o) None ≡ Some c → (four ≡ true) × ((n : ℕ) × ((o ≡ Some n) × (scalar_of n ≡ Some c)))
code_at true None c h = let no : ⊥ = cc in absurd no
code_at true (Some n) c h = (refl, (n, (refl, h)))
code_at false o c h = let no : ⊥ = cc in absurd no

number_at : (some all fits : Bool) (v n : ℕ) → cond ((some && all) && fits) (Some v) None ≡ Some n → all ≡ true
number_at true true fits v n h = refl
number_at true false fits v n h = let no : ⊥ = cc in absurd no
number_at false all fits v n h = let no : ⊥ = cc in absurd no

scalar_at : (low high : Bool) (n c : ℕ) → cond (low || high) (Some n) None ≡ Some c → (cond low true high ≡ true) × (n ≡ c)
scalar_at true high n c h = (refl, cc)
scalar_at false true n c h = (refl, cc)
scalar_at false false n c h = let no : ⊥ = cc in absurd no

code_inside : (digits : List ℕ) (c : ℕ) → code_of digits ≡ Some c → IsCode digits c
unfolding code_of number_of
code_inside digits c h =
    let inside = code_at (eqb (length digits) 4) (number_of 16 digits) c h in
    let n : ℕ = inside.1.0 in
    let is_scalar = scalar_at (ltb n 0xD800) (leb 0xE000 n && ltb n 0x110000) n c inside.1.1.1 in
    let P : ℕ → Type 0 = λ m. IsScalar m in
    record {
      four = eqb-true (length digits) 4 inside.0;
      scalar = subst P is_scalar.1 is_scalar.0;
      digits_are = number_at (ltb 0 (length digits)) (list_all (is_digit 16) digits) (leb (digits_value 16 digits) 2147483647) (digits_value 16 digits) n inside.1.1.0;
    }

last_digit : (digits : List ℕ) → length digits ≡ 4 → list_all (is_digit 16) digits ≡ true → get_or digits 3 0 < 128
last_digit (a ∷ b ∷ c ∷ d ∷ rest) four all =
    let from_b = and_right (is_digit 16 a) (list_all (is_digit 16) (b ∷ c ∷ d ∷ rest)) all in
    let from_c = and_right (is_digit 16 b) (list_all (is_digit 16) (c ∷ d ∷ rest)) from_b in
    let from_d = and_right (is_digit 16 c) (list_all (is_digit 16) (d ∷ rest)) from_c in
    digit_is_ascii d (and_left (is_digit 16 d) (list_all (is_digit 16) rest) from_d)
last_digit _ four all = absurd (omega (arith, four))

code_fits : (byte e : ℕ) (rest : List ℕ) (o : Option ℕ) → code_of (take 4 rest) ≡ o → PartFits byte (e ∷ rest) (option_map Code o)
code_fits byte e rest None h = tt
code_fits byte e rest (Some c) h =
    let is = code_inside (take 4 rest) c h in
    let long : 4 ≤ length rest = omega (arith, length-take 4 rest, is.four) in
    let same : get_or (take 4 rest) 3 0 ≡ get_or rest 3 0 = grind (arith, common_steps) in
    (rw same at (last_digit (take 4 rest) is.four is.digits_are), (omega arith, IsUtf8-encode c is.scalar))

escape_fits : (byte : ℕ) (rest : List ℕ) → PartFits byte rest (escape_of rest)
unfolding escape_of
escape_fits byte [] = tt
escape_fits byte (e ∷ rest) =
    elim (eqb e 117) as (λ t. PartFits byte (e ∷ rest) (cond t (option_map Code (code_of (take 4 rest))) (option_map Short (short_escape e))))
    [ true ↦ code_fits byte e rest (code_of (take 4 rest)) refl | false ↦ short_fits byte e rest (short_escape e) refl ]

part_fits : (byte : ℕ) (rest : List ℕ) → byte < 128 → PartFits byte rest (part_of (byte ∷ rest))
unfolding part_of
part_fits byte rest h =
    elim (eqb byte 10) as (λ t. PartFits byte rest (cond t None (cond (eqb byte 92) (escape_of rest) (Some (Raw byte))))) [
      | true ↦ tt
      | false ↦ elim (eqb byte 92) as (λ t. PartFits byte rest (cond t (escape_of rest) (Some (Raw byte))))
          [ true ↦ escape_fits byte rest | false ↦ (h, (omega arith, one_ascii byte h)) ]
    ]

-- behind an ASCII byte a text goes on
utf8_behind : (ys : List ℕ) (n : ℕ) → IsUtf8 ys → n + 1 ≤ length ys → get_or ys n 0 < 128 → IsUtf8 (drop (n + 1) ys)
utf8_behind ys n u h low = IsUtf8-drop ys (n + 1) u (IsCharBoundary-after_ascii ys n u (omega arith) low)

pub value_of-nil : value_of [] ≡ []
unfolding value_of
value_of-nil = refl

-- one step of the value where the text goes on with an ASCII byte
low_step : (byte : ℕ) (rest : List ℕ) (o : Option Part) → byte < 128 → IsUtf8 (byte ∷ rest) → part_of (byte ∷ rest) ≡ o → PartFits byte rest o → ((n : ℕ) → IsUtf8 (drop (n + 1) (byte ∷ rest)) → IsUtf8 (value_of (drop (n + 1) (byte ∷ rest)))) → IsUtf8 (value_of (byte ∷ rest))
low_step byte rest None low u is fits later =
    rw (value_of-none byte rest is) (later 0 (utf8_behind (byte ∷ rest) 0 u (omega arith) low))
low_step byte rest (Some part) low u is fits later =
    let n : ℕ = spelled_len part - 1 in
    let e : spelled_len part ≡ n + 1 = spelled_some part in
    rw (value_of-part byte rest part is, e) (IsUtf8-append (part_value part) (value_of (drop (n + 1) (byte ∷ rest))) fits.1.1 (later n (utf8_behind (byte ∷ rest) n u (omega (arith, fits.1.0)) fits.0)))
  where
    spelled_some : (p : Part) → spelled_len p ≡ spelled_len p - 1 + 1
    spelled_some (Raw b) = refl
    spelled_some (Short b) = refl
    spelled_some (Code c) = refl

-- where it goes on with another character
high_step : (byte c : ℕ) (rest tail : List ℕ) → encode_utf8 c ++ tail ≡ byte ∷ rest → 128 ≤ c → IsScalar c → IsUtf8 (value_of tail) → IsUtf8 (value_of (byte ∷ rest))
high_step byte c rest tail e high is_scalar later =
    rw (← e, value_of_high (encode_utf8 c) tail (encode_high c high)) (IsUtf8-append (encode_utf8 c) (value_of tail) (IsUtf8-encode c is_scalar) later)

-- a character that begins with a byte that is no ASCII
first_high : (c : ℕ) (tail : List ℕ) (b : ℕ) (more : List ℕ) → encode_utf8 c ++ tail ≡ b ∷ more → 128 ≤ b → 128 ≤ c
first_high c tail b more e big = elim (cases_lt c 128) [
  | inl low ↦ let same : c ∷ tail ≡ b ∷ more = rw (encode_ascii c low) at e in let eq : c ≡ b = cc in absurd (omega arith)
  | inr high ↦ high
]

high_first : (k b : ℕ) (more : List ℕ) → length (b ∷ more) ≤ suc k → 128 ≤ b → (cs : List ℕ) → scalars cs ≡ true → encode_utf8_all cs ≡ b ∷ more → ((tail : List ℕ) → length tail ≤ k → IsUtf8 tail → IsUtf8 (value_of tail)) → IsUtf8 (value_of (b ∷ more))
high_first k b more g big [] s e later = cc
high_first k b more g big (c ∷ cs) s e later =
    let is_scalar : IsScalar c = and_left (scalar c) (scalars cs) s in
    let some : 1 ≤ length (encode_utf8 c) = omega (arith, length-encode c, len_utf8_bounds c) in
    let short : length (encode_utf8_all cs) ≤ k = omega (arith, ap length e, length-append (encode_utf8 c) (encode_utf8_all cs)) in
    high_step b c more (encode_utf8_all cs) e (first_high c (encode_utf8_all cs) b more e big) is_scalar
    (later (encode_utf8_all cs) short (cs, (and_right (scalar c) (scalars cs) s, refl)))

utf8_within : (fuel : ℕ) (body : List ℕ) → length body ≤ fuel → IsUtf8 body → IsUtf8 (value_of body)
utf8_within fuel [] h u = rw value_of-nil IsUtf8-nil
utf8_within zero (byte ∷ rest) h u = absurd (omega arith)
utf8_within (suc fuel) (byte ∷ rest) h u = elim (cases_lt byte 128) [
  | inl low ↦ low_step byte rest (part_of (byte ∷ rest)) low u refl (part_fits byte rest low) (λ n v. utf8_within fuel (drop (n + 1) (byte ∷ rest)) (omega (arith, length-drop (n + 1) (byte ∷ rest))) v)
  | inr high ↦ high_first fuel byte rest h high u.0 u.1.0 u.1.1 (λ tail short v. utf8_within fuel tail short v)
]

pub value_is_utf8 : (body : List ℕ) → IsUtf8 body → IsUtf8 (value_of body)
value_is_utf8 body u = utf8_within (length body) body (omega arith) u
