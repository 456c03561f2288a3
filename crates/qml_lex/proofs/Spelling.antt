-- What the text of each token is.
use Rattle.std.proofs.Common.{inl, inr, ◌≡◌, ℕ, zero, suc, ◌+◌, ◌-◌, ◌<◌, ◌≤◌, Bool, true, false, cond, ◌&&◌, ◌||◌, leb, eqb, eqb-true, leb-true, List, [], ◌∷◌, length, take, drop, drop-cons, get_or, Option, None, Some, sym, refl, ap, ◌∙◌, subst, arith}
use Rattle.std.specs.Prelude.{nat_eq, codes, slice_range, find, is_some, bytes_eq, option_and_then}
use Rattle.std.specs.List.{starts_with, list_all, list_any, prefix_len, All, AllByRecursion}
use Rattle.std.specs.Char.{is_ascii_digit}
use Rattle.std.specs.Str.{IsUtf8}
use Rattle.std.proofs.lemmas.List.{length-take, length-drop, get_or-take, get_or-drop, get_or_past, drop-take, take-take}
use Rattle.std.proofs.lemmas.List.Folds.{length-prefix_len}
use Rattle.std.proofs.lemmas.List.Sums.{prefix_len_is, prefix_len-le-length}
use Rattle.std.proofs.lemmas.List.Elements.{All-from_recursion}
use Rattle.std.proofs.lemmas.Bool.{cases_lt}
use Rattle.std.proofs.lemmas.Bool.Decides.{nat_tests}
use Rattle.std.proofs.lemmas.Grind.{common_steps}
use Rattle.std.proofs.lemmas.Str.{IsUtf8-between, IsCharBoundary-after_ascii, IsCharBoundary-before_ascii}
use Rattle.qml_lex.specs.Bytes.{is_letter, is_word, is_blank, is_quote, shifted}
use Rattle.qml_lex.specs.Numbers.{integer_of}
use Rattle.qml_lex.specs.Marks.{marks, mark_of}
use Rattle.qml_lex.specs.Texts.{body_len, body_len_after, value_of, part_of, spelled_len}
use Rattle.qml_lex.specs.Pieces.{name_piece, is_fraction, decimal_piece, number_piece, text_of_body, text_piece, line_comment, before_close, comment_of_len, block_comment, piece_of_mark, blank_piece, other_piece, piece_of}
use Rattle.qml_lex.specs.Meaning.{IsName, IsDecimal, IsQuoted, IsSpelled, whole_len, body_of}
use Rattle.qml_lex.specs.Reading.{HasTokens, at_end, past_blank, past_lexeme}
use Rattle.qml_lex.specs.declared.token.Token.{Token}
use Rattle.qml_lex.specs.declared.text.Part.{Part}
use Rattle.qml_lex.specs.declared.token.TokenKind.{TokenKind}
use Rattle.qml_lex.specs.declared.token.TokenKind.TheVariants.{Name, Integer, Decimal, Text, Mark}
use Rattle.qml_lex.specs.declared.piece.Piece.TheVariants.{Bad, Lexeme}
use Rattle.qml_lex.proofs.LongestMark.{and_left, and_right, found_passes}
use Rattle.qml_lex.proofs.Utf8.{value_is_utf8}

-- a piece that is this kind of token, of this length, where a test passes
lexeme_at : (t : Bool) (kind kind' : TokenKind) (n n' : ℕ) → cond t (Lexeme kind n) Bad ≡ Lexeme kind' n' → (t ≡ true) × ((kind ≡ kind') × (n ≡ n'))
lexeme_at true kind kind' n n' h = (refl, (cc, cc))
lexeme_at false kind kind' n n' h = let no : ⊥ = cc in absurd no

or_right : (a b : Bool) → b ≡ true → (a || b) ≡ true
or_right true b h = refl
or_right false b h = h

-- the front that passes a test
front_step : (p : ℕ → Bool) (x : ℕ) (xs : List ℕ) (b : Bool) → p x ≡ b → list_all p (take (prefix_len p xs) xs) ≡ true → list_all p (take (cond b (1 + prefix_len p xs) 0) (x ∷ xs)) ≡ true
front_step p x xs true passes later =
    let e : 1 + prefix_len p xs ≡ suc (prefix_len p xs) = omega arith in
    rw (e, passes) later
front_step p x xs false fails later = refl

front_passes : (p : ℕ → Bool) (xs : List ℕ) → list_all p (take (prefix_len p xs) xs) ≡ true
front_passes p [] = refl
front_passes p (x ∷ xs) = front_step p x xs (p x) refl (front_passes p xs)

-- an element of a list that passes a test
all_at : (p : ℕ → Bool) (xs : List ℕ) (k : ℕ) → list_all p xs ≡ true → k < length xs → p (get_or xs k 0) ≡ true
all_at p [] k h g = absurd (omega arith)
all_at p (x ∷ xs) zero h g = and_left (p x) (list_all p xs) h
all_at p (x ∷ xs) (suc k) h g = all_at p xs k (and_right (p x) (list_all p xs) h) (omega arith)

-- a front that begins with a letter has a byte
some_word : (byte : ℕ) (rest : List ℕ) → is_word byte ≡ true → 0 < prefix_len is_word (byte ∷ rest)
some_word byte rest h = rw h (omega arith)

name_text : (byte : ℕ) (rest : List ℕ) → is_letter byte ≡ true → prefix_len is_word (byte ∷ rest) ≤ 65536 → IsName (take (prefix_len is_word (byte ∷ rest)) (byte ∷ rest))
name_text byte rest letter short =
    let word : is_word byte ≡ true = rw letter refl in
    let some : 0 < prefix_len is_word (byte ∷ rest) = some_word byte rest word in
    let len : length (take (prefix_len is_word (byte ∷ rest)) (byte ∷ rest)) ≡ prefix_len is_word (byte ∷ rest) = length-prefix_len is_word (byte ∷ rest) in
    record {
      some = rw len some;
      first = ap is_letter (get_or-take (prefix_len is_word (byte ∷ rest)) (byte ∷ rest) 0 0 some) ∙ letter;
      word = front_passes is_word (byte ∷ rest);
      short = rw len short;
    }

name_spelled : (byte : ℕ) (rest : List ℕ) (kind : TokenKind) (n : ℕ) → is_letter byte ≡ true → name_piece (byte ∷ rest) ≡ Lexeme kind n → IsSpelled kind (take n (byte ∷ rest))
unfolding name_piece
name_spelled byte rest kind n letter h =
    let len : ℕ = prefix_len is_word (byte ∷ rest) in
    let is = lexeme_at (leb len 65536) Name kind len n h in
    let P : TokenKind → Type 0 = λ k. IsSpelled k (take n (byte ∷ rest)) in
    let Q : ℕ → Type 0 = λ m. IsName (take m (byte ∷ rest)) in
    subst P is.1.0 (subst Q is.1.1 (name_text byte rest letter (leb-true len 65536 is.0)))

-- a decimal: n digits, a point and f more of them
decimal_text : (text : List ℕ) (n f : ℕ) → 0 < n → 0 < f → n + 1 + f ≤ length text → list_all is_ascii_digit (take n text) ≡ true → get_or text n 0 ≡ 46 → list_all is_ascii_digit (take f (drop (n + 1) text)) ≡ true → IsDecimal (take (n + 1 + f) text)
decimal_text text n f some more within digits point digits' =
    let len : length (take (n + 1 + f) text) ≡ n + 1 + f = omega (arith, length-take (n + 1 + f) text) in
    let len_digits : length (take n text) ≡ n = omega (arith, length-take n text) in
    let at_point : get_or (take (n + 1 + f) text) n 0 ≡ 46 = get_or-take (n + 1 + f) text n 0 (omega arith) ∙ point in
    let each : (k : ℕ) → k < n → is_ascii_digit (get_or (take (n + 1 + f) text) k 0) ≡ true =
    λ k h. ap is_ascii_digit (get_or-take (n + 1 + f) text k 0 (omega arith) ∙ sym (get_or-take n text k 0 h)) ∙ all_at is_ascii_digit (take n text) k digits (omega arith) in
    let whole : whole_len (take (n + 1 + f) text) ≡ n =
    prefix_len_is is_ascii_digit (take (n + 1 + f) text) n 0 (omega arith) each (λ _. ap is_ascii_digit at_point) in
    let P : ℕ → Type 0 = λ m. (0 < m) × ((get_or (take (n + 1 + f) text) m 0 ≡ 46) × ((list_all is_ascii_digit (drop (m + 1) (take (n + 1 + f) text)) ≡ true) × (m + 1 < length (take (n + 1 + f) text)))) in
    let facts = subst P (sym whole) (some, (at_point, (ap (list_all is_ascii_digit) (drop-take (n + 1) f text) ∙ digits', omega arith))) in
    record { whole = facts.0; point = facts.1.0; fraction = facts.1.1.0; some = facts.1.1.1 }

-- a digit that is read stands in the text
digit_is_there : (text : List ℕ) (i : ℕ) → is_ascii_digit (get_or text i 0) ≡ true → i < length text
digit_is_there text i h = elim (cases_lt i (length text)) [
  | inl there ↦ there
  | inr past ↦ let no : false ≡ true = ap is_ascii_digit (sym (get_or_past text i 0 past)) ∙ h in let never : ⊥ = cc in absurd never
]

decimal_spelled : (text : List ℕ) (n : ℕ) (kind : TokenKind) (m : ℕ) → 0 < n → n ≤ length text → list_all is_ascii_digit (take n text) ≡ true → is_fraction (drop n text) ≡ true → decimal_piece n (drop n text) ≡ Lexeme kind m → IsSpelled kind (take m text)
unfolding decimal_piece
decimal_spelled text n kind m some within digits fraction h =
    let rest : List ℕ = drop n text in
    let f : ℕ = prefix_len is_word (drop 1 rest) in
    let is = lexeme_at (list_all is_ascii_digit (take f (drop 1 rest))) Decimal kind (n + 1 + f) m h in
    let none : n + 0 ≡ n = omega arith in
    let point : get_or text n 0 ≡ 46 = rw none at (sym (get_or-drop n text 0 0)) ∙ eqb-true (get_or rest 0 0) 46 (and_left (eqb (get_or rest 0 0) 46) (is_ascii_digit (get_or rest 1 0)) fraction) in
    let same : drop 1 (drop n text) ≡ drop (n + 1) text = grind (arith, common_steps) in
    let digit : is_ascii_digit (get_or text (n + 1) 0) ≡ true = ap is_ascii_digit (sym (get_or-drop n text 1 0)) ∙ and_right (eqb (get_or rest 0 0) 46) (is_ascii_digit (get_or rest 1 0)) fraction in
    let there : n + 1 < length text = digit_is_there text (n + 1) digit in
    let begins : drop 1 (drop n text) ≡ get_or text (n + 1) 0 ∷ drop (suc (n + 1)) text = same ∙ drop-cons text (n + 1) 0 there in
    let S : List ℕ → Type 0 = λ l. 0 < prefix_len is_word l in
    let more : 0 < f = subst S (sym begins) (some_word (get_or text (n + 1) 0) (drop (suc (n + 1)) text) (or_right (is_letter (get_or text (n + 1) 0)) (is_ascii_digit (get_or text (n + 1) 0)) digit)) in
    let long : n + 1 + f ≤ length text = omega (arith, prefix_len-le-length is_word (drop 1 rest), ap length same, length-drop (n + 1) text) in
    let P : TokenKind → Type 0 = λ k. IsSpelled k (take m text) in
    let Q : ℕ → Type 0 = λ l. IsDecimal (take l text) in
    let R : List ℕ → Type 0 = λ l. list_all is_ascii_digit (take f l) ≡ true in
    subst P is.1.0 (subst Q is.1.1 (decimal_text text n f some more long digits point (subst R same is.0)))

number_at : (a b s : Bool) (kind : TokenKind) (n m : ℕ) (text : List ℕ) → is_some (integer_of (take n text)) ≡ s → cond (a && b) (decimal_piece n (drop n text)) (cond s (Lexeme Integer n) Bad) ≡ Lexeme kind m → ((a ≡ true) → (b ≡ true) → decimal_piece n (drop n text) ≡ Lexeme kind m → IsSpelled kind (take m text)) → IsSpelled kind (take m text)
number_at true true s kind n m text e h decimal = decimal refl refl h
number_at true false s kind n m text e h decimal =
    let is = lexeme_at s Integer kind n m h in
    let P : TokenKind → Type 0 = λ k. IsSpelled k (take m text) in
    let Q : ℕ → Type 0 = λ l. is_some (integer_of (take l text)) ≡ true in
    subst P is.1.0 (subst Q is.1.1 (e ∙ is.0))
number_at false b s kind n m text e h decimal =
    let is = lexeme_at s Integer kind n m h in
    let P : TokenKind → Type 0 = λ k. IsSpelled k (take m text) in
    let Q : ℕ → Type 0 = λ l. is_some (integer_of (take l text)) ≡ true in
    subst P is.1.0 (subst Q is.1.1 (e ∙ is.0))

number_spelled : (byte : ℕ) (rest : List ℕ) (kind : TokenKind) (m : ℕ) → is_ascii_digit byte ≡ true → number_piece (byte ∷ rest) ≡ Lexeme kind m → IsSpelled kind (take m (byte ∷ rest))
unfolding number_piece
number_spelled byte rest kind m digit h =
    let text : List ℕ = byte ∷ rest in
    let n : ℕ = prefix_len is_word text in
    let some : 0 < n = some_word byte rest (or_right (is_letter byte) (is_ascii_digit byte) digit) in
    number_at (list_all is_ascii_digit (take n text)) (is_fraction (drop n text)) (is_some (integer_of (take n text))) kind n m text refl h
    (λ a b d. decimal_spelled text n kind m some (prefix_len-le-length is_word text) a b d)

-- a text that is found in a table
among_at : (p q : List ℕ → Bool) (mark found : List ℕ) (more : List (List ℕ)) (b : Bool) → cond b (Some mark) (find p more) ≡ Some found → q found ≡ true → (find p more ≡ Some found → list_any q more ≡ true) → list_any q (mark ∷ more) ≡ true
among_at p q mark found more true h passes later = let same : mark ≡ found = cc in rw (same, passes) refl
among_at p q mark found more false h passes later = or_right (q mark) (list_any q more) (later h)

found_is_among : (p q : List ℕ → Bool) (table : List (List ℕ)) (found : List ℕ) → find p table ≡ Some found → q found ≡ true → list_any q table ≡ true
found_is_among p q [] found h passes = let no : ⊥ = cc in absurd no
found_is_among p q (mark ∷ more) found h passes = among_at p q mark found more (p mark) h passes (λ g. found_is_among p q more found g passes)

mark_at : (text : List ℕ) (kind : TokenKind) (n : ℕ) (o : Option (List ℕ)) → mark_of text ≡ o → piece_of_mark o ≡ Lexeme kind n → IsSpelled kind (take n text)
unfolding mark_of
mark_at text kind n None e h = let no : ⊥ = cc in absurd no
mark_at text kind n (Some mark) e h =
    let is = lexeme_at true Mark kind (length mark) n h in
    let begins : starts_with nat_eq text mark ≡ true = found_passes (λ other. starts_with nat_eq text other) marks mark e in
    let P : TokenKind → Type 0 = λ k. IsSpelled k (take n text) in
    let Q : ℕ → Type 0 = λ l. list_any (λ other. bytes_eq other (take l text)) marks ≡ true in
    subst P is.1.0 (subst Q is.1.1 (found_is_among (λ other. starts_with nat_eq text other) (λ other. bytes_eq other (take (length mark) text)) marks mark e begins))

comment_at : (o : Option ℕ) (kind : TokenKind) (n : ℕ) → comment_of_len o ≡ Lexeme kind n → ⊥
comment_at None kind n h = cc
comment_at (Some m) kind n h = cc

other_at : (a b : Bool) (text : List ℕ) (kind : TokenKind) (n : ℕ) → cond a (line_comment text) (cond b (block_comment text) (piece_of_mark (mark_of text))) ≡ Lexeme kind n → IsSpelled kind (take n text)
unfolding line_comment block_comment
other_at true b text kind n h = let no : ⊥ = cc in absurd no
other_at false true text kind n h = absurd (comment_at (before_close (drop 2 text)) kind n h)
other_at false false text kind n h = mark_at text kind n (mark_of text) refl h

other_spelled : (text : List ℕ) (kind : TokenKind) (n : ℕ) → other_piece text ≡ Lexeme kind n → IsSpelled kind (take n text)
unfolding other_piece
other_spelled text kind n h =
    other_at (starts_with nat_eq text (codes "//")) (starts_with nat_eq text (codes "/*")) text kind n h

-- where the closing quote stands
shifted_at : (o : Option ℕ) (m : ℕ) → shifted 1 o ≡ Some m → (k : ℕ) × ((o ≡ Some k) × (m ≡ 1 + k))
shifted_at None m h = let no : ⊥ = cc in absurd no
shifted_at (Some k) m h = (k, (refl, cc))

closing_more : (quote x : ℕ) (xs : List ℕ) (m : ℕ) (o : Option ℕ) → shifted 1 o ≡ Some m → ((k : ℕ) → o ≡ Some k → (k < length xs) × (get_or xs k 0 ≡ quote)) → (m < length (x ∷ xs)) × (get_or (x ∷ xs) m 0 ≡ quote)
closing_more quote x xs m o h later =
    let before = shifted_at o m h in
    let k : ℕ = before.0 in
    let e : suc k ≡ m = omega (arith, before.1.1) in
    let found = later k before.1.0 in
    let P : ℕ → Type 0 = λ i. (i < length (x ∷ xs)) × (get_or (x ∷ xs) i 0 ≡ quote) in
    subst P e (omega (arith, found.0), found.1)

closing_at : (quote x : ℕ) (xs : List ℕ) (m : ℕ) (t : Bool) (o : Option Part) → eqb x quote ≡ t → cond t (Some 0) (option_and_then (λ part. shifted 1 (body_len_after quote (spelled_len part - 1) xs)) o) ≡ Some m → ((j k : ℕ) → body_len_after quote j xs ≡ Some k → (k < length xs) × (get_or xs k 0 ≡ quote)) → (m < length (x ∷ xs)) × (get_or (x ∷ xs) m 0 ≡ quote)
closing_at quote x xs m true o e h later =
    let none : 0 ≡ m = cc in
    let P : ℕ → Type 0 = λ i. (i < length (x ∷ xs)) × (get_or (x ∷ xs) i 0 ≡ quote) in
    subst P none (omega arith, eqb-true x quote e)
closing_at quote x xs m false None e h later = let no : ⊥ = cc in absurd no
closing_at quote x xs m false (Some part) e h later =
    closing_more quote x xs m (body_len_after quote (spelled_len part - 1) xs) h (λ k g. later (spelled_len part - 1) k g)

closing : (quote j : ℕ) (xs : List ℕ) (m : ℕ) → body_len_after quote j xs ≡ Some m → (m < length xs) × (get_or xs m 0 ≡ quote)
closing quote j [] m h = let no : ⊥ = cc in absurd no
closing quote (suc j) (x ∷ xs) m h = closing_more quote x xs m (body_len_after quote j xs) h (λ k g. closing quote j xs k g)
closing quote zero (x ∷ xs) m h = closing_at quote x xs m (eqb x quote) (part_of (x ∷ xs)) refl h (λ j k g. closing quote j xs k g)

-- a text may be cut behind an ASCII byte at its beginning and before a later one
abbrev pub Cuts : List ℕ → Type 0
Cuts text = (m : ℕ) → m + 1 < length text → get_or text 0 0 < 128 → get_or text (m + 1) 0 < 128 → IsUtf8 (take m (drop 1 text))

quote_is_ascii : (byte : ℕ) → is_quote byte ≡ true → byte < 128
quote_is_ascii byte h = grind (arith, nat_tests)

quoted_text : (quote : ℕ) (rest : List ℕ) (m : ℕ) → is_quote quote ≡ true → m < length rest → get_or rest m 0 ≡ quote → length (value_of (take m rest)) ≤ 65536 → IsUtf8 (take m rest) → IsQuoted (quote ∷ take (m + 1) rest)
quoted_text quote rest m is h closes short utf8 =
    let text : List ℕ = quote ∷ take (m + 1) rest in
    let len : length text ≡ suc (m + 1) = omega (arith, length-take (m + 1) rest) in
    let last : length text - 1 ≡ suc m = omega (arith, len) in
    let inner : length text - 2 ≡ m = omega (arith, len) in
    let body : body_of text ≡ take m rest = ap (λ l. take l (take (m + 1) rest)) inner ∙ take-take m (m + 1) rest (omega arith) in
    let P : List ℕ → Type 0 = λ l. (length (value_of l) ≤ 65536) × IsUtf8 (value_of l) in
    let facts = subst P (sym body) (short, value_is_utf8 (take m rest) utf8) in
    record {
      quotes = omega (arith, len);
      quote = is;
      closed = ap (λ i. get_or text i 0) last ∙ (get_or-take (m + 1) rest m 0 (omega arith) ∙ closes);
      short = facts.0;
      utf8 = facts.1;
    }

text_at : (quote : ℕ) (rest : List ℕ) (kind : TokenKind) (n : ℕ) (o : Option ℕ) → is_quote quote ≡ true → Cuts (quote ∷ rest) → body_len quote rest ≡ o → text_of_body rest o ≡ Lexeme kind n → IsSpelled kind (take n (quote ∷ rest))
unfolding body_len
text_at quote rest kind n None is cuts e h = let no : ⊥ = cc in absurd no
text_at quote rest kind n (Some m) is cuts e h =
    let piece = lexeme_at (leb (length (value_of (take m rest))) 65536) Text kind (m + 2) n h in
    let found = closing quote 0 rest m e in
    let next : m + 1 ≡ suc m = omega arith in
    let low : get_or (quote ∷ rest) (m + 1) 0 < 128 = rw (next, found.1) (quote_is_ascii quote is) in
    let all : suc (m + 1) ≡ m + 2 = omega arith in
    let P : TokenKind → Type 0 = λ k. IsSpelled k (take n (quote ∷ rest)) in
    let Q : ℕ → Type 0 = λ l. IsQuoted (take l (quote ∷ rest)) in
    subst P piece.1.0 (subst Q (all ∙ piece.1.1) (quoted_text quote rest m is found.0 found.1 (leb-true (length (value_of (take m rest))) 65536 piece.0) (cuts m (omega (arith, found.0)) (quote_is_ascii quote is) low)))

text_spelled : (quote : ℕ) (rest : List ℕ) (kind : TokenKind) (n : ℕ) → is_quote quote ≡ true → Cuts (quote ∷ rest) → text_piece quote rest ≡ Lexeme kind n → IsSpelled kind (take n (quote ∷ rest))
unfolding text_piece
text_spelled quote rest kind n is cuts h = text_at quote rest kind n (body_len quote rest) is cuts refl h

piece_at : (byte : ℕ) (rest : List ℕ) (kind : TokenKind) (n : ℕ) (a b c d : Bool) → is_letter byte ≡ b → is_ascii_digit byte ≡ c → is_quote byte ≡ d → Cuts (byte ∷ rest) → cond a (blank_piece (byte ∷ rest)) (cond b (name_piece (byte ∷ rest)) (cond c (number_piece (byte ∷ rest)) (cond d (text_piece byte rest) (other_piece (byte ∷ rest))))) ≡ Lexeme kind n → IsSpelled kind (take n (byte ∷ rest))
unfolding blank_piece
piece_at byte rest kind n true b c d letter digit quote cuts h = let no : ⊥ = cc in absurd no
piece_at byte rest kind n false true c d letter digit quote cuts h = name_spelled byte rest kind n letter h
piece_at byte rest kind n false false true d letter digit quote cuts h = number_spelled byte rest kind n digit h
piece_at byte rest kind n false false false true letter digit quote cuts h = text_spelled byte rest kind n quote cuts h
piece_at byte rest kind n false false false false letter digit quote cuts h = other_spelled (byte ∷ rest) kind n h

piece_spelled : (text : List ℕ) (kind : TokenKind) (n : ℕ) → Cuts text → piece_of text ≡ Lexeme kind n → IsSpelled kind (take n text)
unfolding piece_of
piece_spelled [] kind n cuts h = let no : ⊥ = cc in absurd no
piece_spelled (byte ∷ rest) kind n cuts h =
    piece_at byte rest kind n (is_blank byte) (is_letter byte) (is_ascii_digit byte) (is_quote byte) refl refl refl cuts h

cuts_at : (bytes : List ℕ) (i : ℕ) → IsUtf8 bytes → i < length bytes → Cuts (drop i bytes)
cuts_at bytes i u h m within first later =
    let none : i + 0 ≡ i = omega arith in
    let low : get_or bytes i 0 < 128 = rw none at (rw (get_or-drop i bytes 0 0) at first) in
    let other : get_or bytes (i + (m + 1)) 0 < 128 = rw (get_or-drop i bytes (m + 1) 0) at later in
    let there : i + (m + 1) < length bytes = omega (arith, within, length-drop i bytes) in
    let between = IsUtf8-between bytes (i + 1) (i + (m + 1)) u (omega arith) (IsCharBoundary-after_ascii bytes i u h low) (IsCharBoundary-before_ascii bytes (i + (m + 1)) there other) in
    let len : i + (m + 1) - (i + 1) ≡ m = omega arith in
    let same : drop 1 (drop i bytes) ≡ drop (i + 1) bytes = grind (arith, common_steps) in
    let P : List ℕ → Type 0 = λ l. IsUtf8 (take m l) in
    subst P (sym same) (rw len at between)

-- a token of a text is spelled as its kind is
pub token_is_spelled : (bytes : List ℕ) (offset n : ℕ) (kind : TokenKind) → IsUtf8 bytes → piece_of (drop offset bytes) ≡ Lexeme kind n → (0 < n) × (offset + n ≤ length bytes) → IsSpelled kind (slice_range bytes offset (offset + n))
token_is_spelled bytes offset n kind u is within =
    let len : n ≡ offset + n - offset = omega arith in
    let P : ℕ → Type 0 = λ l. IsSpelled kind (take l (drop offset bytes)) in
    subst P len (piece_spelled (drop offset bytes) kind n (cuts_at bytes offset u (omega (arith, within))) is)

pub spelled_from : (bytes : List ℕ) (offset : ℕ) (tokens : List Token) → IsUtf8 bytes → HasTokens bytes offset tokens → AllByRecursion (λ token. IsSpelled token.kind (slice_range bytes token.start token.end)) tokens
spelled_from bytes offset tokens u (at_end _ _ is nil) = rw nil tt
spelled_from bytes offset tokens u (past_blank _ n next _ is w e d) = spelled_from bytes next tokens u d
spelled_from bytes offset tokens u (past_lexeme _ n next kind _ following is w e t d) =
    let P : List Token → Type 0 = λ ts. AllByRecursion (λ token. IsSpelled token.kind (slice_range bytes token.start token.end)) ts in
    subst P (sym t) (token_is_spelled bytes offset n kind u is w, spelled_from bytes next following u d)

pub tokens_are_spelled : (bytes : List ℕ) (offset : ℕ) (tokens : List Token) → IsUtf8 bytes → HasTokens bytes offset tokens → All (λ token. IsSpelled token.kind (slice_range bytes token.start token.end)) tokens
tokens_are_spelled bytes offset tokens u h =
    All-from_recursion (λ (token : Token). IsSpelled token.kind (slice_range bytes token.start token.end)) tokens (spelled_from bytes offset tokens u h)
