-- What single tokens are and are not: words, marks and names exclude each other.
use Rattle.std.proofs.Common.{◌≡◌, ℕ, ◌==◌, ◌||◌, ◌≤◌, nat_le, Bool, true, false, is_some, List, [], ◌∷◌, Option, Some, None, refl, sym, ap, arith}
use Rattle.std.proofs.lemmas.Bool.{eqb-true, leb-true, and_parts}
use Rattle.qml_grammar.specs.DocumentGrammar.{IsName, is_own_word}
use Rattle.qml_grammar.specs.Documents.{is_unsupported_member, opens_or_on}
use Rattle.qml_grammar.specs.ExpressionGrammar.{IsMark}
use Rattle.qml_grammar.specs.Lexemes.{Lexeme, plain, word, mark, Token, is_word, is_word_lexeme, is_mark, is_mark_lexeme, is_name, name_of, name_of_lexeme, operand_name_of, operand_name_of_lexeme, value_of, value_of_lexeme}
use Rattle.qml_grammar.specs.Marks.{same_mark, mark_number}
use Rattle.qml_grammar.specs.Names.{is_upper, is_lower, upper_first, lower_first}
use Rattle.qml_grammar.specs.StatementGrammar.{IsWord}
use Rattle.qml_grammar.specs.Statements.{goes_on_inside}
use Rattle.qml_grammar.specs.Words.{word_text, word_number, same_word}
use Rattle.qml_grammar.specs.declared.mark.Mark.{Mark}
use Rattle.qml_grammar.specs.declared.mark.Mark.TheVariants.{OpenBrace, CloseBrace}
use Rattle.qml_grammar.specs.declared.word.Word.{Word}
use Rattle.qml_grammar.specs.declared.word.Word.TheVariants as ww

-- Words

word_like : (v w u : Word) → same_word w u ≡ true → same_word v u ≡ same_word v w
unfolding same_word
word_like v w u h = ap (λ n. word_number v == n) (sym (eqb-true (word_number w) (word_number u) h))

lexeme_word : (v w : Word) (l : Lexeme) → is_word_lexeme w l ≡ true → is_word_lexeme v l ≡ same_word v w
lexeme_word v w (word u) h = word_like v w u h
lexeme_word v w _ h = absurd cc

-- one word is another one or it is not
pub word_is : (v w : Word) (t : Token) → IsWord t w → is_word v (Some t) ≡ same_word v w
word_is v w t h = lexeme_word v w t.lexeme h

lexeme_word_named : (w : Word) (l : Lexeme) → is_word_lexeme w l ≡ true → (n : List ℕ) × (name_of_lexeme l ≡ Some n)
lexeme_word_named w (word u) h = (word_text u, refl)
lexeme_word_named w _ h = absurd cc

pub word_named : (w : Word) (t : Token) → IsWord t w → (n : List ℕ) × (name_of (Some t) ≡ Some n)
word_named w t h = lexeme_word_named w t.lexeme h

-- Marks

mark_like : (v m n : Mark) → same_mark m n ≡ true → same_mark v n ≡ same_mark v m
unfolding same_mark
mark_like v m n h = ap (λ k. mark_number v == k) (sym (eqb-true (mark_number m) (mark_number n) h))

lexeme_mark : (v m : Mark) (l : Lexeme) → is_mark_lexeme m l ≡ true → is_mark_lexeme v l ≡ same_mark v m
lexeme_mark v m (mark n) h = mark_like v m n h
lexeme_mark v m _ h = absurd cc

-- one mark is another one or it is not
pub mark_is : (v m : Mark) (t : Token) → IsMark t m → is_mark v (Some t) ≡ same_mark v m
mark_is v m t h = lexeme_mark v m t.lexeme h

lexeme_no_word : (m : Mark) (w : Word) (l : Lexeme) → is_mark_lexeme m l ≡ true → is_word_lexeme w l ≡ false
lexeme_no_word m w (mark n) h = refl
lexeme_no_word m w _ h = absurd cc

pub mark_no_word : (m : Mark) (w : Word) (t : Token) → IsMark t m → is_word w (Some t) ≡ false
mark_no_word m w t h = lexeme_no_word m w t.lexeme h

-- Names

lexeme_name_no_mark : (m : Mark) (l : Lexeme) (n : List ℕ) → name_of_lexeme l ≡ Some n → is_mark_lexeme m l ≡ false
lexeme_name_no_mark m (mark k) n h = absurd cc
lexeme_name_no_mark m _ n h = refl

pub name_no_mark : {n : List ℕ} (m : Mark) (t : Token) → IsName t n → is_mark m (Some t) ≡ false
name_no_mark {n} m t h = lexeme_name_no_mark m t.lexeme n h

lexeme_is_name_no_mark : (m : Mark) (l : Lexeme) → is_some (name_of_lexeme l) ≡ true → is_mark_lexeme m l ≡ false
lexeme_is_name_no_mark m (mark k) h = absurd cc
lexeme_is_name_no_mark m _ h = refl

pub is_name_no_mark : (m : Mark) (t : Token) → is_name (Some t) ≡ true → is_mark m (Some t) ≡ false
is_name_no_mark m t h = lexeme_is_name_no_mark m t.lexeme h

pub named_is_name : {n : List ℕ} (t : Token) → IsName t n → is_name (Some t) ≡ true
named_is_name t h = ap is_some h

pub is_name_goes_on : (t : Token) → is_name (Some t) ≡ true → goes_on_inside (Some t) ≡ true
is_name_goes_on t h = rw (is_name_no_mark CloseBrace t h) refl

word_not_upper : (w : Word) → upper_first (word_text w) ≡ false
unfolding word_text
word_not_upper ww.Var = refl
word_not_upper _ = refl

some_same : {A : Type 0} (x y : A) → ◌≡◌ {A = Option A} (Some x) (Some y) → x ≡ y
some_same x y h = cc

lexeme_upper_no_word : (w : Word) (l : Lexeme) (n : List ℕ) → name_of_lexeme l ≡ Some n → upper_first n ≡ true → is_word_lexeme w l ≡ false
lexeme_upper_no_word w (word u) n h up = absurd (let e = ap upper_first (some_same (word_text u) n h) in let f = word_not_upper u in cc)
lexeme_upper_no_word w (plain m) n h up = refl
lexeme_upper_no_word w _ n h up = absurd cc

-- a name with an upper-case first letter is no word
pub upper_no_word : {n : List ℕ} (w : Word) (t : Token) → IsName t n → upper_first n ≡ true → is_word w (Some t) ≡ false
upper_no_word {n} w t h up = lexeme_upper_no_word w t.lexeme n h up

pub upper_not_own : {n : List ℕ} (t : Token) → IsName t n → upper_first n ≡ true → is_own_word (Some t) ≡ false
upper_not_own {n} t h up = rw (upper_no_word ww.Id t h up, upper_no_word ww.Property t h up, upper_no_word ww.ReadOnly t h up, upper_no_word ww.Signal t h up, upper_no_word ww.Function t h up, upper_no_word ww.Default t h up, upper_no_word ww.Enum t h up, upper_no_word ww.Required t h up, upper_no_word ww.Else t h up) refl

lexeme_upper_operand : (l : Lexeme) (n : List ℕ) → name_of_lexeme l ≡ Some n → upper_first n ≡ true → (operand_name_of_lexeme l ≡ Some n) × (value_of_lexeme l ≡ None)
lexeme_upper_operand (word u) n h up = absurd (let e = ap upper_first (some_same (word_text u) n h) in let f = word_not_upper u in cc)
lexeme_upper_operand (plain m) n h up = (h, refl)
lexeme_upper_operand _ n h up = absurd cc

-- where an expression begins it is a name
pub upper_operand : {n : List ℕ} (t : Token) → IsName t n → upper_first n ≡ true → (operand_name_of (Some t) ≡ Some n) × (value_of (Some t) ≡ None)
upper_operand {n} t h up = lexeme_upper_operand t.lexeme n h up

letter_not_upper : (b : ℕ) → is_lower b ≡ true → is_upper b ≡ false
letter_not_upper b h = let l = and_parts (nat_le 97 b) (nat_le b 122) h in by_test (nat_le b 90) refl (leb-true 97 b l.0)
  where
    by_test : (q : Bool) → nat_le b 90 ≡ q → 97 ≤ b → is_upper b ≡ false
    by_test true e l = absurd (let f = leb-true b 90 e in omega arith)
    by_test false e l = rw e (grind arith)

-- an upper-case letter is not a lower-case one
pub lower_not_upper : (n : List ℕ) → lower_first n ≡ true → upper_first n ≡ false
lower_not_upper [] h = refl
lower_not_upper (b ∷ bs) h = letter_not_upper b h

-- Tests in a row

pub or_parts : (a b : Bool) → (a || b) ≡ false → (a ≡ false) × (b ≡ false)
or_parts true b h = absurd cc
or_parts false b h = (refl, h)

-- the first words of members, none of which the token is
pub record NotOwn (t : Option Token) : Type 0 where
  pub id : is_word ww.Id t ≡ false
  pub property : is_word ww.Property t ≡ false
  pub read_only : is_word ww.ReadOnly t ≡ false
  pub signal : is_word ww.Signal t ≡ false
  pub function : is_word ww.Function t ≡ false
  pub unsupported : is_unsupported_member t ≡ false
  pub otherwise : is_word ww.Else t ≡ false

pub not_own : (t : Option Token) → is_own_word t ≡ false → NotOwn t
not_own t h =
    let a = or_parts _ (is_word ww.Else t) h in
    let b = or_parts _ (is_word ww.Required t) a.0 in
    let c = or_parts _ (is_word ww.Enum t) b.0 in
    let d = or_parts _ (is_word ww.Default t) c.0 in
    let e = or_parts _ (is_word ww.Function t) d.0 in
    let f = or_parts _ (is_word ww.Signal t) e.0 in
    let g = or_parts _ (is_word ww.ReadOnly t) f.0 in
    let k = or_parts (is_word ww.Id t) (is_word ww.Property t) g.0 in
    record { id = k.0; property = k.1; read_only = g.1; signal = f.1; function = e.1; unsupported = rw (d.1, c.1, b.1) refl; otherwise = a.1 }

pub own_not : (t : Option Token) → NotOwn t → is_own_word t ≡ false
own_not t n =
    let a = or_parts _ (is_word ww.Required t) n.unsupported in
    let b = or_parts (is_word ww.Default t) (is_word ww.Enum t) a.0 in
    rw (n.id, n.property, n.read_only, n.signal, n.function, b.0, b.1, a.1, n.otherwise) refl

pub opens_or_on_mark : (m : Mark) (t : Token) → IsMark t m → same_mark OpenBrace m ≡ false → opens_or_on (Some t) ≡ false
opens_or_on_mark m t h e = rw (mark_is OpenBrace m t h, e, mark_no_word m ww.On t h) refl
