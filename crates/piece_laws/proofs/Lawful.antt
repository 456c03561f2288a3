-- The tokens of a text can be spelled.
use Rattle.std.proofs.Common.{◌≡◌, ℕ, ◌≤◌, Bool, true, false, cond, ◌&&◌, leb, leb-true, List, drop, Option, None, Some, refl, sym, subst, arith}
use Rattle.std.specs.Prelude.{slice_range, nat_eq, codes}
use Rattle.std.specs.List.{AllByRecursion, starts_with}
use Rattle.std.specs.Str.Parse.{digits_value}
use Rattle.qml_grammar.specs.Lexemes.{Lexeme, plain, word, Token, lexeme_of_name}
use Rattle.qml_grammar.specs.Words.{word_of}
use Rattle.qml_grammar.specs.declared.word.Word.{Word}
use Rattle.qml_lex.specs.Meaning.{IsSpelled, IsName}
use Rattle.qml_lex.specs.Numbers.{are_digits, integer_of, number_of, has_leading_zero}
use Rattle.qml_lex.specs.Reading.{first_offset}
use Rattle.qml_lex.specs.declared.token.Token.{Token as LexedToken}
use Rattle.qml_lex.specs.declared.token.TokenKind.{TokenKind}
use Rattle.qml_lex.specs.declared.token.TokenKind.TheVariants.{Name, Integer, Decimal, Text, Mark}
use Rattle.qml_lex.proofs.Spelling.{spelled_from}
use Rattle.qml_tokens.specs.Spelled.{Says, AreTokensOf, none, more, HasTokens}
use Rattle.piece_laws.specs.Pieces.{IsLawfulLexeme, AreLawfulTokens}

-- Names

name_at : (n : List ℕ) (l : Lexeme) (o : Option Word) → word_of n ≡ o → IsName n → l ≡ elim o [ Some w ↦ word w | None ↦ plain n ] → IsLawfulLexeme l
name_at n l (Some w) e is says = let P : Lexeme → Type 0 = λ k. IsLawfulLexeme k in subst P (sym says) tt
name_at n l None e is says = let P : Lexeme → Type 0 = λ k. IsLawfulLexeme k in subst P (sym says) (is, e)

name_is_lawful : (n : List ℕ) (l : Lexeme) → IsName n → l ≡ lexeme_of_name n → IsLawfulLexeme l
unfolding lexeme_of_name
name_is_lawful n l is says = name_at n l (word_of n) refl is says

-- Integers

number_in_range : (a : Bool) (v n : ℕ) → cond (a && leb v 2147483647) (Some v) None ≡ Some n → n ≤ 2147483647
number_in_range true v n h = in_range (leb v 2147483647) refl h
  where
    in_range : (b : Bool) → leb v 2147483647 ≡ b → cond b (Some v) None ≡ Some n → n ≤ 2147483647
    in_range true fits g = let same : v ≡ n = cc in omega (arith, leb-true v 2147483647 fits)
    in_range false fits g = let no : ⊥ = cc in absurd no
number_in_range false v n h = let no : ⊥ = cc in absurd no

number_of_in_range : (base : ℕ) (s : List ℕ) (n : ℕ) → number_of base s ≡ Some n → n ≤ 2147483647
unfolding number_of
number_of_in_range base s n h = number_in_range (are_digits base s) (digits_value base s) n h

integer_at : (hex zero_first : Bool) (a b : Option ℕ) (n : ℕ) → (a ≡ Some n → n ≤ 2147483647) → (b ≡ Some n → n ≤ 2147483647) → cond hex a (cond zero_first None b) ≡ Some n → n ≤ 2147483647
integer_at true z a b n f g h = f h
integer_at false true a b n f g h = let no : ⊥ = cc in absurd no
integer_at false false a b n f g h = g h

integer_in_range : (s : List ℕ) (n : ℕ) → integer_of s ≡ Some n → n ≤ 2147483647
unfolding integer_of
integer_in_range s n h =
    integer_at (starts_with nat_eq s (codes "0x")) (has_leading_zero s) (number_of 16 (drop 2 s)) (number_of 10 s) n
    (λ e. number_of_in_range 16 (drop 2 s) n e) (λ e. number_of_in_range 10 s n e) h

-- Every token

lexeme_is_lawful : (kind : TokenKind) (s : List ℕ) (l : Lexeme) → IsSpelled kind s → Says kind s l → IsLawfulLexeme l
lexeme_is_lawful Name s l is says = name_is_lawful s l is says
lexeme_is_lawful Integer s l is says =
    let P : Lexeme → Type 0 = λ k. IsLawfulLexeme k in subst P (sym says.2) (integer_in_range s says.0 says.1)
lexeme_is_lawful Decimal s l is says =
    let P : Lexeme → Type 0 = λ k. IsLawfulLexeme k in subst P (sym says) (omega arith, omega arith)
lexeme_is_lawful Text s l is says =
    let P : Lexeme → Type 0 = λ k. IsLawfulLexeme k in subst P (sym says) (is.utf8, is.short)
lexeme_is_lawful Mark s l is says =
    let P : Lexeme → Type 0 = λ k. IsLawfulLexeme k in subst P (sym says.2) tt

-- the tokens of tokens that are spelled
each_is_lawful : (bytes : List ℕ) (lexed : List LexedToken) (ts : List Token) → AllByRecursion (λ token. IsSpelled token.kind (slice_range bytes token.start token.end)) lexed → AreTokensOf bytes lexed ts → AreLawfulTokens ts
each_is_lawful bytes lexed ts all (none e f) = rw f tt
each_is_lawful bytes lexed ts all (more l ls t us e f is are) =
    let P : List LexedToken → Type 0 = λ tokens. AllByRecursion (λ token. IsSpelled token.kind (slice_range bytes token.start token.end)) tokens in
    let Q : List Token → Type 0 = λ tokens. AreLawfulTokens tokens in
    let here = subst P e all in
    subst Q (sym f) (lexeme_is_lawful l.kind (slice_range bytes l.start l.end) t.lexeme here.0 is.says, each_is_lawful bytes ls us here.1 are)

pub tokens_are_lawful : (bytes : List ℕ) (ts : List Token) → HasTokens bytes ts → AreLawfulTokens ts
tokens_are_lawful bytes ts has =
    each_is_lawful bytes has.lexed ts (spelled_from bytes (first_offset bytes) has.lexed has.read.utf8 has.read.tokens_are) has.are
