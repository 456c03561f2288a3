-- Names and words are lexed to themselves.
use Rattle.std.proofs.Common.{◌≡◌, ℕ, ◌≤◌, true, false, le-leb, List, [], ◌∷◌, ◌++◌, length, None, Some, refl, ◌∙◌, arith}
use Rattle.std.specs.List.{prefix_len}
use Rattle.std.proofs.lemmas.Bool.Decides.{nat_tests}
use Rattle.qml_grammar.specs.Lexemes.{lexeme_of_name, plain, word}
use Rattle.qml_grammar.specs.Words.{word_text, word_of}
use Rattle.qml_grammar.specs.declared.word.Word.{Word}
use Rattle.qml_grammar.specs.declared.word.Word.TheVariants.{Var}
use Rattle.qml_lex.specs.Bytes.{is_letter, is_word, is_blank}
use Rattle.qml_lex.specs.Meaning.{IsName}
use Rattle.qml_lex.specs.Pieces.{piece_of, name_piece}
use Rattle.qml_lex.specs.declared.piece.Piece.TheVariants.{Lexeme as Found}
use Rattle.qml_lex.specs.declared.token.TokenKind.TheVariants.{Name}
use Rattle.piece_laws.proofs.Fronts.{front_len}

letter_is_no_blank : (byte : ℕ) → is_letter byte ≡ true → is_blank byte ≡ false
letter_is_no_blank byte h = grind (arith, nat_tests)

name_begins : (byte : ℕ) (s : List ℕ) → is_letter byte ≡ true → piece_of (byte ∷ s) ≡ name_piece (byte ∷ s)
unfolding piece_of
name_begins byte s letter = rw (letter_is_no_blank byte letter, letter) refl

name_of_len : (text : List ℕ) (n : ℕ) → prefix_len is_word text ≡ n → n ≤ 65536 → name_piece text ≡ Found Name n
unfolding name_piece
name_of_len text n is short = rw (is, le-leb n 65536 short) refl

-- a name before what does not go on with it
pub name_is_lexed : (n rest : List ℕ) → IsName n → prefix_len is_word rest ≡ 0 → piece_of (n ++ rest) ≡ Found Name (length n)
name_is_lexed [] rest is none = absurd (omega (arith, is.some))
name_is_lexed (byte ∷ s) rest is none =
    let len : prefix_len is_word (byte ∷ (s ++ rest)) ≡ length (byte ∷ s) = front_len is_word (byte ∷ s) rest is.word none in
    name_begins byte (s ++ rest) is.first ∙ name_of_len (byte ∷ (s ++ rest)) (length (byte ∷ s)) len is.short

-- a word is the one that it is written as
pub word_of_its_text : (w : Word) → word_of (word_text w) ≡ Some w
unfolding word_of word_text
word_of_its_text Var = refl
word_of_its_text _ = refl

pub word_is_name : (w : Word) → IsName (word_text w)
unfolding word_text
word_is_name Var = record { some = omega arith; first = refl; word = refl; short = omega arith }
word_is_name _ = record { some = omega arith; first = refl; word = refl; short = omega arith }

pub says_plain : (n : List ℕ) → word_of n ≡ None → lexeme_of_name n ≡ plain n
unfolding lexeme_of_name
says_plain n is = rw (is, lexeme_of_name) refl

pub says_word : (w : Word) → lexeme_of_name (word_text w) ≡ word w
unfolding lexeme_of_name
says_word w = rw (word_of_its_text w, lexeme_of_name) refl
