-- The words by their length: a name is a word of its own length, and none is shorter than two or longer than ten.
use Rattle.std.proofs.Common.{◌≡◌, ℕ, List, [], ◌∷◌, length, nat_eq, bytes_eq, find, filter, false, sym, true, refl, ap, arith}
use Rattle.std.proofs.lemmas.Slice.Eq.{bytes_eq-Decides}
use Rattle.qml_grammar.specs.declared.word.Word.{Word}
use Rattle.qml_grammar.specs.declared.word.Word.TheVariants.{If, Do, In, Id, On, As, Var, Let, For, Try, New, Else, True, Null, Void, With, This, Enum, Const, While, False, Break, Throw, Class, Alias, Return, Switch, Delete, TypeOf, Signal, Import, Default, Function, Continue, Property, ReadOnly, Required, Undefined, InstanceOf}
use Rattle.qml_grammar.specs.Words.{word_text, words_of_length, word_of, all_words}
use Rattle.qml_grammar.proofs.Looking.{find_within}

-- what a name spells has the name's length
as_long : (name : List ℕ) (w : Word) → bytes_eq (word_text w) name ≡ true → nat_eq (length (word_text w)) (length name) ≡ true
as_long name w same = grind (ap length ((bytes_eq-Decides (word_text w) name).0 same), arith)

-- the word of a name is found among those of its length
pub word_of_length : (name : List ℕ) → find (λ w. bytes_eq (word_text w) name) (words_of_length (length name)) ≡ word_of name
unfolding word_of words_of_length
word_of_length name = find_within (λ w. bytes_eq (word_text w) name) (λ w. nat_eq (length (word_text w)) (length name)) all_words (as_long name)

pub of_two : If ∷ Do ∷ In ∷ Id ∷ On ∷ As ∷ [] ≡ words_of_length 2
unfolding words_of_length word_text
of_two = refl

pub of_three : Var ∷ Let ∷ For ∷ Try ∷ New ∷ [] ≡ words_of_length 3
unfolding words_of_length word_text
of_three = refl

pub of_four : Else ∷ True ∷ Null ∷ Void ∷ With ∷ This ∷ Enum ∷ [] ≡ words_of_length 4
unfolding words_of_length word_text
of_four = refl

pub of_five : Const ∷ While ∷ False ∷ Break ∷ Throw ∷ Class ∷ Alias ∷ [] ≡ words_of_length 5
unfolding words_of_length word_text
of_five = refl

pub of_six : Return ∷ Switch ∷ Delete ∷ TypeOf ∷ Signal ∷ Import ∷ [] ≡ words_of_length 6
unfolding words_of_length word_text
of_six = refl

pub of_seven : Default ∷ [] ≡ words_of_length 7
unfolding words_of_length word_text
of_seven = refl

pub of_eight : Function ∷ Continue ∷ Property ∷ ReadOnly ∷ Required ∷ [] ≡ words_of_length 8
unfolding words_of_length word_text
of_eight = refl

pub of_nine : Undefined ∷ [] ≡ words_of_length 9
unfolding words_of_length word_text
of_nine = refl

pub of_ten : InstanceOf ∷ [] ≡ words_of_length 10
unfolding words_of_length word_text
of_ten = refl

-- each of these has another length
abbrev AreOthers : ℕ → List Word → Type 0
AreOthers n [] = Unit
AreOthers n (w ∷ ws) = (nat_eq (length (word_text w)) n ≡ false) × AreOthers n ws

-- no word has another length than these
pub no_words : (n : ℕ) → nat_eq 2 n ≡ false → nat_eq 3 n ≡ false → nat_eq 4 n ≡ false → nat_eq 5 n ≡ false → nat_eq 6 n ≡ false → nat_eq 7 n ≡ false → nat_eq 8 n ≡ false → nat_eq 9 n ≡ false → nat_eq 10 n ≡ false → [] ≡ words_of_length n
unfolding words_of_length word_text
no_words n two three four five six seven eight nine ten = sym (none all_words (three, (three, (five, (two, (four, (five, (three, (six, (four, (five, (four, (nine, (eight, (six, (two, (five, (eight, (three, (five, (three, (six, (six, (ten, (two, (four, (four, (five, (four, (two, (eight, (eight, (six, (seven, (four, (eight, (five, (two, (six, (two, tt))))))))))))))))))))))))))))))))))))))))
  where
    none : (ws : List Word) → AreOthers n ws → filter (λ w. nat_eq (length (word_text w)) n) ws ≡ []
    none [] fail = refl
    none (w ∷ ws) fail = rw fail.0 (none ws fail.1)

pub differs : (k n : ℕ) → (n ≡ k → ⊥) → nat_eq k n ≡ false
differs k n other = grind arith
