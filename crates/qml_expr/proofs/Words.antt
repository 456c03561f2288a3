-- The text of a word is short, and two words are the same where their numbers are.
use Rattle.std.proofs.Common.{◌≡◌, ◌≤◌, ℕ, true, List, [], ◌∷◌, length, get_or, lit≤, refl, ap, sym, ◌∙◌, arith}
use Rattle.qml_grammar.specs.Words.{word_text, word_number, same_word}
use Rattle.qml_grammar.specs.declared.word.Word.{Word}
use Rattle.qml_grammar.specs.declared.word.Word.TheVariants.{Var, Let, Const, If, Else, While, For, Return, True, False, Null, Undefined, Function, Switch, Do, Break, Continue, Try, Throw, New, Delete, TypeOf, InstanceOf, In, Void, With, Class, This, Id, Property, ReadOnly, Signal, Default, Enum, Required, Alias, On, Import, As}

pub word_text_short : (w : Word) → length (word_text w) ≤ 65536
unfolding word_text
word_text_short Var = lit≤ tt
word_text_short Let = lit≤ tt
word_text_short Const = lit≤ tt
word_text_short If = lit≤ tt
word_text_short Else = lit≤ tt
word_text_short While = lit≤ tt
word_text_short For = lit≤ tt
word_text_short Return = lit≤ tt
word_text_short True = lit≤ tt
word_text_short False = lit≤ tt
word_text_short Null = lit≤ tt
word_text_short Undefined = lit≤ tt
word_text_short Function = lit≤ tt
word_text_short Switch = lit≤ tt
word_text_short Do = lit≤ tt
word_text_short Break = lit≤ tt
word_text_short Continue = lit≤ tt
word_text_short Try = lit≤ tt
word_text_short Throw = lit≤ tt
word_text_short New = lit≤ tt
word_text_short Delete = lit≤ tt
word_text_short TypeOf = lit≤ tt
word_text_short InstanceOf = lit≤ tt
word_text_short In = lit≤ tt
word_text_short Void = lit≤ tt
word_text_short With = lit≤ tt
word_text_short Class = lit≤ tt
word_text_short This = lit≤ tt
word_text_short Id = lit≤ tt
word_text_short Property = lit≤ tt
word_text_short ReadOnly = lit≤ tt
word_text_short Signal = lit≤ tt
word_text_short Default = lit≤ tt
word_text_short Enum = lit≤ tt
word_text_short Required = lit≤ tt
word_text_short Alias = lit≤ tt
word_text_short On = lit≤ tt
word_text_short Import = lit≤ tt
word_text_short As = lit≤ tt

-- the word of a number
abbrev in_order : List Word
in_order = Var ∷ Let ∷ Const ∷ If ∷ Else ∷ While ∷ For ∷ Return ∷ True ∷ False ∷ Null ∷ Undefined ∷ Function ∷ Switch ∷ Do ∷ Break ∷ Continue ∷ Try ∷ Throw ∷ New ∷ Delete ∷ TypeOf ∷ InstanceOf ∷ In ∷ Void ∷ With ∷ Class ∷ This ∷ Id ∷ Property ∷ ReadOnly ∷ Signal ∷ Default ∷ Enum ∷ Required ∷ Alias ∷ On ∷ Import ∷ As ∷ []

word_back : (w : Word) → get_or in_order (word_number w) Var ≡ w
unfolding word_number
word_back Var = refl
word_back Let = refl
word_back Const = refl
word_back If = refl
word_back Else = refl
word_back While = refl
word_back For = refl
word_back Return = refl
word_back True = refl
word_back False = refl
word_back Null = refl
word_back Undefined = refl
word_back Function = refl
word_back Switch = refl
word_back Do = refl
word_back Break = refl
word_back Continue = refl
word_back Try = refl
word_back Throw = refl
word_back New = refl
word_back Delete = refl
word_back TypeOf = refl
word_back InstanceOf = refl
word_back In = refl
word_back Void = refl
word_back With = refl
word_back Class = refl
word_back This = refl
word_back Id = refl
word_back Property = refl
word_back ReadOnly = refl
word_back Signal = refl
word_back Default = refl
word_back Enum = refl
word_back Required = refl
word_back Alias = refl
word_back On = refl
word_back Import = refl
word_back As = refl

pub same_word_refl : (w : Word) → same_word w w ≡ true
unfolding same_word word_number
same_word_refl Var = refl
same_word_refl Let = refl
same_word_refl Const = refl
same_word_refl If = refl
same_word_refl Else = refl
same_word_refl While = refl
same_word_refl For = refl
same_word_refl Return = refl
same_word_refl True = refl
same_word_refl False = refl
same_word_refl Null = refl
same_word_refl Undefined = refl
same_word_refl Function = refl
same_word_refl Switch = refl
same_word_refl Do = refl
same_word_refl Break = refl
same_word_refl Continue = refl
same_word_refl Try = refl
same_word_refl Throw = refl
same_word_refl New = refl
same_word_refl Delete = refl
same_word_refl TypeOf = refl
same_word_refl InstanceOf = refl
same_word_refl In = refl
same_word_refl Void = refl
same_word_refl With = refl
same_word_refl Class = refl
same_word_refl This = refl
same_word_refl Id = refl
same_word_refl Property = refl
same_word_refl ReadOnly = refl
same_word_refl Signal = refl
same_word_refl Default = refl
same_word_refl Enum = refl
same_word_refl Required = refl
same_word_refl Alias = refl
same_word_refl On = refl
same_word_refl Import = refl
same_word_refl As = refl

number_equal : (v w : Word) → word_number v ≡ word_number w → v ≡ w
number_equal v w e = sym (word_back v) ∙ ap (λ (k : ℕ). get_or in_order k Var) e ∙ word_back w

pub same_word_equal : (v w : Word) → same_word v w ≡ true → v ≡ w
unfolding same_word
same_word_equal v w h = number_equal v w (grind arith)
