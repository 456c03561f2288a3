-- The names that have a meaning of their own in some places.
use Rattle.std.specs.Prelude.{ℕ, ◌==◌, ◌||◌, not, Bool, true, false, List, [], ◌∷◌, Option, codes, bytes_eq, nat_eq, length, filter, find}
use Rattle.qml_grammar.specs.declared.word.Word.{Word}
use Rattle.qml_grammar.specs.declared.word.Word.TheVariants.{Var, Let, Const, If, Else, While, For, Return, True, False, Null, Undefined, Function, Switch, Do, Break, Continue, Try, Throw, New, Delete, TypeOf, InstanceOf, In, Void, With, Class, This, Id, Property, ReadOnly, Signal, Default, Enum, Required, Alias, On, Import, As}

-- how the word is written
unfoldable pub word_text : Word → List ℕ
word_text Var = codes "var"
word_text Let = codes "let"
word_text Const = codes "const"
word_text If = codes "if"
word_text Else = codes "else"
word_text While = codes "while"
word_text For = codes "for"
word_text Return = codes "return"
word_text True = codes "true"
word_text False = codes "false"
word_text Null = codes "null"
word_text Undefined = codes "undefined"
word_text Function = codes "function"
word_text Switch = codes "switch"
word_text Do = codes "do"
word_text Break = codes "break"
word_text Continue = codes "continue"
word_text Try = codes "try"
word_text Throw = codes "throw"
word_text New = codes "new"
word_text Delete = codes "delete"
word_text TypeOf = codes "typeof"
word_text InstanceOf = codes "instanceof"
word_text In = codes "in"
word_text Void = codes "void"
word_text With = codes "with"
word_text Class = codes "class"
word_text This = codes "this"
word_text Id = codes "id"
word_text Property = codes "property"
word_text ReadOnly = codes "readonly"
word_text Signal = codes "signal"
word_text Default = codes "default"
word_text Enum = codes "enum"
word_text Required = codes "required"
word_text Alias = codes "alias"
word_text On = codes "on"
word_text Import = codes "import"
word_text As = codes "as"

-- its number among the words
unfoldable pub word_number : Word → ℕ
word_number Var = 0
word_number Let = 1
word_number Const = 2
word_number If = 3
word_number Else = 4
word_number While = 5
word_number For = 6
word_number Return = 7
word_number True = 8
word_number False = 9
word_number Null = 10
word_number Undefined = 11
word_number Function = 12
word_number Switch = 13
word_number Do = 14
word_number Break = 15
word_number Continue = 16
word_number Try = 17
word_number Throw = 18
word_number New = 19
word_number Delete = 20
word_number TypeOf = 21
word_number InstanceOf = 22
word_number In = 23
word_number Void = 24
word_number With = 25
word_number Class = 26
word_number This = 27
word_number Id = 28
word_number Property = 29
word_number ReadOnly = 30
word_number Signal = 31
word_number Default = 32
word_number Enum = 33
word_number Required = 34
word_number Alias = 35
word_number On = 36
word_number Import = 37
word_number As = 38

-- both are the same word
unfoldable pub same_word : Word → Word → Bool
same_word a b = word_number a == word_number b

-- QML has it where an expression or a statement begins, and the engine has not
unfoldable pub is_unsupported : Word → Bool
is_unsupported Function = true
is_unsupported Switch = true
is_unsupported Do = true
is_unsupported Break = true
is_unsupported Continue = true
is_unsupported Try = true
is_unsupported Throw = true
is_unsupported New = true
is_unsupported Delete = true
is_unsupported TypeOf = true
is_unsupported InstanceOf = true
is_unsupported In = true
is_unsupported Void = true
is_unsupported With = true
is_unsupported Class = true
is_unsupported This = true
is_unsupported _ = false

-- it has a meaning where an expression or a statement begins
unfoldable pub is_keyword : Word → Bool
is_keyword Var = true
is_keyword Let = true
is_keyword Const = true
is_keyword If = true
is_keyword Else = true
is_keyword While = true
is_keyword For = true
is_keyword Return = true
is_keyword True = true
is_keyword False = true
is_keyword Null = true
is_keyword Undefined = true
is_keyword _ = false

-- it is a name where an expression or a statement begins
abbrev pub is_ordinary : Word → Bool
is_ordinary w = not (is_keyword w || is_unsupported w)

abbrev pub all_words : List Word
all_words = Var ∷ Let ∷ Const ∷ If ∷ Else ∷ While ∷ For ∷ Return ∷ True ∷ False ∷ Null ∷ Undefined ∷ Function ∷ Switch ∷ Do ∷ Break ∷ Continue ∷ Try ∷ Throw ∷ New ∷ Delete ∷ TypeOf ∷ InstanceOf ∷ In ∷ Void ∷ With ∷ Class ∷ This ∷ Id ∷ Property ∷ ReadOnly ∷ Signal ∷ Default ∷ Enum ∷ Required ∷ Alias ∷ On ∷ Import ∷ As ∷ []

-- the words of so many bytes
unfoldable pub words_of_length : ℕ → List Word
words_of_length n = filter (λ w. nat_eq (length (word_text w)) n) all_words

-- the word that is written so
unfoldable pub word_of : List ℕ → Option Word
word_of name = find (λ w. bytes_eq (word_text w) name) all_words
