-- The marks of the language.
use Rattle.std.specs.Prelude.{ℕ, ◌==◌, Bool, List, [], ◌∷◌, codes}
use Rattle.qml_grammar.specs.declared.mark.Mark.{Mark}
use Rattle.qml_grammar.specs.declared.mark.Mark.TheVariants.{OpenBrace, CloseBrace, OpenParen, CloseParen, OpenBracket, CloseBracket, Semicolon, Colon, Comma, Dot, Question, Plus, Minus, Star, Slash, Percent, Bang, Less, Greater, LessEqual, GreaterEqual, EqualEqual, BangEqual, TripleEqual, BangDoubleEqual, DoubleAmpersand, DoubleBar, Equal, PlusEqual, MinusEqual, StarEqual, SlashEqual, DoublePlus, DoubleMinus}

-- how the mark is written
unfoldable pub mark_text : Mark → List ℕ
mark_text OpenBrace = codes "{"
mark_text CloseBrace = codes "}"
mark_text OpenParen = codes "("
mark_text CloseParen = codes ")"
mark_text OpenBracket = codes "["
mark_text CloseBracket = codes "]"
mark_text Semicolon = codes ";"
mark_text Colon = codes ":"
mark_text Comma = codes ","
mark_text Dot = codes "."
mark_text Question = codes "?"
mark_text Plus = codes "+"
mark_text Minus = codes "-"
mark_text Star = codes "*"
mark_text Slash = codes "/"
mark_text Percent = codes "%"
mark_text Bang = codes "!"
mark_text Less = codes "<"
mark_text Greater = codes ">"
mark_text LessEqual = codes "<="
mark_text GreaterEqual = codes ">="
mark_text EqualEqual = codes "=="
mark_text BangEqual = codes "!="
mark_text TripleEqual = codes "==="
mark_text BangDoubleEqual = codes "!=="
mark_text DoubleAmpersand = codes "&&"
mark_text DoubleBar = codes "||"
mark_text Equal = codes "="
mark_text PlusEqual = codes "+="
mark_text MinusEqual = codes "-="
mark_text StarEqual = codes "*="
mark_text SlashEqual = codes "/="
mark_text DoublePlus = codes "++"
mark_text DoubleMinus = codes "--"

-- its number among the marks
unfoldable pub mark_number : Mark → ℕ
mark_number OpenBrace = 0
mark_number CloseBrace = 1
mark_number OpenParen = 2
mark_number CloseParen = 3
mark_number OpenBracket = 4
mark_number CloseBracket = 5
mark_number Semicolon = 6
mark_number Colon = 7
mark_number Comma = 8
mark_number Dot = 9
mark_number Question = 10
mark_number Plus = 11
mark_number Minus = 12
mark_number Star = 13
mark_number Slash = 14
mark_number Percent = 15
mark_number Bang = 16
mark_number Less = 17
mark_number Greater = 18
mark_number LessEqual = 19
mark_number GreaterEqual = 20
mark_number EqualEqual = 21
mark_number BangEqual = 22
mark_number TripleEqual = 23
mark_number BangDoubleEqual = 24
mark_number DoubleAmpersand = 25
mark_number DoubleBar = 26
mark_number Equal = 27
mark_number PlusEqual = 28
mark_number MinusEqual = 29
mark_number StarEqual = 30
mark_number SlashEqual = 31
mark_number DoublePlus = 32
mark_number DoubleMinus = 33

-- both are the same mark
unfoldable pub same_mark : Mark → Mark → Bool
same_mark a b = mark_number a == mark_number b

-- the longer ones first
abbrev pub all_marks : List Mark
all_marks = TripleEqual ∷ BangDoubleEqual ∷ LessEqual ∷ GreaterEqual ∷ EqualEqual ∷ BangEqual ∷ DoubleAmpersand ∷ DoubleBar ∷ PlusEqual ∷ MinusEqual ∷ StarEqual ∷ SlashEqual ∷ DoublePlus ∷ DoubleMinus ∷ OpenBrace ∷ CloseBrace ∷ OpenParen ∷ CloseParen ∷ OpenBracket ∷ CloseBracket ∷ Semicolon ∷ Colon ∷ Comma ∷ Dot ∷ Question ∷ Plus ∷ Minus ∷ Star ∷ Slash ∷ Percent ∷ Bang ∷ Less ∷ Greater ∷ Equal ∷ []
