-- Two marks are the same where their numbers are.
use Rattle.std.proofs.Common.{◌≡◌, ℕ, true, List, [], ◌∷◌, get_or, refl, ap, sym, ◌∙◌, arith}
use Rattle.qml_grammar.specs.Marks.{mark_number, same_mark}
use Rattle.qml_grammar.specs.declared.mark.Mark.{Mark}
use Rattle.qml_grammar.specs.declared.mark.Mark.TheVariants.{OpenBrace, CloseBrace, OpenParen, CloseParen, OpenBracket, CloseBracket, Semicolon, Colon, Comma, Dot, Question, Plus, Minus, Star, Slash, Percent, Bang, Less, Greater, LessEqual, GreaterEqual, EqualEqual, BangEqual, TripleEqual, BangDoubleEqual, DoubleAmpersand, DoubleBar, Equal, PlusEqual, MinusEqual, StarEqual, SlashEqual, DoublePlus, DoubleMinus}

-- the mark of a number
abbrev in_order : List Mark
in_order = OpenBrace ∷ CloseBrace ∷ OpenParen ∷ CloseParen ∷ OpenBracket ∷ CloseBracket ∷ Semicolon ∷ Colon ∷ Comma ∷ Dot ∷ Question ∷ Plus ∷ Minus ∷ Star ∷ Slash ∷ Percent ∷ Bang ∷ Less ∷ Greater ∷ LessEqual ∷ GreaterEqual ∷ EqualEqual ∷ BangEqual ∷ TripleEqual ∷ BangDoubleEqual ∷ DoubleAmpersand ∷ DoubleBar ∷ Equal ∷ PlusEqual ∷ MinusEqual ∷ StarEqual ∷ SlashEqual ∷ DoublePlus ∷ DoubleMinus ∷ []

mark_back : (m : Mark) → get_or in_order (mark_number m) Dot ≡ m
unfolding mark_number
mark_back OpenBrace = refl
mark_back CloseBrace = refl
mark_back OpenParen = refl
mark_back CloseParen = refl
mark_back OpenBracket = refl
mark_back CloseBracket = refl
mark_back Semicolon = refl
mark_back Colon = refl
mark_back Comma = refl
mark_back Dot = refl
mark_back Question = refl
mark_back Plus = refl
mark_back Minus = refl
mark_back Star = refl
mark_back Slash = refl
mark_back Percent = refl
mark_back Bang = refl
mark_back Less = refl
mark_back Greater = refl
mark_back LessEqual = refl
mark_back GreaterEqual = refl
mark_back EqualEqual = refl
mark_back BangEqual = refl
mark_back TripleEqual = refl
mark_back BangDoubleEqual = refl
mark_back DoubleAmpersand = refl
mark_back DoubleBar = refl
mark_back Equal = refl
mark_back PlusEqual = refl
mark_back MinusEqual = refl
mark_back StarEqual = refl
mark_back SlashEqual = refl
mark_back DoublePlus = refl
mark_back DoubleMinus = refl

pub same_mark_refl : (m : Mark) → same_mark m m ≡ true
unfolding same_mark mark_number
same_mark_refl OpenBrace = refl
same_mark_refl CloseBrace = refl
same_mark_refl OpenParen = refl
same_mark_refl CloseParen = refl
same_mark_refl OpenBracket = refl
same_mark_refl CloseBracket = refl
same_mark_refl Semicolon = refl
same_mark_refl Colon = refl
same_mark_refl Comma = refl
same_mark_refl Dot = refl
same_mark_refl Question = refl
same_mark_refl Plus = refl
same_mark_refl Minus = refl
same_mark_refl Star = refl
same_mark_refl Slash = refl
same_mark_refl Percent = refl
same_mark_refl Bang = refl
same_mark_refl Less = refl
same_mark_refl Greater = refl
same_mark_refl LessEqual = refl
same_mark_refl GreaterEqual = refl
same_mark_refl EqualEqual = refl
same_mark_refl BangEqual = refl
same_mark_refl TripleEqual = refl
same_mark_refl BangDoubleEqual = refl
same_mark_refl DoubleAmpersand = refl
same_mark_refl DoubleBar = refl
same_mark_refl Equal = refl
same_mark_refl PlusEqual = refl
same_mark_refl MinusEqual = refl
same_mark_refl StarEqual = refl
same_mark_refl SlashEqual = refl
same_mark_refl DoublePlus = refl
same_mark_refl DoubleMinus = refl

number_equal : (m n : Mark) → mark_number m ≡ mark_number n → m ≡ n
number_equal m n e = sym (mark_back m) ∙ ap (λ (k : ℕ). get_or in_order k Dot) e ∙ mark_back n

pub same_mark_equal : (m n : Mark) → same_mark m n ≡ true → m ≡ n
unfolding same_mark
same_mark_equal m n h = number_equal m n (grind arith)
