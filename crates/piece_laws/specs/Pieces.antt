-- Texts made of tokens in their canonical spelling, single spaces and line ends.
use Rattle.std.specs.Prelude.{◌≡◌, ℕ, suc, ◌+◌, ◌*◌, ◌≤◌, ◌&&◌, ◌||◌, not, Bool, true, false, List, [], ◌∷◌, ◌++◌, length, replicate, flat_map, None, codes, decimal as decimal_text, IsUtf8}
use Rattle.qml_ast.specs.declared.span.Span.{Span}
use Rattle.qml_grammar.specs.CanonicalExpressions.{quoted}
use Rattle.qml_grammar.specs.Lexemes.{Lexeme, plain, word, integer, decimal, text, mark, Token}
use Rattle.qml_grammar.specs.Marks.{mark_text, same_mark}
use Rattle.qml_grammar.specs.Words.{word_text, word_of}
use Rattle.qml_grammar.specs.declared.mark.Mark.{Mark}
use Rattle.qml_grammar.specs.declared.mark.Mark.TheVariants.{Dot, Bang, Plus, Minus, DoublePlus, DoubleMinus, Equal, EqualEqual, TripleEqual, Star, Slash, Less, Greater, LessEqual, GreaterEqual, BangEqual, BangDoubleEqual, DoubleAmpersand, DoubleBar, Percent, PlusEqual, MinusEqual, StarEqual, SlashEqual}
use Rattle.qml_lex.specs.Meaning.{IsName}

pub data Piece : Type 0 where
  token : Lexeme → Piece
  -- one space
  space : Piece
  -- a line end, and an indentation of so many levels of four spaces
  line : ℕ → Piece

-- the canonical spelling of a token
abbrev pub lexeme_text : Lexeme → List ℕ
lexeme_text (plain n) = n
lexeme_text (word w) = word_text w
lexeme_text (integer n) = decimal_text n
lexeme_text (decimal whole part) = decimal_text whole ++ (codes "." ++ decimal_text part)
lexeme_text (text s) = quoted s
lexeme_text (mark m) = mark_text m

abbrev pub piece_text : Piece → List ℕ
piece_text (token l) = lexeme_text l
piece_text space = codes " "
piece_text (line levels) = 10 ∷ replicate (4 * levels) 32

-- the text that the pieces are
abbrev pub pieces_text : List Piece → List ℕ
pieces_text ps = flat_map piece_text ps

-- Places

-- so many bytes further on the line
abbrev pub along : ℕ → Span → Span
along n at = record { line = at.line; col = at.col + n }

-- the place behind a piece that begins there
abbrev pub past : Span → Piece → Span
past at (token l) = along (length (lexeme_text l)) at
past at space = along 1 at
past at (line levels) = record { line = suc at.line; col = 4 * levels + 1 }

-- the place behind pieces the first of which begins there
abbrev pub past_all : Span → List Piece → Span
past_all at [] = at
past_all at (p ∷ ps) = past_all (past at p) ps

-- the tokens of pieces the first of which begins there
abbrev pub placed : Span → List Piece → List Token
placed at [] = []
placed at (token l ∷ ps) = record { lexeme = l; span = at } ∷ placed (past at (token l)) ps
placed at (space ∷ ps) = placed (past at space) ps
placed at (line levels ∷ ps) = placed (past at (line levels)) ps

-- What may stand directly beside what

-- a mark that is an operator or a part of one
abbrev pub is_operator_mark : Mark → Bool
is_operator_mark m = same_mark m Bang || same_mark m Plus || same_mark m Minus || same_mark m DoublePlus || same_mark m DoubleMinus || same_mark m Equal || same_mark m EqualEqual || same_mark m TripleEqual || same_mark m Star || same_mark m Slash || same_mark m Less || same_mark m Greater || same_mark m LessEqual || same_mark m GreaterEqual || same_mark m BangEqual || same_mark m BangDoubleEqual || same_mark m DoubleAmpersand || same_mark m DoubleBar || same_mark m Percent || same_mark m PlusEqual || same_mark m MinusEqual || same_mark m StarEqual || same_mark m SlashEqual

-- one of the operators before an operand
abbrev pub is_sign : Mark → Bool
is_sign m = same_mark m Bang || same_mark m Plus || same_mark m Minus

-- the two marks are no longer one, nor the beginning of one or of a comment
abbrev pub are_apart : Mark → Mark → Bool
are_apart m n = not (is_operator_mark m) || not (is_operator_mark n) || is_sign m && is_sign n && (same_mark m Bang || not (same_mark m n))

abbrev pub is_mark_piece : Lexeme → Bool
is_mark_piece (mark m) = true
is_mark_piece _ = false

abbrev pub is_number : Lexeme → Bool
is_number (integer n) = true
is_number (decimal whole part) = true
is_number _ = false

-- the one token may stand directly before the other one
abbrev pub may_touch : Lexeme → Lexeme → Bool
may_touch (mark m) (mark n) = are_apart m n
may_touch (mark m) l = not (same_mark m Dot && is_number l)
may_touch (text s) l = true
may_touch k l = is_mark_piece l

-- the one piece may stand directly before the other one
abbrev pub may_stand_before : Piece → Piece → Bool
may_stand_before (token k) (token l) = may_touch k l
may_stand_before (token k) _ = true
may_stand_before _ (token l) = true
may_stand_before _ _ = false

-- each piece may stand before the next one
abbrev pub are_spaced : List Piece → Bool
are_spaced [] = true
are_spaced (p ∷ []) = true
are_spaced (p ∷ q ∷ ps) = may_stand_before p q && are_spaced (q ∷ ps)

-- some text has such a token
abbrev pub IsLawfulLexeme : Lexeme → Type 0
IsLawfulLexeme (plain n) = IsName n × (word_of n ≡ None)
IsLawfulLexeme (word w) = Unit {0}
IsLawfulLexeme (integer n) = n ≤ 2147483647
IsLawfulLexeme (decimal whole part) = (whole ≤ 2147483647) × (part ≤ 2147483647)
IsLawfulLexeme (text s) = IsUtf8 s × (length s ≤ 65536)
IsLawfulLexeme (mark m) = Unit {0}

abbrev pub IsLawfulPiece : Piece → Type 0
IsLawfulPiece (token l) = IsLawfulLexeme l
IsLawfulPiece _ = Unit {0}

abbrev pub AreLawfulPieces : List Piece → Type 0
AreLawfulPieces [] = Unit {0}
AreLawfulPieces (p ∷ ps) = IsLawfulPiece p × AreLawfulPieces ps

abbrev pub AreLawfulTokens : List Token → Type 0
AreLawfulTokens [] = Unit {0}
AreLawfulTokens (t ∷ ts) = IsLawfulLexeme t.lexeme × AreLawfulTokens ts

-- where a text begins
abbrev pub start : Span
start = record { line = 1; col = 1 }
