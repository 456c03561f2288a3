-- The tokens of a document, and tests on single ones. What is tested may be missing, at the end.
use Rattle.std.specs.Prelude.{ℕ, pred, ◌==◌, ◌||◌, Bool, true, false, pos, if◌then◌else◌, List, [], ◌∷◌, length, slice_get, Option, Some, None, is_some}
use Rattle.qml_ast.specs.declared.expr.BinOp.{BinOp}
use Rattle.qml_ast.specs.declared.expr.BinOp.TheVariants.{Add, Sub, Mul, Div, Rem, Lt, Le, Gt, Ge, Eq, Ne, Eq3, Ne3}
use Rattle.qml_ast.specs.declared.expr.Expr.{Expr}
use Rattle.qml_ast.specs.declared.expr.Expr.TheVariants.{Lit, Name}
use Rattle.qml_ast.specs.declared.expr.UnOp.{UnOp}
use Rattle.qml_ast.specs.declared.expr.UnOp.TheVariants.{Neg, Plus as Posit, Not}
use Rattle.qml_ast.specs.declared.span.Span.{Span}
use Rattle.qml_ast.specs.declared.stmt.AssignOp.{AssignOp}
use Rattle.qml_ast.specs.declared.stmt.AssignOp.TheVariants.{Set, Add as AddTo, Sub as SubFrom, Mul as MulBy, Div as DivBy}
use Rattle.qml_ast.specs.declared.stmt.LocalWord.{LocalWord}
use Rattle.qml_ast.specs.declared.stmt.LocalWord.TheVariants.{Var as AsVar, Let as AsLet, Const as AsConst}
use Rattle.qml_ast.specs.declared.value.Value.{Value}
use Rattle.qml_ast.specs.declared.value.Value.TheVariants.{Int, Bool as Flag, Str, Obj, Line}
use Rattle.qml_grammar.specs.Marks.{same_mark}
use Rattle.qml_grammar.specs.Words.{word_text, word_of, same_word, is_ordinary, is_unsupported}
use Rattle.qml_grammar.specs.declared.mark.Mark.{Mark}
use Rattle.qml_grammar.specs.declared.mark.Mark.TheVariants.{OpenBrace, OpenBracket, Plus, Minus, Star, Slash, Percent, Bang, Less, Greater, LessEqual, GreaterEqual, EqualEqual, BangEqual, TripleEqual, BangDoubleEqual, Equal, PlusEqual, MinusEqual, StarEqual, SlashEqual, DoublePlus, DoubleMinus}
use Rattle.qml_grammar.specs.declared.word.Word.{Word}
use Rattle.qml_grammar.specs.declared.word.Word.TheVariants.{True, False, Null, Undefined, Var, Let, Const}

-- what a token says
pub data Lexeme : Type 0 where
  -- a name that is no word
  plain : List ℕ → Lexeme
  word : Word → Lexeme
  -- its value
  integer : ℕ → Lexeme
  -- the values of the digits before and after the dot
  decimal : ℕ → ℕ → Lexeme
  -- its value
  text : List ℕ → Lexeme
  mark : Mark → Lexeme

pub record Token : Type 0 where
  pub lexeme : Lexeme
  pub span : Span

abbrev pub head : List Token → Option Token
head [] = None
head (t ∷ ts) = Some t

abbrev pub tail : List Token → List Token
tail [] = []
tail (t ∷ ts) = ts

abbrev pub last_of : List Token → Option Token
last_of ts = slice_get ts (pred (length ts))

-- Names and words

-- what a name says
unfoldable pub lexeme_of_name : List ℕ → Lexeme
lexeme_of_name name = elim (word_of name) [ Some w ↦ word w | None ↦ plain name ]

abbrev pub is_word_lexeme : Word → Lexeme → Bool
is_word_lexeme w (word v) = same_word w v
is_word_lexeme w _ = false

abbrev pub is_word : Word → Option Token → Bool
is_word w None = false
is_word w (Some t) = is_word_lexeme w t.lexeme

-- the name that a lexeme is where neither an expression nor a statement begins
abbrev pub name_of_lexeme : Lexeme → Option (List ℕ)
name_of_lexeme (plain n) = Some n
name_of_lexeme (word w) = Some (word_text w)
name_of_lexeme _ = None

abbrev pub name_of : Option Token → Option (List ℕ)
name_of None = None
name_of (Some t) = name_of_lexeme t.lexeme

abbrev pub is_name : Option Token → Bool
is_name t = is_some (name_of t)

-- the name that a lexeme is where an expression or a statement begins
abbrev pub operand_name_of_lexeme : Lexeme → Option (List ℕ)
operand_name_of_lexeme (plain n) = Some n
operand_name_of_lexeme (word w) = if is_ordinary w then Some (word_text w) else None
operand_name_of_lexeme _ = None

abbrev pub operand_name_of : Option Token → Option (List ℕ)
operand_name_of None = None
operand_name_of (Some t) = operand_name_of_lexeme t.lexeme

-- the word that declares a local
abbrev pub local_word_of_word : Word → Option LocalWord
local_word_of_word Var = Some AsVar
local_word_of_word Let = Some AsLet
local_word_of_word Const = Some AsConst
local_word_of_word _ = None

abbrev pub local_word_of : Option Token → Option LocalWord
local_word_of None = None
local_word_of (Some t) = elim t.lexeme [ word w ↦ local_word_of_word w | _ ↦ None ]

-- Lines

-- the one token begins on the line of the other one
abbrev pub same_line : Option Token → Option Token → Bool
same_line (Some s) (Some t) = s.span.line == t.span.line
same_line _ _ = false

-- Literals

abbrev pub value_of_word : Word → Option Value
value_of_word True = Some (Flag true)
value_of_word False = Some (Flag false)
value_of_word Null = Some (Obj 0)
value_of_word Undefined = Some (Line None)
value_of_word _ = None

abbrev pub value_of_lexeme : Lexeme → Option Value
value_of_lexeme (integer n) = Some (Int (pos n))
value_of_lexeme (text s) = Some (Str s)
value_of_lexeme (word w) = value_of_word w
value_of_lexeme _ = None

abbrev pub value_of : Option Token → Option Value
value_of None = None
value_of (Some t) = value_of_lexeme t.lexeme

-- the expression that one token alone is
abbrev pub atom_of : Option Token → Option Expr
atom_of t = elim (value_of t) [ Some v ↦ Some (Lit v) | None ↦ elim (operand_name_of t) [ Some n ↦ Some (Name n) | None ↦ None ] ]

-- Marks

abbrev pub is_mark_lexeme : Mark → Lexeme → Bool
is_mark_lexeme m (mark n) = same_mark m n
is_mark_lexeme m _ = false

abbrev pub is_mark : Mark → Option Token → Bool
is_mark m None = false
is_mark m (Some t) = is_mark_lexeme m t.lexeme

-- what a table of marks has for a token
abbrev pub looked_up : {A : Type 0} → (Mark → Option A) → Option Token → Option A
looked_up table None = None
looked_up table (Some t) = elim t.lexeme [ mark m ↦ table m | _ ↦ None ]

abbrev pub unary_operator : Mark → Option UnOp
unary_operator Minus = Some Neg
unary_operator Plus = Some Posit
unary_operator Bang = Some Not
unary_operator _ = None

abbrev pub product_operator : Mark → Option BinOp
product_operator Star = Some Mul
product_operator Slash = Some Div
product_operator Percent = Some Rem
product_operator _ = None

abbrev pub sum_operator : Mark → Option BinOp
sum_operator Plus = Some Add
sum_operator Minus = Some Sub
sum_operator _ = None

abbrev pub order_operator : Mark → Option BinOp
order_operator Less = Some Lt
order_operator LessEqual = Some Le
order_operator Greater = Some Gt
order_operator GreaterEqual = Some Ge
order_operator _ = None

abbrev pub equality_operator : Mark → Option BinOp
equality_operator EqualEqual = Some Eq
equality_operator BangEqual = Some Ne
equality_operator TripleEqual = Some Eq3
equality_operator BangDoubleEqual = Some Ne3
equality_operator _ = None

abbrev pub assign_operator : Mark → Option AssignOp
assign_operator Equal = Some Set
assign_operator PlusEqual = Some AddTo
assign_operator MinusEqual = Some SubFrom
assign_operator StarEqual = Some MulBy
assign_operator SlashEqual = Some DivBy
assign_operator _ = None

-- whether it counts up
abbrev pub step_operator : Mark → Option Bool
step_operator DoublePlus = Some true
step_operator DoubleMinus = Some false
step_operator _ = None

-- What is unsupported

-- QML has it in this place or another one, and the engine has it nowhere but in the version of an import
abbrev pub is_foreign_lexeme : Lexeme → Bool
is_foreign_lexeme (mark m) = same_mark m OpenBracket
is_foreign_lexeme (decimal whole part) = true
is_foreign_lexeme _ = false

-- QML has it where an expression or a statement begins, and the engine has not
abbrev pub is_foreign_operand_lexeme : Lexeme → Bool
is_foreign_operand_lexeme (mark m) = same_mark m OpenBracket || same_mark m OpenBrace
is_foreign_operand_lexeme (decimal whole part) = true
is_foreign_operand_lexeme (word w) = is_unsupported w
is_foreign_operand_lexeme _ = false

abbrev pub is_foreign : Option Token → Bool
is_foreign None = false
is_foreign (Some t) = is_foreign_lexeme t.lexeme

abbrev pub is_foreign_operand : Option Token → Bool
is_foreign_operand None = false
is_foreign_operand (Some t) = is_foreign_operand_lexeme t.lexeme
