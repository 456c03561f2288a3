-- What contracts see of lexemes, tokens and cursors: those of the grammar.
use Rattle.std.specs.Prelude.{ℕ, List, map, Option, Some, None, if◌then◌else◌}
use Rattle.qml_grammar.specs.Inputs.{Input}
use Rattle.qml_ast.specs.declared.expr.Expr.{Expr}
use Rattle.qml_ast.specs.declared.expr.Expr.TheVariants.{Lit, Name}
use Rattle.qml_grammar.specs.Lexemes.{Lexeme, Token, value_of_lexeme, operand_name_of_lexeme, plain, word, integer, decimal, text, mark}
use Rattle.qml_grammar.specs.Words.{word_text, is_ordinary}
use Rattle.qml_grammar.specs.declared.word.Word.{Word as AnyWord}
use Rattle.qml_expr.specs.declared.lexeme.Lexeme.{Lexeme as HeldLexeme}
use Rattle.qml_expr.specs.declared.lexeme.Lexeme.TheVariants.{Plain, Word, Integer, Decimal, Text, Mark}
use Rattle.qml_expr.specs.declared.token.Token.{Token as HeldToken}
use Rattle.qml_expr.specs.declared.cursor.Cursor.{Cursor}

-- what a token says, as the grammar has it
abbrev pub lexeme_of : HeldLexeme → Lexeme
lexeme_of (Plain name) = plain name
lexeme_of (Word w) = word w
lexeme_of (Integer n) = integer n
lexeme_of (Decimal whole part) = decimal whole part
lexeme_of (Text t) = text t
lexeme_of (Mark m) = mark m

-- a token, as the grammar has it
abbrev pub token_of : HeldToken → Token
token_of t = record { lexeme = lexeme_of t.lexeme; span = t.span }

-- tokens, as the grammar has them
abbrev pub tokens_of : List HeldToken → List Token
tokens_of = map token_of

-- what a cursor has still to read
unfoldable pub input_of : Cursor → Input
input_of c = record { rest = tokens_of c.rest.now; end = c.end; nodes = c.nodes }

-- the name that a word is where an expression begins
abbrev pub ordinary_name : AnyWord → Option (List ℕ)
ordinary_name w = if is_ordinary w then Some (word_text w) else None

-- the expression that a lexeme alone is
abbrev pub atom_of_lexeme : Lexeme → Option Expr
atom_of_lexeme l = elim (value_of_lexeme l) [ Some v ↦ Some (Lit v) | None ↦ elim (operand_name_of_lexeme l) [ Some n ↦ Some (Name n) | None ↦ None ] ]
