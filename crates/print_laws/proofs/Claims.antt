-- What is shown of each thing that tokens spell: its canonical text is the text of pieces that spell it too, with
-- at least as many levels left, wherever they begin.
use Rattle.std.proofs.Common.{◌≡◌, ℕ, zero, suc, ◌≤◌, ◌⊎◌, ◌||◌, Bool, true, is_some, List, map, codes, Option}
use Rattle.piece_laws.specs.Pieces.{Piece, pieces_text, placed}
use Rattle.qml_ast.specs.declared.expr.Expr.{Expr}
use Rattle.qml_ast.specs.declared.span.Span.{Span}
use Rattle.qml_ast.specs.declared.stmt.Stmt.{Stmt}
use Rattle.qml_grammar.specs.Canonical.{stmt_text}
use Rattle.qml_grammar.specs.CanonicalExpressions.{join, bound, printed}
use Rattle.qml_grammar.specs.ExpressionGrammar.{IsPrimary, IsPostfix, AreArguments, IsUnary, IsProduct, IsSum, IsOrder, IsEquality, IsConjunction, IsDisjunction, IsExpr}
use Rattle.qml_grammar.specs.Lexemes.{Lexeme, mark, Token, is_word, unary_operator}
use Rattle.qml_grammar.specs.Marks.{same_mark}
use Rattle.qml_grammar.specs.StatementGrammar.{IsStmt}
use Rattle.qml_grammar.specs.declared.mark.Mark.TheVariants.{OpenParen}
use Rattle.qml_grammar.specs.declared.word.Word.TheVariants.{Else}
use Rattle.print_laws.proofs.Runs.{Run}

-- Expressions

-- the tokens spell an expression that binds at least so tightly
abbrev pub IsBinding : ℕ → ℕ → ℕ → List Token → Expr → Type 0
IsBinding zero d k ts x = IsExpr d k ts x
IsBinding (suc zero) d k ts x = IsDisjunction d k ts x
IsBinding (suc (suc zero)) d k ts x = IsConjunction d k ts x
IsBinding (suc (suc (suc zero))) d k ts x = IsEquality d k ts x
IsBinding (suc (suc (suc (suc zero)))) d k ts x = IsOrder d k ts x
IsBinding (suc (suc (suc (suc (suc zero))))) d k ts x = IsSum d k ts x
IsBinding (suc (suc (suc (suc (suc (suc zero)))))) d k ts x = IsProduct d k ts x
IsBinding (suc (suc (suc (suc (suc (suc (suc zero))))))) d k ts x = IsUnary d k ts x
IsBinding (suc (suc (suc (suc (suc (suc (suc (suc zero)))))))) d k ts x = IsPostfix d k ts x
IsBinding (suc (suc (suc (suc (suc (suc (suc (suc (suc n))))))))) d k ts x = IsPrimary d k ts x

-- an expression may begin with it
abbrev pub opens : Lexeme → Bool
opens (mark m) = same_mark OpenParen m || is_some (unary_operator m)
opens _ = true

-- the pieces of a text that are this with so many levels or more
pub record Spelling (text : List ℕ) (Is : ℕ → List Token → Type 0) (d : ℕ) : Type 0 where
  pub pieces : List Piece
  pub first : Lexeme
  pub last : Lexeme
  pub run : Run first last pieces
  pub opening : opens first ≡ true
  pub text_is : pieces_text pieces ≡ text
  pub spelled : (e : ℕ) (at : Span) → d ≤ e → Is e (placed at pieces)

-- an expression as it stands
abbrev pub Bare : ℕ → ℕ → Expr → Type 0
Bare d k x = Spelling (printed x).text (λ e ts. IsBinding (printed x).strength e k ts x) d

-- an expression where only what binds as tightly as this may stand bare
abbrev pub Bound : ℕ → ℕ → ℕ → Expr → Type 0
Bound least d k x = Spelling (bound least (printed x)) (λ e ts. IsBinding least e k ts x) d

-- arguments with commas between them
abbrev pub Listed : ℕ → ℕ → List Expr → Type 0
Listed d k xs = Spelling (join (codes ", ") (map (bound 0) (map printed xs))) (λ e ts. AreArguments e k ts xs) d

-- an expression as it stands needs no more levels, where it may, and fewer where it has to stand in parentheses
pub record Printable (least d k : ℕ) (x : Expr) : Type 0 where
  pub inside : ℕ
  pub bare : Bare inside k x
  pub fits : (suc inside ≤ d) ⊎ ((least ≤ (printed x).strength) × (inside ≤ d))

-- Statements

-- the pieces of a statement at so many levels of lines, which spell it before each token that is an `else` where
-- this one is
pub record StmtSpelling (d levels : ℕ) (next : Option Token) (x : Stmt) : Type 0 where
  pub pieces : List Piece
  pub first : Lexeme
  pub last : Lexeme
  pub run : Run first last pieces
  pub text_is : pieces_text pieces ≡ stmt_text x levels
  pub spelled : (e : ℕ) (at : Span) (after : Option Token) → d ≤ e → is_word Else after ≡ is_word Else next → IsStmt 200 e (placed at pieces) after x
