-- How an expression is read: the longest one that the tokens begin with, or the first fault. `d` is the
-- number of levels that may still be opened.
use Rattle.std.specs.Prelude.{ℕ, zero, suc, ◌||◌, Bool, is_some, if◌then◌else◌, List, [], ◌∷◌, ◌++◌, Option, Some, None, Ok, Err}
use Rattle.qml_ast.specs.declared.expr.BinOp.{BinOp}
use Rattle.qml_ast.specs.declared.expr.Expr.{Expr}
use Rattle.qml_ast.specs.declared.expr.Expr.TheVariants.{Member, Call, Unary, Binary, And, Or, Cond}
use Rattle.qml_ast.specs.declared.expr.UnOp.{UnOp}
use Rattle.qml_grammar.specs.Inputs.{Parser, ahead, after, refusal, operand_refusal, too_deep, pure, ◌>>=◌, ◌>>◌, while_next, take_token, take_node, expect, any_name}
use Rattle.qml_grammar.specs.Lexemes.{Token, is_mark, atom_of, looked_up, unary_operator, product_operator, sum_operator, order_operator, equality_operator}
use Rattle.qml_grammar.specs.declared.mark.Mark.{Mark}
use Rattle.qml_grammar.specs.declared.mark.Mark.TheVariants.{OpenParen, CloseParen, Colon, Comma, Dot, Question, DoubleAmpersand, DoubleBar}

-- what stands one level further in
pub record Inner : Type 0 where
  -- reads nothing, and refuses where no level may be opened any more
  pub enter : Parser (Unit {0})
  pub expr : Parser Expr
  pub unary : Parser Expr

-- "(" expr ")"
unfoldable pub parens : Inner → Parser Expr
parens v = do
  v.enter
  take_token
  x ← v.expr
  expect CloseParen
  pure x

-- a literal or a name
unfoldable pub atom : Parser Expr
atom i = elim (atom_of (ahead i)) [ Some x ↦ (do take_node; pure x) i | None ↦ Err (operand_refusal i) ]

unfoldable pub primary : Inner → Parser Expr
primary v i = if is_mark OpenParen (ahead i) then parens v i else atom i

-- "." Name, behind what has the member
unfoldable pub member : Expr → Parser Expr
member x = do
  take_node
  n ← any_name
  pure (Member x n)

-- one more argument, behind a comma
unfoldable pub argument : Inner → List Expr → Parser (List Expr)
argument v xs = do
  take_token
  x ← v.expr
  pure (xs ++ x ∷ [])

unfoldable pub some_arguments : Inner → Parser (List Expr)
some_arguments v = do
  x ← v.expr
  xs ← while_next (is_mark Comma) (argument v) (x ∷ [])
  expect CloseParen
  pure xs

-- arguments and ")"
unfoldable pub arguments : Inner → Parser (List Expr)
arguments v i = if is_mark CloseParen (ahead i) then Ok ([], after i) else some_arguments v i

-- "(" arguments ")", behind what is called
unfoldable pub call : Inner → Expr → Parser Expr
call v x = do
  v.enter
  take_node
  xs ← arguments v
  pure (Call x xs)

abbrev pub begins_postfix : Option Token → Bool
begins_postfix t = is_mark Dot t || is_mark OpenParen t

unfoldable pub postfix : Inner → Expr → Parser Expr
postfix v x i = if is_mark Dot (ahead i) then member x i else call v x i

-- post = prim { "." Name | "(" [ expr { "," expr } ] ")" }
unfoldable pub postfixes : Inner → Parser Expr
postfixes v = do
  x ← primary v
  while_next begins_postfix (postfix v) x

-- an operator and its operand
unfoldable pub operated : Inner → UnOp → Parser Expr
operated v op = do
  v.enter
  take_node
  x ← v.unary
  pure (Unary op x)

-- un = ( "-" | "+" | "!" ) un | post
unfoldable pub unary_in : Inner → Parser Expr
unary_in v i = elim (looked_up unary_operator (ahead i)) [ Some op ↦ operated v op i | None ↦ postfixes v i ]

-- an operator between operands and the right one, behind the left one
unfoldable pub joined : (Expr → Expr → Expr) → Parser Expr → Expr → Parser Expr
joined make operand x = do
  take_node
  y ← operand
  pure (make x y)

abbrev pub begins_operator : (Mark → Option BinOp) → Option Token → Bool
begins_operator table t = is_some (looked_up table t)

unfoldable pub operator : (Mark → Option BinOp) → Parser Expr → Expr → Parser Expr
operator table operand x i = elim (looked_up table (ahead i)) [ Some op ↦ joined (Binary op) operand x i | None ↦ Err (refusal i) ]

-- operands with operators of a table between them, from the left
unfoldable pub chain : (Mark → Option BinOp) → Parser Expr → Parser Expr
chain table operand = do
  x ← operand
  while_next (begins_operator table) (operator table operand) x

-- prod = un { ( "*" | "/" | "%" ) un }
unfoldable pub products : Inner → Parser Expr
products v = chain product_operator (unary_in v)

-- sum = prod { ( "+" | "-" ) prod }
unfoldable pub sums : Inner → Parser Expr
sums v = chain sum_operator (products v)

-- rel = sum { ( "<" | "<=" | ">" | ">=" ) sum }
unfoldable pub orders : Inner → Parser Expr
orders v = chain order_operator (sums v)

-- eq = rel { ( "==" | "!=" | "===" | "!==" ) rel }
unfoldable pub equalities : Inner → Parser Expr
equalities v = chain equality_operator (orders v)

-- and = eq { "&&" eq }
unfoldable pub conjunctions : Inner → Parser Expr
conjunctions v = do
  x ← equalities v
  while_next (is_mark DoubleAmpersand) (joined And (equalities v)) x

-- or = and { "||" and }
unfoldable pub disjunctions : Inner → Parser Expr
disjunctions v = do
  x ← conjunctions v
  while_next (is_mark DoubleBar) (joined Or (conjunctions v)) x

-- "?" expr ":" expr, behind the condition
unfoldable pub branches : Inner → Expr → Parser Expr
branches v x = do
  v.enter
  take_node
  y ← v.expr
  expect Colon
  z ← v.expr
  pure (Cond x y z)

unfoldable pub conditional : Inner → Expr → Parser Expr
conditional v x i = if is_mark Question (ahead i) then branches v x i else Ok (x, i)

-- expr = or [ "?" expr ":" expr ]
unfoldable pub expr_in : Inner → Parser Expr
expr_in v = do
  x ← disjunctions v
  conditional v x

unfoldable pub inner : ℕ → Inner
inner zero = record { enter = too_deep; expr = too_deep; unary = too_deep }
inner (suc d) = record { enter = pure tt; expr = expr_in (inner d); unary = unary_in (inner d) }

-- an expression inside another one
unfoldable pub expr : ℕ → Parser Expr
expr d = expr_in (inner d)

-- an outermost expression, of 200 nodes at most
unfoldable pub whole : ℕ → Parser Expr
whole d i = elim (expr d (record { rest = i.rest; end = i.end; nodes = 200 })) [ Ok r ↦ Ok (r.0, record { rest = (r.1).rest; end = (r.1).end; nodes = i.nodes }) | Err e ↦ Err e ]
