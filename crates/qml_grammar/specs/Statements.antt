-- How a statement is read, or its first fault. `d` is the number of levels that may still be opened.
use Rattle.std.specs.Prelude.{ℕ, zero, suc, ◌&&◌, ◌||◌, not, Bool, true, false, is_some, if◌then◌else◌, List, [], ◌∷◌, ◌++◌, Option, Some, None, Ok, Err}
use Rattle.qml_ast.specs.declared.expr.Expr.{Expr}
use Rattle.qml_ast.specs.declared.expr.Expr.TheVariants.{Name}
use Rattle.qml_ast.specs.declared.stmt.AssignOp.{AssignOp}
use Rattle.qml_ast.specs.declared.stmt.LocalWord.{LocalWord}
use Rattle.qml_ast.specs.declared.stmt.LocalWord.TheVariants.{Var as AsVar}
use Rattle.qml_ast.specs.declared.stmt.Stmt.{Stmt}
use Rattle.qml_ast.specs.declared.stmt.Stmt.TheVariants.{Local, Assign, Step, Do, Block, Empty, If, While, For, Return}
use Rattle.qml_grammar.specs.Ends.{since, ended}
use Rattle.qml_grammar.specs.Expressions.{member, whole}
use Rattle.qml_grammar.specs.Inputs.{Parser, ahead, refusal, operand_refusal, refused, too_deep, pure, ◌>>=◌, ◌>>◌, while_next, take_token, take_node, expect, any_name}
use Rattle.qml_grammar.specs.Lexemes.{Token, last_of, is_mark, is_word, is_name, atom_of, operand_name_of, local_word_of, same_line, looked_up, unary_operator, assign_operator, step_operator}
use Rattle.qml_grammar.specs.declared.mark.Mark.{Mark}
use Rattle.qml_grammar.specs.declared.mark.Mark.TheVariants.{OpenBrace, CloseBrace, OpenParen, CloseParen, Semicolon, Dot, Equal}
use Rattle.qml_grammar.specs.declared.word.Word.TheVariants as ww

-- Targets and changes

-- dots with names behind them
abbrev pub are_members : List Token → Bool
are_members [] = true
are_members (o ∷ []) = false
are_members (o ∷ t ∷ ts) = is_mark Dot (Some o) && is_name (Some t) && are_members ts

-- target = Name { "." Name }, where a statement begins
abbrev pub is_target : List Token → Bool
is_target [] = false
is_target (t ∷ ts) = is_some (operand_name_of (Some t)) && are_members ts

-- the fault at a token with which no target begins: the one that it has where an expression should begin, but that
-- a `{` is Syntax, as QML has none there either
unfoldable pub no_target : Parser Expr
no_target i = if is_mark OpenBrace (ahead i) then Err (refusal i) else Err (operand_refusal i)

-- the first name of a target
unfoldable pub target_name : Parser Expr
target_name i = elim (operand_name_of (ahead i)) [ Some n ↦ (do take_node; pure (Name n)) i | None ↦ no_target i ]

unfoldable pub target_in : Parser Expr
target_in = do
  x ← target_name
  while_next (is_mark Dot) member x

-- a target alone, of 200 nodes at most
unfoldable pub target : Parser Expr
target i = elim (target_in (record { rest = i.rest; end = i.end; nodes = 200 })) [ Ok r ↦ Ok (r.0, record { rest = (r.1).rest; end = (r.1).end; nodes = i.nodes }) | Err e ↦ Err e ]

-- ( "=" | "+=" | "-=" | "*=" | "/=" ) expr, behind a target
unfoldable pub assigned : ℕ → Expr → AssignOp → Parser Stmt
assigned d x op = do
  take_token
  y ← whole d
  pure (Assign x op y)

-- "++" | "--", behind a target
unfoldable pub stepped : Expr → Bool → Parser Stmt
stepped x up = do
  take_token
  pure (Step x up)

-- a step, on the line of the target's last token, or else another reading
unfoldable pub step_or : Parser Stmt → Expr → Option Token → Parser Stmt
step_or other x last i = elim (looked_up step_operator (ahead i)) [ Some up ↦ (if same_line last (ahead i) then stepped x up i else other i) | None ↦ other i ]

-- what changes a target, behind it, or else another reading
unfoldable pub change_or : Parser Stmt → ℕ → Expr → Option Token → Parser Stmt
change_or other d x last i = elim (looked_up assign_operator (ahead i)) [ Some op ↦ assigned d x op i | None ↦ step_or other x last i ]

-- Statements with an end

-- "=" expr, or nothing
unfoldable pub initial : ℕ → Parser (Option Expr)
initial d i = if is_mark Equal (ahead i) then (do take_token; x ← whole d; pure (Some x)) i else Ok (None, i)

-- ( "var" | "let" | "const" ) Name [ "=" expr ]
unfoldable pub local : ℕ → LocalWord → Parser Stmt
local d w = do
  take_token
  n ← any_name
  x ← initial d
  pure (Local w n x)

-- an expression begins behind `return`: at the token ahead, on its line
abbrev pub gives_value : Option Token → Option Token → Bool
gives_value last next = same_line last next && not (is_mark Semicolon next || is_mark CloseBrace next)

unfoldable pub returned : ℕ → Option Token → Parser Stmt
returned d last i = if gives_value last (ahead i) then (do x ← whole d; pure (Return (Some x))) i else Ok (Return None, i)

-- "return" [ expr ]
unfoldable pub leave : ℕ → Parser Stmt
leave d i = (do take_token; returned d (ahead i)) i

-- an expression, or what changes it where it is a target
unfoldable pub acted : ℕ → List Token → Option Token → Expr → Parser Stmt
acted d ts last x i = if is_target ts then change_or (pure (Do x)) d x last i else Ok (Do x, i)

unfoldable pub act : ℕ → Parser Stmt
act d i = (do x ← whole d; λ j. acted d (since i.rest j.rest) (last_of (since i.rest j.rest)) x j) i

-- Simple parts of `for`

-- "var" Name "=" expr
unfoldable pub simple_local : ℕ → Parser Stmt
simple_local d = do
  take_token
  n ← any_name
  expect Equal
  x ← whole d
  pure (Local AsVar n (Some x))

unfoldable pub simple_change : ℕ → Parser Stmt
simple_change d i = (do x ← target; λ j. change_or refused d x (last_of (since i.rest j.rest)) j) i

-- simple = "var" Name "=" expr | target ( "++" | "--" ) | target ( "=" | "+=" | "-=" | "*=" | "/=" ) expr
unfoldable pub simple : ℕ → Parser Stmt
simple d i = if is_word ww.Var (ahead i) then simple_local d i else simple_change d i

-- [ simple ], before a mark
unfoldable pub simple_before : Mark → ℕ → Parser (Option Stmt)
simple_before m d i = if is_mark m (ahead i) then Ok (None, i) else (do x ← simple d; pure (Some x)) i

-- [ expr ], before a semicolon
unfoldable pub test : ℕ → Parser (Option Expr)
test d i = if is_mark Semicolon (ahead i) then Ok (None, i) else (do x ← whole d; pure (Some x)) i

-- Statements

-- what stands one level further in
pub record Bodies : Type 0 where
  -- a statement inside `if`, `else`, `while` or `for`
  pub nested : Parser Stmt
  -- "{" { statement } "}"
  pub block : Parser (List Stmt)

abbrev pub begins_expr : Option Token → Bool
begins_expr t = is_some (atom_of t) || is_mark OpenParen t || is_some (looked_up unary_operator t)

-- a word other than `true`, `false`, `null` and `undefined` that begins a statement
abbrev pub begins_by_word : Option Token → Bool
begins_by_word t = is_some (local_word_of t) || is_word ww.If t || is_word ww.While t || is_word ww.For t || is_word ww.Return t

abbrev pub begins_statement : Option Token → Bool
begins_statement t = is_mark OpenBrace t || is_mark Semicolon t || begins_by_word t || begins_expr t

-- what the parser reads, where a statement begins with the next token
unfoldable pub begun : Parser Stmt → Parser Stmt
begun p i = if begins_statement (ahead i) then p i else Err (operand_refusal i)

unfoldable pub block_statement : Bodies → Parser Stmt
block_statement v = do
  xs ← v.block
  pure (Block xs)

unfoldable pub empty_statement : Parser Stmt
empty_statement = do
  take_token
  pure Empty

-- "(" expr ")", whose parentheses are no level
unfoldable pub condition : ℕ → Parser Expr
condition d = do
  expect OpenParen
  x ← whole d
  expect CloseParen
  pure x

-- [ "else" statement ]
unfoldable pub otherwise : Bodies → Expr → Stmt → Parser Stmt
otherwise v x y i = if is_word ww.Else (ahead i) then (do take_token; z ← v.nested; pure (If x y (Some z))) i else Ok (If x y None, i)

-- "if" "(" expr ")" statement [ "else" statement ]
unfoldable pub choice : ℕ → Bodies → Parser Stmt
choice d v = do
  take_token
  x ← condition d
  y ← v.nested
  otherwise v x y

-- "while" "(" expr ")" statement
unfoldable pub while_statement : ℕ → Bodies → Parser Stmt
while_statement d v = do
  take_token
  x ← condition d
  y ← v.nested
  pure (While x y)

unfoldable pub for_body : Bodies → Option Stmt → Option Expr → Option Stmt → Parser Stmt
for_body v a x b = do
  expect CloseParen
  y ← v.nested
  pure (For a x b y)

unfoldable pub for_step : ℕ → Bodies → Option Stmt → Option Expr → Parser Stmt
for_step d v a x = do
  expect Semicolon
  b ← simple_before CloseParen d
  for_body v a x b

unfoldable pub for_test : ℕ → Bodies → Option Stmt → Parser Stmt
for_test d v a = do
  expect Semicolon
  x ← test d
  for_step d v a x

-- "for" "(" [ simple ] ";" [ expr ] ";" [ simple ] ")" statement
unfoldable pub for_statement : ℕ → Bodies → Parser Stmt
for_statement d v = do
  take_token
  expect OpenParen
  a ← simple_before Semicolon d
  for_test d v a

unfoldable pub by_word : ℕ → Bodies → Parser Stmt
by_word d v i =
    if is_word ww.If (ahead i) then choice d v i
    else (if is_word ww.While (ahead i) then while_statement d v i
    else (if is_word ww.For (ahead i) then for_statement d v i
    else (if is_word ww.Return (ahead i) then ended (leave d) i
    else ended (act d) i)))

unfoldable pub statement_in : ℕ → Bodies → Parser Stmt
statement_in d v i =
    if is_mark OpenBrace (ahead i) then block_statement v i
    else (if is_mark Semicolon (ahead i) then empty_statement i
    else elim (local_word_of (ahead i)) [ Some w ↦ ended (local d w) i | None ↦ by_word d v i ])

-- one more statement, behind others
unfoldable pub one_more : ℕ → Bodies → List Stmt → Parser (List Stmt)
one_more d v xs = do
  x ← statement_in d v
  pure (xs ++ x ∷ [])

-- there is a token, and it closes nothing
abbrev pub goes_on_inside : Option Token → Bool
goes_on_inside t = is_some t && not (is_mark CloseBrace t)

-- { statement } "}"
unfoldable pub statements : ℕ → Bodies → Parser (List Stmt)
statements d v = do
  xs ← while_next goes_on_inside (one_more d v) []
  expect CloseBrace
  pure xs

-- "{" { statement } "}"
unfoldable pub braces : ℕ → Bodies → Parser (List Stmt)
braces d v = do
  take_token
  statements d v

unfoldable pub bodies : ℕ → Bodies
bodies zero = record { nested = begun too_deep; block = too_deep }
bodies (suc d) = record { nested = begun (statement_in d (bodies d)); block = braces d (bodies d) }

-- a statement that is no level by itself
unfoldable pub statement : ℕ → Parser Stmt
statement d = statement_in d (bodies d)
