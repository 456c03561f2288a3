-- What tokens spell a statement: the productions, apart from how they are read. `most` is how many nodes an
-- expression may have, `d` the number of levels that may still be opened around what is spelled, and `next` the
-- token behind it.
use Rattle.std.specs.Prelude.{◌≡◌, ℕ, suc, ◌+◌, ◌≤◌, ◌&&◌, ◌||◌, Bool, true, false, is_some, List, [], ◌∷◌, ◌++◌, Option, Some, None}
use Rattle.qml_ast.specs.declared.expr.Expr.{Expr}
use Rattle.qml_ast.specs.declared.expr.Expr.TheVariants.{Name, Member}
use Rattle.qml_ast.specs.declared.stmt.AssignOp.{AssignOp}
use Rattle.qml_ast.specs.declared.stmt.LocalWord.{LocalWord}
use Rattle.qml_ast.specs.declared.stmt.LocalWord.TheVariants.{Var as AsVar}
use Rattle.qml_ast.specs.declared.stmt.Stmt.{Stmt}
use Rattle.qml_ast.specs.declared.stmt.Stmt.TheVariants.{Local, Assign, Step, Do, Block, Empty, If, While, For, Return}
use Rattle.qml_grammar.specs.Ends.{may_end}
use Rattle.qml_grammar.specs.ExpressionGrammar.{IsMark, IsOperator, IsExpr}
use Rattle.qml_grammar.specs.Lexemes.{Token, head, last_of, is_mark, is_word, name_of, operand_name_of, local_word_of, same_line, looked_up, product_operator, sum_operator, order_operator, equality_operator, assign_operator, step_operator}
use Rattle.qml_grammar.specs.declared.mark.Mark.TheVariants.{OpenBrace, CloseBrace, OpenParen, CloseParen, Semicolon, Dot, Equal, Question, DoubleAmpersand, DoubleBar}
use Rattle.qml_grammar.specs.declared.word.Word.{Word}
use Rattle.qml_grammar.specs.declared.word.Word.TheVariants as ww

-- the token is this word
abbrev pub IsWord : Token → Word → Type 0
IsWord t w = is_word w (Some t) ≡ true

-- the first of the tokens, or else the one behind them
abbrev pub follow : List Token → Option Token → Option Token
follow [] next = next
follow (t ∷ ts) next = Some t

-- an expression before this token is longer
abbrev pub goes_on : Option Token → Bool
goes_on t = is_mark Dot t || is_mark OpenParen t || is_mark Question t || is_mark DoubleAmpersand t || is_mark DoubleBar t || is_some (looked_up product_operator t) || is_some (looked_up sum_operator t) || is_some (looked_up order_operator t) || is_some (looked_up equality_operator t)

-- a target before this token is changed. `last` is the target's last token
abbrev pub changes_on : Option Token → Option Token → Bool
changes_on last next = is_some (looked_up assign_operator next) || is_some (looked_up step_operator next) && same_line last next

-- end = ";" or nothing. `last` is the token before it
pub data IsEnd : Option Token → List Token → Option Token → Type 0 where
  semicolon : {last : Option Token} {ts : List Token} {next : Option Token} (t : Token) → ts ≡ t ∷ [] → IsMark t Semicolon → IsEnd last ts next
  nothing : {last : Option Token} {ts : List Token} {next : Option Token} → ts ≡ [] → is_mark Semicolon next ≡ false → may_end last next ≡ true → IsEnd last ts next

-- an outermost expression, the longest one before `next`
pub record IsWhole (most d : ℕ) (ts : List Token) (next : Option Token) (x : Expr) : Type 0 where
  pub nodes : ℕ
  pub few : nodes ≤ most
  pub spelled : IsExpr d nodes ts x
  pub longest : goes_on next ≡ false

-- target = Name { "." Name }, of so many nodes
pub data IsTarget : ℕ → List Token → Expr → Type 0 where
  name : {k : ℕ} {ts : List Token} {x : Expr} (t : Token) (n : List ℕ) → k ≡ 1 → ts ≡ t ∷ [] → x ≡ Name n → operand_name_of (Some t) ≡ Some n → IsTarget k ts x
  member : {k : ℕ} {ts : List Token} {x : Expr} (i : ℕ) (us : List Token) (o t : Token) (y : Expr) (n : List ℕ) → k ≡ i + 1 → ts ≡ us ++ o ∷ t ∷ [] → x ≡ Member y n → IsTarget i us y → IsMark o Dot → name_of (Some t) ≡ Some n → IsTarget k ts x

-- target ( "=" | "+=" | "-=" | "*=" | "/=" ) expr | target ( "++" | "--" )
pub data IsChange (most : ℕ) : ℕ → List Token → Option Token → Stmt → Type 0 where
  assign : {d : ℕ} {ts : List Token} {next : Option Token} {x : Stmt} (k : ℕ) (us : List Token) (o : Token) (vs : List Token) (y : Expr) (op : AssignOp) (z : Expr) → ts ≡ us ++ o ∷ vs → x ≡ Assign y op z → IsTarget k us y → k ≤ most → IsOperator assign_operator o op → IsWhole most d vs next z → IsChange most d ts next x
  step : {d : ℕ} {ts : List Token} {next : Option Token} {x : Stmt} (k : ℕ) (us : List Token) (o : Token) (y : Expr) (up : Bool) → ts ≡ us ++ o ∷ [] → x ≡ Step y up → IsTarget k us y → k ≤ most → IsOperator step_operator o up → same_line (last_of us) (Some o) ≡ true → IsChange most d ts next x

-- a statement with an end, without it
pub data IsShort (most : ℕ) : ℕ → List Token → Option Token → Stmt → Type 0 where
  -- ( "var" | "let" | "const" ) Name
  local : {d : ℕ} {ts : List Token} {next : Option Token} {x : Stmt} (t p : Token) (w : LocalWord) (n : List ℕ) → ts ≡ t ∷ p ∷ [] → x ≡ Local w n None → local_word_of (Some t) ≡ Some w → name_of (Some p) ≡ Some n → is_mark Equal next ≡ false → IsShort most d ts next x
  -- ( "var" | "let" | "const" ) Name "=" expr
  local_set : {d : ℕ} {ts : List Token} {next : Option Token} {x : Stmt} (t p o : Token) (us : List Token) (w : LocalWord) (n : List ℕ) (y : Expr) → ts ≡ t ∷ p ∷ o ∷ us → x ≡ Local w n (Some y) → local_word_of (Some t) ≡ Some w → name_of (Some p) ≡ Some n → IsMark o Equal → IsWhole most d us next y → IsShort most d ts next x
  -- target ( "=" | "+=" | "-=" | "*=" | "/=" ) expr | target ( "++" | "--" )
  change : {d : ℕ} {ts : List Token} {next : Option Token} {x : Stmt} → IsChange most d ts next x → IsShort most d ts next x
  -- expr
  act : {d : ℕ} {ts : List Token} {next : Option Token} {x : Stmt} (y : Expr) → x ≡ Do y → IsWhole most d ts next y → ((k : ℕ) → IsTarget k ts y → changes_on (last_of ts) next ≡ false) → IsShort most d ts next x
  -- "return"
  leave : {d : ℕ} {ts : List Token} {next : Option Token} {x : Stmt} (t : Token) → ts ≡ t ∷ [] → x ≡ Return None → IsWord t ww.Return → IsShort most d ts next x
  -- "return" expr
  leave_with : {d : ℕ} {ts : List Token} {next : Option Token} {x : Stmt} (t : Token) (us : List Token) (y : Expr) → ts ≡ t ∷ us → x ≡ Return (Some y) → IsWord t ww.Return → same_line (Some t) (head us) ≡ true → IsWhole most d us next y → IsShort most d ts next x

-- simple = "var" Name "=" expr | target ( "++" | "--" ) | target ( "=" | "+=" | "-=" | "*=" | "/=" ) expr
pub data IsSimple (most : ℕ) : ℕ → List Token → Option Token → Stmt → Type 0 where
  local : {d : ℕ} {ts : List Token} {next : Option Token} {x : Stmt} (t p o : Token) (us : List Token) (n : List ℕ) (y : Expr) → ts ≡ t ∷ p ∷ o ∷ us → x ≡ Local AsVar n (Some y) → IsWord t ww.Var → name_of (Some p) ≡ Some n → IsMark o Equal → IsWhole most d us next y → IsSimple most d ts next x
  change : {d : ℕ} {ts : List Token} {next : Option Token} {x : Stmt} → IsChange most d ts next x → IsSimple most d ts next x

-- [ simple ]
pub data IsMaybeSimple (most : ℕ) : ℕ → List Token → Option Token → Option Stmt → Type 0 where
  none : {d : ℕ} {ts : List Token} {next : Option Token} {x : Option Stmt} → ts ≡ [] → x ≡ None → IsMaybeSimple most d ts next x
  some : {d : ℕ} {ts : List Token} {next : Option Token} {x : Option Stmt} (y : Stmt) → x ≡ Some y → IsSimple most d ts next y → IsMaybeSimple most d ts next x

-- [ expr ]
pub data IsMaybeWhole (most : ℕ) : ℕ → List Token → Option Token → Option Expr → Type 0 where
  none : {d : ℕ} {ts : List Token} {next : Option Token} {x : Option Expr} → ts ≡ [] → x ≡ None → IsMaybeWhole most d ts next x
  some : {d : ℕ} {ts : List Token} {next : Option Token} {x : Option Expr} (y : Expr) → x ≡ Some y → IsWhole most d ts next y → IsMaybeWhole most d ts next x

-- "(" expr ")"
pub data IsCondition (most : ℕ) : ℕ → List Token → Expr → Type 0 where
  parens : {d : ℕ} {ts : List Token} {x : Expr} (o : Token) (us : List Token) (z : Token) → ts ≡ o ∷ us ++ z ∷ [] → IsMark o OpenParen → IsWhole most d us (Some z) x → IsMark z CloseParen → IsCondition most d ts x

-- "(" [ simple ] ";" [ expr ] ";" [ simple ] ")"
pub data AreParts (most : ℕ) : ℕ → List Token → Option Stmt → Option Expr → Option Stmt → Type 0 where
  parts : {d : ℕ} {ts : List Token} {x : Option Stmt} {y : Option Expr} {z : Option Stmt} (o : Token) (us : List Token) (p : Token) (vs : List Token) (q : Token) (ws : List Token) (c : Token) → ts ≡ o ∷ us ++ p ∷ vs ++ q ∷ ws ++ c ∷ [] → IsMark o OpenParen → IsMaybeSimple most d us (Some p) x → IsMark p Semicolon → IsMaybeWhole most d vs (Some q) y → IsMark q Semicolon → IsMaybeSimple most d ws (Some c) z → IsMark c CloseParen → AreParts most d ts x y z

mutual
  pub data IsStmt (most : ℕ) : ℕ → List Token → Option Token → Stmt → Type 0 where
    -- what has an end, and it
    short : {d : ℕ} {ts : List Token} {next : Option Token} {x : Stmt} (us es : List Token) → ts ≡ us ++ es → IsShort most d us (follow es next) x → IsEnd (last_of us) es next → IsStmt most d ts next x
    -- block
    block : {d : ℕ} {ts : List Token} {next : Option Token} {x : Stmt} (xs : List Stmt) → x ≡ Block xs → IsBlock most d ts xs → IsStmt most d ts next x
    -- ";"
    empty : {d : ℕ} {ts : List Token} {next : Option Token} {x : Stmt} (t : Token) → ts ≡ t ∷ [] → x ≡ Empty → IsMark t Semicolon → IsStmt most d ts next x
    -- "if" "(" expr ")" statement
    when : {d : ℕ} {ts : List Token} {next : Option Token} {x : Stmt} (c : ℕ) (t : Token) (us vs : List Token) (y : Expr) (z : Stmt) → d ≡ suc c → ts ≡ t ∷ us ++ vs → x ≡ If y z None → IsWord t ww.If → IsCondition most d us y → IsStmt most c vs next z → is_word ww.Else next ≡ false → IsStmt most d ts next x
    -- "if" "(" expr ")" statement "else" statement
    when_else : {d : ℕ} {ts : List Token} {next : Option Token} {x : Stmt} (c : ℕ) (t : Token) (us vs : List Token) (o : Token) (ws : List Token) (y : Expr) (z w : Stmt) → d ≡ suc c → ts ≡ t ∷ us ++ vs ++ o ∷ ws → x ≡ If y z (Some w) → IsWord t ww.If → IsCondition most d us y → IsStmt most c vs (Some o) z → IsWord o ww.Else → IsStmt most c ws next w → IsStmt most d ts next x
    -- "while" "(" expr ")" statement
    loop : {d : ℕ} {ts : List Token} {next : Option Token} {x : Stmt} (c : ℕ) (t : Token) (us vs : List Token) (y : Expr) (z : Stmt) → d ≡ suc c → ts ≡ t ∷ us ++ vs → x ≡ While y z → IsWord t ww.While → IsCondition most d us y → IsStmt most c vs next z → IsStmt most d ts next x
    -- "for" "(" [ simple ] ";" [ expr ] ";" [ simple ] ")" statement
    count : {d : ℕ} {ts : List Token} {next : Option Token} {x : Stmt} (c : ℕ) (t : Token) (us vs : List Token) (a : Option Stmt) (y : Option Expr) (b : Option Stmt) (z : Stmt) → d ≡ suc c → ts ≡ t ∷ us ++ vs → x ≡ For a y b z → IsWord t ww.For → AreParts most d us a y b → IsStmt most c vs next z → IsStmt most d ts next x

  -- block = "{" { statement } "}"
  pub data IsBlock (most : ℕ) : ℕ → List Token → List Stmt → Type 0 where
    braces : {d : ℕ} {ts : List Token} {xs : List Stmt} (c : ℕ) (o : Token) (us : List Token) (z : Token) → d ≡ suc c → ts ≡ o ∷ us ++ z ∷ [] → IsMark o OpenBrace → AreStmts most c us (Some z) xs → IsMark z CloseBrace → IsBlock most d ts xs

  -- { statement }
  pub data AreStmts (most : ℕ) : ℕ → List Token → Option Token → List Stmt → Type 0 where
    none : {d : ℕ} {ts : List Token} {next : Option Token} {xs : List Stmt} → ts ≡ [] → xs ≡ [] → AreStmts most d ts next xs
    more : {d : ℕ} {ts : List Token} {next : Option Token} {xs : List Stmt} (us vs : List Token) (y : Stmt) (ys : List Stmt) → ts ≡ us ++ vs → xs ≡ y ∷ ys → IsStmt most d us (follow vs next) y → AreStmts most d vs next ys → AreStmts most d ts next xs
