-- The first token of a statement, and what is read by it.
use Rattle.std.proofs.Common.{◌≡◌, ℕ, ◌||◌, Bool, true, false, is_some, List, [], ◌∷◌, ◌++◌, Option, Some, refl, sym, ap, subst}
use Rattle.qml_ast.specs.declared.expr.Expr.{Expr}
use Rattle.qml_ast.specs.declared.span.Span.{Span}
use Rattle.qml_ast.specs.declared.stmt.LocalWord.{LocalWord}
use Rattle.qml_ast.specs.declared.stmt.Stmt.{Stmt}
use Rattle.qml_grammar.specs.Ends.{ended}
use Rattle.qml_grammar.specs.ExpressionGrammar.{IsMark}
use Rattle.qml_grammar.specs.Inputs.{Input}
use Rattle.qml_grammar.specs.Lexemes.{Lexeme, word, mark, Token, is_mark, is_mark_lexeme, is_word, is_word_lexeme, operand_name_of, local_word_of}
use Rattle.qml_grammar.specs.Marks.{same_mark, mark_number}
use Rattle.qml_grammar.specs.StatementGrammar.{IsWord, IsTarget, name, member as more_target, IsChange, assign, step, IsShort, local as a_local, local_set, change, act as an_act, leave as a_leave, leave_with, IsSimple, IsStmt, short, block, empty, when, when_else, loop, count, IsBlock, braces}
use Rattle.qml_grammar.specs.StatementGrammar.IsSimple.{local as simple_set, change as simple_changed}
use Rattle.qml_grammar.specs.Statements.{begins_expr, begins_by_word, begins_statement, goes_on_inside, Bodies, local, leave, act, block_statement, choice, while_statement, for_statement, by_word, empty_statement, statement_in}
use Rattle.qml_grammar.specs.Words.{word_number, same_word, is_keyword, is_unsupported}
use Rattle.qml_grammar.specs.declared.mark.Mark.{Mark}
use Rattle.qml_grammar.specs.declared.mark.Mark.TheVariants.{OpenBrace, CloseBrace, Semicolon}
use Rattle.qml_grammar.specs.declared.word.Word.{Word}
use Rattle.qml_grammar.specs.declared.word.Word.TheVariants.{Var, Let, Const, If, While, For, Return}
use Rattle.grammar_laws.proofs.Behind.{if_true, if_false, found}
use Rattle.grammar_laws.proofs.First.{Begins, begins_left, expr_begins, or_left, or_right}
use Rattle.statement_laws.proofs.Targets.{target_expr}
use Rattle.statement_laws.proofs.Ways.{before}
use Rattle.statement_laws.proofs.Wholes.{whole_begins}

-- Words

if_word : (w : Word) → same_word If w ≡ true → w ≡ If
unfolding same_word word_number
if_word If h = refl
if_word _ h = absurd cc

if_lexeme : (l : Lexeme) → is_word_lexeme If l ≡ true → l ≡ word If
if_lexeme (word w) h = ap word (if_word w h)
if_lexeme _ h = absurd cc

while_word : (w : Word) → same_word While w ≡ true → w ≡ While
unfolding same_word word_number
while_word While h = refl
while_word _ h = absurd cc

while_lexeme : (l : Lexeme) → is_word_lexeme While l ≡ true → l ≡ word While
while_lexeme (word w) h = ap word (while_word w h)
while_lexeme _ h = absurd cc

for_word : (w : Word) → same_word For w ≡ true → w ≡ For
unfolding same_word word_number
for_word For h = refl
for_word _ h = absurd cc

for_lexeme : (l : Lexeme) → is_word_lexeme For l ≡ true → l ≡ word For
for_lexeme (word w) h = ap word (for_word w h)
for_lexeme _ h = absurd cc

return_word : (w : Word) → same_word Return w ≡ true → w ≡ Return
unfolding same_word word_number
return_word Return h = refl
return_word _ h = absurd cc

return_lexeme : (l : Lexeme) → is_word_lexeme Return l ≡ true → l ≡ word Return
return_lexeme (word w) h = ap word (return_word w h)
return_lexeme _ h = absurd cc

-- Tests that a first token passes

local_begins : (t : Token) (w : LocalWord) → local_word_of (Some t) ≡ Some w → begins_statement (Some t) ≡ true
local_begins t w h =
    let some : is_some (local_word_of (Some t)) ≡ true = rw h refl in
    let first : begins_by_word (Some t) ≡ true = or_left _ _ (or_left _ _ (or_left _ _ (or_left _ _ some))) in
    or_left _ _ (or_right _ first)

if_begins : (t : Token) → IsWord t If → begins_statement (Some t) ≡ true
unfolding same_word word_number
if_begins t h = rw (if_lexeme t.lexeme h) refl

while_begins : (t : Token) → IsWord t While → begins_statement (Some t) ≡ true
unfolding same_word word_number
while_begins t h = rw (while_lexeme t.lexeme h) refl

for_begins : (t : Token) → IsWord t For → begins_statement (Some t) ≡ true
unfolding same_word word_number
for_begins t h = rw (for_lexeme t.lexeme h) refl

return_begins : (t : Token) → IsWord t Return → begins_statement (Some t) ≡ true
unfolding same_word word_number
return_begins t h = rw (return_lexeme t.lexeme h) refl

brace_begins : (t : Token) → IsMark t OpenBrace → begins_statement (Some t) ≡ true
brace_begins t h = or_left _ _ (or_left _ _ (or_left _ _ h))

semicolon_begins : (t : Token) → IsMark t Semicolon → begins_statement (Some t) ≡ true
semicolon_begins t h = or_left _ _ (or_left _ _ (or_right _ h))

expr_begins_statement : (t : Token) → begins_expr (Some t) ≡ true → begins_statement (Some t) ≡ true
expr_begins_statement t h = or_right _ h

-- What statements begin with

target_begins : {k : ℕ} {ts : List Token} {x : Expr} → IsTarget k ts x → Begins begins_expr ts
target_begins p = expr_begins (target_expr {d = 0} p)

expr_text_begins : {ts : List Token} → Begins begins_expr ts → Begins begins_statement ts
expr_text_begins b = record { token = b.token; others = b.others; text = b.text; begins = expr_begins_statement b.token b.begins }

pub change_begins_expr : {d : ℕ} {ts : List Token} {next : Option Token} {x : Stmt} → IsChange 200 d ts next x → Begins begins_expr ts
change_begins_expr (assign k us o vs y op z ts_is x_is p few is q) = begins_left us (o ∷ vs) ts_is (target_begins p)
change_begins_expr (step k us o y up ts_is x_is p few is line) = begins_left us (o ∷ []) ts_is (target_begins p)

short_begins : {d : ℕ} {ts : List Token} {next : Option Token} {x : Stmt} → IsShort 200 d ts next x → Begins begins_statement ts
short_begins (a_local t p w n ts_is x_is word_is name_is unset) = record { token = t; others = p ∷ []; text = ts_is; begins = local_begins t w word_is }
short_begins (local_set t p o us w n y ts_is x_is word_is name_is equal q) = record { token = t; others = p ∷ o ∷ us; text = ts_is; begins = local_begins t w word_is }
short_begins (change p) = expr_text_begins (change_begins_expr p)
short_begins (an_act y x_is p calm) = expr_text_begins (whole_begins p)
short_begins (a_leave t ts_is x_is word_is) = record { token = t; others = []; text = ts_is; begins = return_begins t word_is }
short_begins (leave_with t us y ts_is x_is word_is line p) = record { token = t; others = us; text = ts_is; begins = return_begins t word_is }

block_begins : {d : ℕ} {ts : List Token} {xs : List Stmt} → IsBlock 200 d ts xs → Begins begins_statement ts
block_begins (braces c o us z d_is ts_is open_is p close_is) = record { token = o; others = us ++ z ∷ []; text = ts_is; begins = brace_begins o open_is }

pub stmt_begins : {d : ℕ} {ts : List Token} {next : Option Token} {x : Stmt} → IsStmt 200 d ts next x → Begins begins_statement ts
stmt_begins (short us es ts_is p end) = begins_left us es ts_is (short_begins p)
stmt_begins (block xs x_is p) = block_begins p
stmt_begins (empty t ts_is x_is is) = record { token = t; others = []; text = ts_is; begins = semicolon_begins t is }
stmt_begins (when c t us vs y z d_is ts_is x_is word_is p q alone) = record { token = t; others = us ++ vs; text = ts_is; begins = if_begins t word_is }
stmt_begins (when_else c t us vs o ws y z w d_is ts_is x_is word_is p q else_is r) = record { token = t; others = us ++ vs ++ o ∷ ws; text = ts_is; begins = if_begins t word_is }
stmt_begins (loop c t us vs y z d_is ts_is x_is word_is p q) = record { token = t; others = us ++ vs; text = ts_is; begins = while_begins t word_is }
stmt_begins (count c t us vs a y b z d_is ts_is x_is word_is p q) = record { token = t; others = us ++ vs; text = ts_is; begins = for_begins t word_is }

mark_begins_inside : (m : Mark) (s : Span) → begins_statement (Some (record { lexeme = mark m; span = s })) ≡ true → same_mark CloseBrace m ≡ false
unfolding same_mark mark_number
mark_begins_inside CloseBrace s h = absurd cc
mark_begins_inside _ s h = refl

lexeme_begins_inside : (l : Lexeme) (s : Span) → begins_statement (Some (record { lexeme = l; span = s })) ≡ true → is_mark_lexeme CloseBrace l ≡ false
lexeme_begins_inside (mark m) s h = mark_begins_inside m s h
lexeme_begins_inside _ s h = refl

begins_inside : (t : Token) → begins_statement (Some t) ≡ true → goes_on_inside (Some t) ≡ true
begins_inside t h = rw (lexeme_begins_inside t.lexeme t.span h) refl

pub stmt_begins_inside : {d : ℕ} {ts : List Token} {next : Option Token} {x : Stmt} → IsStmt 200 d ts next x → Begins goes_on_inside ts
stmt_begins_inside p = let b = stmt_begins p in record { token = b.token; others = b.others; text = b.text; begins = begins_inside b.token b.begins }

-- What the parts of `for` begin with

-- a name that an expression or a statement begins with
abbrev pub is_operand_name : Option Token → Bool
is_operand_name t = is_some (operand_name_of t)

-- a part of `for` that sets or changes something begins with the token
abbrev pub begins_simple : Option Token → Bool
begins_simple t = is_word Var t || is_operand_name t

lexeme_simple_no_mark : (m : Mark) (l : Lexeme) (s : Span) → begins_simple (Some (record { lexeme = l; span = s })) ≡ true → is_mark_lexeme m l ≡ false
lexeme_simple_no_mark m (mark n) s h = absurd cc
lexeme_simple_no_mark m _ s h = refl

pub simple_no_mark : (m : Mark) (t : Token) → begins_simple (Some t) ≡ true → is_mark m (Some t) ≡ false
simple_no_mark m t h = lexeme_simple_no_mark m t.lexeme t.span h

word_operand_no_var : (w : Word) (s : Span) → is_operand_name (Some (record { lexeme = word w; span = s })) ≡ true → same_word Var w ≡ false
unfolding same_word word_number is_keyword
word_operand_no_var Var s h = absurd cc
word_operand_no_var _ s h = refl

lexeme_operand_no_var : (l : Lexeme) (s : Span) → is_operand_name (Some (record { lexeme = l; span = s })) ≡ true → is_word_lexeme Var l ≡ false
lexeme_operand_no_var (word w) s h = word_operand_no_var w s h
lexeme_operand_no_var _ s h = refl

pub operand_no_var : (t : Token) → is_operand_name (Some t) ≡ true → is_word Var (Some t) ≡ false
operand_no_var t h = lexeme_operand_no_var t.lexeme t.span h

pub target_begins_name : {k : ℕ} {ts : List Token} {x : Expr} → IsTarget k ts x → Begins is_operand_name ts
target_begins_name (name t n k_is ts_is x_is is) = record { token = t; others = []; text = ts_is; begins = ap is_some is }
target_begins_name (more_target i us o t y n k_is ts_is x_is p dot name_is) = begins_left us (o ∷ t ∷ []) ts_is (target_begins_name p)

pub change_begins_name : {d : ℕ} {ts : List Token} {next : Option Token} {x : Stmt} → IsChange 200 d ts next x → Begins is_operand_name ts
change_begins_name (assign k us o vs y op z ts_is x_is p few is q) = begins_left us (o ∷ vs) ts_is (target_begins_name p)
change_begins_name (step k us o y up ts_is x_is p few is line) = begins_left us (o ∷ []) ts_is (target_begins_name p)

pub simple_begins : {d : ℕ} {ts : List Token} {next : Option Token} {x : Stmt} → IsSimple 200 d ts next x → Begins begins_simple ts
simple_begins (simple_set t p o us n y ts_is x_is word_is name_is equal q) = record { token = t; others = p ∷ o ∷ us; text = ts_is; begins = or_left _ _ word_is }
simple_begins (simple_changed p) = let b = change_begins_name p in record { token = b.token; others = b.others; text = b.text; begins = or_right _ b.begins }

-- No `;` and no `}` begins an expression

mark_expr_no_semicolon : (m : Mark) (s : Span) → begins_expr (Some (record { lexeme = mark m; span = s })) ≡ true → same_mark Semicolon m ≡ false
unfolding same_mark mark_number
mark_expr_no_semicolon Semicolon s h = absurd cc
mark_expr_no_semicolon _ s h = refl

lexeme_expr_no_semicolon : (l : Lexeme) (s : Span) → begins_expr (Some (record { lexeme = l; span = s })) ≡ true → is_mark_lexeme Semicolon l ≡ false
lexeme_expr_no_semicolon (mark m) s h = mark_expr_no_semicolon m s h
lexeme_expr_no_semicolon _ s h = refl

pub expr_no_semicolon : (t : Token) → begins_expr (Some t) ≡ true → is_mark Semicolon (Some t) ≡ false
expr_no_semicolon t h = lexeme_expr_no_semicolon t.lexeme t.span h

pub expr_no_brace : (t : Token) → begins_expr (Some t) ≡ true → is_mark CloseBrace (Some t) ≡ false
expr_no_brace t h = lexeme_begins_inside t.lexeme t.span (expr_begins_statement t h)

-- The reading that a first token chooses

mark_semicolon_no_brace : (m : Mark) → same_mark Semicolon m ≡ true → same_mark OpenBrace m ≡ false
unfolding same_mark mark_number
mark_semicolon_no_brace Semicolon h = refl
mark_semicolon_no_brace _ h = absurd cc

lexeme_semicolon_no_brace : (l : Lexeme) → is_mark_lexeme Semicolon l ≡ true → is_mark_lexeme OpenBrace l ≡ false
lexeme_semicolon_no_brace (mark m) h = mark_semicolon_no_brace m h
lexeme_semicolon_no_brace _ h = absurd cc

lexeme_local_no_mark : (m : Mark) (l : Lexeme) (s : Span) (w : LocalWord) → local_word_of (Some (record { lexeme = l; span = s })) ≡ Some w → is_mark_lexeme m l ≡ false
lexeme_local_no_mark m (mark n) s w h = absurd cc
lexeme_local_no_mark m _ s w h = refl

-- the token with its lexeme written out
word_token : (t : Token) {l : Lexeme} → t.lexeme ≡ l → record { lexeme = l; span = t.span } ≡ t
word_token t h = ap (λ (l : Lexeme). record { lexeme = l; span = t.span }) (sym h)

module _ (d : ℕ) (v : Bodies) (t : Token) (ts : List Token) (j : Input) where
  pub reads_block : IsMark t OpenBrace → statement_in d v (before (t ∷ ts) j) ≡ block_statement v (before (t ∷ ts) j)
  unfolding statement_in
  reads_block h = if_true _ _ h refl

  pub reads_empty : IsMark t Semicolon → statement_in d v (before (t ∷ ts) j) ≡ empty_statement (before (t ∷ ts) j)
  unfolding statement_in
  reads_empty h = if_false _ _ (lexeme_semicolon_no_brace t.lexeme h) (if_true _ _ h refl)

  pub reads_local : (w : LocalWord) → local_word_of (Some t) ≡ Some w → statement_in d v (before (t ∷ ts) j) ≡ ended (local d w) (before (t ∷ ts) j)
  unfolding statement_in
  reads_local w h = if_false _ _ (lexeme_local_no_mark OpenBrace t.lexeme t.span w h) (if_false _ _ (lexeme_local_no_mark Semicolon t.lexeme t.span w h) (found _ _ h refl))

  pub reads_if : IsWord t If → statement_in d v (before (t ∷ ts) j) ≡ choice d v (before (t ∷ ts) j)
  unfolding statement_in by_word same_word word_number
  reads_if h = subst (λ u. statement_in d v (before (u ∷ ts) j) ≡ choice d v (before (u ∷ ts) j)) (word_token t (if_lexeme t.lexeme h)) refl

  pub reads_while : IsWord t While → statement_in d v (before (t ∷ ts) j) ≡ while_statement d v (before (t ∷ ts) j)
  unfolding statement_in by_word same_word word_number
  reads_while h = subst (λ u. statement_in d v (before (u ∷ ts) j) ≡ while_statement d v (before (u ∷ ts) j)) (word_token t (while_lexeme t.lexeme h)) refl

  pub reads_for : IsWord t For → statement_in d v (before (t ∷ ts) j) ≡ for_statement d v (before (t ∷ ts) j)
  unfolding statement_in by_word same_word word_number
  reads_for h = subst (λ u. statement_in d v (before (u ∷ ts) j) ≡ for_statement d v (before (u ∷ ts) j)) (word_token t (for_lexeme t.lexeme h)) refl

  pub reads_return : IsWord t Return → statement_in d v (before (t ∷ ts) j) ≡ ended (leave d) (before (t ∷ ts) j)
  unfolding statement_in by_word same_word word_number
  reads_return h = subst (λ u. statement_in d v (before (u ∷ ts) j) ≡ ended (leave d) (before (u ∷ ts) j)) (word_token t (return_lexeme t.lexeme h)) refl

module _ (d : ℕ) (v : Bodies) (s : Span) (ts : List Token) (j : Input) where
  word_reads_act : (w : Word) → begins_expr (Some (record { lexeme = word w; span = s })) ≡ true → statement_in d v (before (record { lexeme = word w; span = s } ∷ ts) j) ≡ ended (act d) (before (record { lexeme = word w; span = s } ∷ ts) j)
  unfolding statement_in by_word same_word word_number is_keyword is_unsupported
  word_reads_act Var h = absurd cc
  word_reads_act Let h = absurd cc
  word_reads_act Const h = absurd cc
  word_reads_act If h = absurd cc
  word_reads_act While h = absurd cc
  word_reads_act For h = absurd cc
  word_reads_act Return h = absurd cc
  word_reads_act _ h = refl

  mark_reads_act : (m : Mark) → begins_expr (Some (record { lexeme = mark m; span = s })) ≡ true → statement_in d v (before (record { lexeme = mark m; span = s } ∷ ts) j) ≡ ended (act d) (before (record { lexeme = mark m; span = s } ∷ ts) j)
  unfolding statement_in by_word same_mark mark_number
  mark_reads_act OpenBrace h = absurd cc
  mark_reads_act Semicolon h = absurd cc
  mark_reads_act _ h = refl

  lexeme_reads_act : (l : Lexeme) → begins_expr (Some (record { lexeme = l; span = s })) ≡ true → statement_in d v (before (record { lexeme = l; span = s } ∷ ts) j) ≡ ended (act d) (before (record { lexeme = l; span = s } ∷ ts) j)
  unfolding statement_in by_word
  lexeme_reads_act (word w) h = word_reads_act w h
  lexeme_reads_act (mark m) h = mark_reads_act m h
  lexeme_reads_act _ h = refl

pub reads_act : (d : ℕ) (v : Bodies) (t : Token) (ts : List Token) (j : Input) → begins_expr (Some t) ≡ true → statement_in d v (before (t ∷ ts) j) ≡ ended (act d) (before (t ∷ ts) j)
reads_act d v t ts j h = lexeme_reads_act d v t.span ts j t.lexeme h
