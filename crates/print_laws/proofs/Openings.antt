-- No statement begins with `else`.
use Rattle.std.proofs.Common.{◌≡◌, ℕ, ◌==◌, not, Bool, true, false, List, [], ◌∷◌, ◌++◌, Option, Some, None, refl, sym, ap, ◌∙◌}
use Rattle.std.proofs.lemmas.Bool.{eqb-true}
use Rattle.grammar_laws.proofs.First.{Begins, begins_left, expr_begins}
use Rattle.qml_ast.specs.declared.expr.Expr.{Expr}
use Rattle.qml_ast.specs.declared.span.Span.{Span}
use Rattle.qml_ast.specs.declared.stmt.LocalWord.{LocalWord}
use Rattle.qml_ast.specs.declared.stmt.Stmt.{Stmt}
use Rattle.qml_grammar.specs.ExpressionGrammar.{IsMark}
use Rattle.qml_grammar.specs.Lexemes.{Lexeme, word, mark, Token, is_word, is_word_lexeme, is_mark_lexeme, operand_name_of_lexeme, local_word_of_word}
use Rattle.qml_grammar.specs.Marks.{mark_number, same_mark}
use Rattle.qml_grammar.specs.StatementGrammar.{IsWord, follow, IsTarget, name, member, IsChange, assign, step, IsShort, local, local_set, change, act, leave, leave_with, IsStmt, short, block, empty, when, when_else, loop, count, IsBlock, braces, AreStmts, none, more}
use Rattle.qml_grammar.specs.Statements.{begins_expr}
use Rattle.qml_grammar.specs.Words.{word_number, same_word, is_keyword, is_unsupported}
use Rattle.qml_grammar.specs.declared.mark.Mark.{Mark}
use Rattle.qml_grammar.specs.declared.mark.Mark.TheVariants.{OpenBrace, CloseBrace, Semicolon}
use Rattle.qml_grammar.specs.declared.word.Word.{Word}
use Rattle.qml_grammar.specs.declared.word.Word.TheVariants as ww

-- Single tokens

-- what is one word is another one where these are the same
pub other_word : (w v : Word) (l : Lexeme) → is_word_lexeme w l ≡ true → is_word_lexeme v l ≡ same_word v w
unfolding same_word
other_word w v (word u) h = ap (λ n. word_number v == n) (sym (eqb-true (word_number w) (word_number u) h))
other_word w v _ h = absurd cc

pub mark_no_word : (m : Mark) (v : Word) (l : Lexeme) → is_mark_lexeme m l ≡ true → is_word_lexeme v l ≡ false
mark_no_word m v (word u) h = absurd cc
mark_no_word m v _ h = refl

pub other_mark : (m n : Mark) (l : Lexeme) → is_mark_lexeme m l ≡ true → is_mark_lexeme n l ≡ same_mark n m
unfolding same_mark
other_mark m n (mark o) h = ap (λ k. mark_number n == k) (sym (eqb-true (mark_number m) (mark_number o) h))
other_mark m n _ h = absurd cc

word_no_else : (w : Word) (s : Span) → begins_expr (Some (record { lexeme = word w; span = s })) ≡ true → same_word ww.Else w ≡ false
unfolding same_word word_number is_keyword is_unsupported
word_no_else ww.Else s h = absurd cc
word_no_else _ s h = refl

lexeme_no_else : (l : Lexeme) (s : Span) → begins_expr (Some (record { lexeme = l; span = s })) ≡ true → is_word_lexeme ww.Else l ≡ false
lexeme_no_else (word w) s h = word_no_else w s h
lexeme_no_else _ s h = refl

operand_word_no_else : (w : Word) (n : List ℕ) → operand_name_of_lexeme (word w) ≡ Some n → same_word ww.Else w ≡ false
unfolding same_word word_number is_keyword is_unsupported
operand_word_no_else ww.Else n h = absurd cc
operand_word_no_else _ n h = refl

operand_no_else : (l : Lexeme) (n : List ℕ) → operand_name_of_lexeme l ≡ Some n → is_word_lexeme ww.Else l ≡ false
operand_no_else (word w) n h = operand_word_no_else w n h
operand_no_else _ n h = refl

local_word_no_else : (v : Word) (w : LocalWord) → local_word_of_word v ≡ Some w → same_word ww.Else v ≡ false
unfolding same_word word_number
local_word_no_else ww.Else w h = absurd cc
local_word_no_else _ w h = refl

local_no_else : (l : Lexeme) (w : LocalWord) → ◌≡◌ {A = Option LocalWord} (elim l [ word v ↦ local_word_of_word v | _ ↦ None ]) (Some w) → is_word_lexeme ww.Else l ≡ false
local_no_else (word v) w h = local_word_no_else v w h
local_no_else _ w h = refl

-- What is spelled begins

abbrev pub no_else : Option Token → Bool
no_else t = not (is_word ww.Else t)

pub not_it : (b : Bool) → not b ≡ true → b ≡ false
not_it true h = absurd cc
not_it false h = refl

pub follow_no_else : {ts : List Token} (next : Option Token) → Begins no_else ts → is_word ww.Else (follow ts next) ≡ false
follow_no_else next b = ap (λ ts. is_word ww.Else (follow ts next)) b.text ∙ not_it (is_word ww.Else (Some b.token)) b.begins

pub one_begins : {ts : List Token} (t : Token) (us : List Token) → ts ≡ t ∷ us → is_word ww.Else (Some t) ≡ false → Begins no_else ts
one_begins t us ts_is h = record { token = t; others = us; text = ts_is; begins = ap not h }

pub word_begins : {ts : List Token} (w : Word) (t : Token) (us : List Token) → ts ≡ t ∷ us → IsWord t w → same_word ww.Else w ≡ false → Begins no_else ts
word_begins w t us ts_is is h = one_begins t us ts_is (other_word w ww.Else t.lexeme is ∙ h)

pub mark_begins : {ts : List Token} (m : Mark) (t : Token) (us : List Token) → ts ≡ t ∷ us → IsMark t m → Begins no_else ts
mark_begins m t us ts_is is = one_begins t us ts_is (mark_no_word m ww.Else t.lexeme is)

expr_opens : {ts : List Token} → Begins begins_expr ts → Begins no_else ts
expr_opens b = one_begins b.token b.others b.text (lexeme_no_else b.token.lexeme b.token.span b.begins)

target_opens : {k : ℕ} {ts : List Token} {x : Expr} → IsTarget k ts x → Begins no_else ts
target_opens (name t n k_is ts_is x_is is) = one_begins t [] ts_is (operand_no_else t.lexeme n is)
target_opens (member i us o t y n k_is ts_is x_is p dot is) = begins_left us (o ∷ t ∷ []) ts_is (target_opens p)

change_opens : {d : ℕ} {ts : List Token} {next : Option Token} {x : Stmt} → IsChange 200 d ts next x → Begins no_else ts
change_opens (assign k us o vs y op z ts_is x_is p few is q) = begins_left us (o ∷ vs) ts_is (target_opens p)
change_opens (step k us o y up ts_is x_is p few is line) = begins_left us (o ∷ []) ts_is (target_opens p)

short_opens : {d : ℕ} {ts : List Token} {next : Option Token} {x : Stmt} → IsShort 200 d ts next x → Begins no_else ts
unfolding same_word word_number
short_opens (local t p w n ts_is x_is is name_is unset) = one_begins t (p ∷ []) ts_is (local_no_else t.lexeme w is)
short_opens (local_set t p o us w n y ts_is x_is is name_is equals q) = one_begins t (p ∷ o ∷ us) ts_is (local_no_else t.lexeme w is)
short_opens (change p) = change_opens p
short_opens (act y x_is p unchanged) = expr_opens (expr_begins p.spelled)
short_opens (leave t ts_is x_is is) = word_begins ww.Return t [] ts_is is refl
short_opens (leave_with t us y ts_is x_is is line p) = word_begins ww.Return t us ts_is is refl

block_opens : {d : ℕ} {ts : List Token} {xs : List Stmt} → IsBlock 200 d ts xs → Begins no_else ts
block_opens (braces c o us z d_is ts_is open_is p close_is) = mark_begins OpenBrace o (us ++ z ∷ []) ts_is open_is

pub stmt_opens : {d : ℕ} {ts : List Token} {next : Option Token} {x : Stmt} → IsStmt 200 d ts next x → Begins no_else ts
unfolding same_word word_number
stmt_opens (short us es ts_is p end) = begins_left us es ts_is (short_opens p)
stmt_opens (block xs x_is p) = block_opens p
stmt_opens (empty t ts_is x_is is) = mark_begins Semicolon t [] ts_is is
stmt_opens (when c t us vs y z d_is ts_is x_is is test p alone) = word_begins ww.If t (us ++ vs) ts_is is refl
stmt_opens (when_else c t us vs o ws y z w d_is ts_is x_is is test p else_is q) = word_begins ww.If t (us ++ vs ++ o ∷ ws) ts_is is refl
stmt_opens (loop c t us vs y z d_is ts_is x_is is test p) = word_begins ww.While t (us ++ vs) ts_is is refl
stmt_opens (count c t us vs a y b z d_is ts_is x_is is p q) = word_begins ww.For t (us ++ vs) ts_is is refl

pub stmts_no_else : {d : ℕ} {ts : List Token} {next : Option Token} {xs : List Stmt} (z : Token) → IsMark z CloseBrace → AreStmts 200 d ts next xs → is_word ww.Else (follow ts (Some z)) ≡ false
stmts_no_else z close_is (none ts_is xs_is) = ap (λ ts. is_word ww.Else (follow ts (Some z))) ts_is ∙ mark_no_word CloseBrace ww.Else z.lexeme close_is
stmts_no_else z close_is (more us vs y ys ts_is xs_is p q) = follow_no_else (Some z) (begins_left us vs ts_is (stmt_opens p))
