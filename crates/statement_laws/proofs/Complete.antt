-- What the productions spell as a statement is read, level by level.
use Rattle.std.proofs.Common.{◌≡◌, ℕ, zero, suc, false, List, [], ◌∷◌, ◌++◌, Option, Some, None, Ok, refl, sym, ap, subst, ◌∙◌, arith}
use Rattle.qml_ast.specs.declared.expr.Expr.{Expr}
use Rattle.qml_ast.specs.declared.stmt.Stmt.{Stmt}
use Rattle.qml_ast.specs.declared.stmt.Stmt.TheVariants.{Local, Do, Block, Empty, If, While, For, Return}
use Rattle.qml_grammar.specs.Ends.{ended}
use Rattle.qml_grammar.specs.ExpressionGrammar.{IsMark}
use Rattle.qml_grammar.specs.Inputs.{Input, Parser, ahead}
use Rattle.qml_grammar.specs.Lexemes.{Token, is_mark, is_word, last_of}
use Rattle.qml_grammar.specs.StatementGrammar.{follow, IsWord, IsEnd, IsShort, local as a_local, local_set, change, act as an_act, leave as a_leave, leave_with, IsMaybeSimple, IsMaybeWhole, AreParts, parts, IsCondition, IsStmt, short, block as a_block, empty, when, when_else, loop, count, IsBlock, braces as a_braces, AreStmts}
use Rattle.qml_grammar.specs.Statements.{begins_expr, gives_value, local, leave, act, Bodies, begun, block_statement, empty_statement, condition, otherwise, choice, while_statement, for_body, for_step, for_test, for_statement, statement_in, one_more, statements, braces, bodies, statement}
use Rattle.qml_grammar.specs.declared.mark.Mark.TheVariants.{CloseBrace, OpenParen, CloseParen, Semicolon, Equal}
use Rattle.qml_grammar.specs.declared.word.Word.TheVariants as ww
use Rattle.grammar_laws.proofs.Behind.{ok_then, if_true, if_false}
use Rattle.grammar_laws.proofs.First.{Begins}
use Rattle.grammar_laws.proofs.Tools.{same_value, same_input}
use Rattle.statement_laws.specs.Laws.{Covers, IsBlockBefore}
use Rattle.statement_laws.proofs.Ends.{ended_goes}
use Rattle.statement_laws.proofs.Firsts.{stmt_begins, change_begins_expr, reads_block, reads_empty, reads_local, reads_if, reads_while, reads_for, reads_return, reads_act}
use Rattle.statement_laws.proofs.Loops.{Items, no_item, an_item, Single, one_item, until_brace_goes}
use Rattle.statement_laws.proofs.CompleteParts.{local_alone_goes, local_set_goes, leave_goes, leave_with_goes, end_no_value, act_changes, act_goes, simple_before_goes, test_goes, condition_goes}
use Rattle.statement_laws.proofs.Sound.{stmts_begin}
use Rattle.statement_laws.proofs.Ways.{before, before_both, ahead_before, arrived, expect_before, Complete, reads_covered}
use Rattle.statement_laws.proofs.Wholes.{whole_begins, begins_ahead}

-- the readings one level further in read what is spelled there
pub record CompleteInside (d : ℕ) (v : Bodies) : Type 0 where
  pub nested : (c : ℕ) → d ≡ suc c → Complete v.nested (IsStmt 200 c)
  pub block : (ts : List Token) (xs : List Stmt) (j : Input) → IsBlock 200 d ts xs → v.block (before ts j) ≡ Ok (xs, j)

-- Statements with an end

module _ (d : ℕ) (v : Bodies) where
  -- what begins as an expression, with its end
  act_ended : (us es : List Token) (next : Option Token) (x : Stmt) (j : Input) → ahead j ≡ next → Begins begins_expr us → act d (before us (before es j)) ≡ Ok (x, before es j) → IsEnd (last_of us) es next → statement_in d v (before (us ++ es) j) ≡ Ok (x, j)
  act_ended us es next x j e b h end =
      let chosen : statement_in d v (before (us ++ es) j) ≡ ended (act d) (before (us ++ es) j) = subst (λ ts. statement_in d v (before (ts ++ es) j) ≡ ended (act d) (before (ts ++ es) j)) (sym b.text) (reads_act d v b.token (b.others ++ es) j b.begins) in
      chosen ∙ ended_goes (act d) us es next x j e h end

  short_goes : (us es : List Token) (next : Option Token) (x : Stmt) (j : Input) → ahead j ≡ next → IsShort 200 d us (follow es next) x → IsEnd (last_of us) es next → statement_in d v (before (us ++ es) j) ≡ Ok (x, j)
  short_goes us es next x j e (a_local t p w n us_is x_is word_is name_is unset) end =
      let after_it : ahead (before es j) ≡ follow es next = ahead_before es j e in
      let read = local_alone_goes d t p w n (before es j) name_is (ap (is_mark Equal) after_it ∙ unset) in
      let end_is : IsEnd (last_of (t ∷ p ∷ [])) es next = subst (λ ts. IsEnd (last_of ts) es next) us_is end in
      rw (us_is, x_is) (reads_local d v t (p ∷ es) j w word_is ∙ ended_goes (local d w) (t ∷ p ∷ []) es next (Local w n None) j e read end_is)
  short_goes us es next x j e (local_set t p o vs w n y us_is x_is word_is name_is equal q) end =
      let after_it : ahead (before es j) ≡ follow es next = ahead_before es j e in
      let read = local_set_goes d t p o vs w n y (follow es next) (before es j) after_it name_is equal q in
      let end_is : IsEnd (last_of (t ∷ p ∷ o ∷ vs)) es next = subst (λ ts. IsEnd (last_of ts) es next) us_is end in
      rw (us_is, x_is) (reads_local d v t (p ∷ o ∷ vs ++ es) j w word_is ∙ ended_goes (local d w) (t ∷ p ∷ o ∷ vs) es next (Local w n (Some y)) j e read end_is)
  short_goes us es next x j e (change p) end =
      act_ended us es next x j e (change_begins_expr p) (act_changes d us (follow es next) x (before es j) (ahead_before es j e) p) end
  short_goes us es next x j e (an_act y x_is p calm) end =
      rw x_is (act_ended us es next (Do y) j e (whole_begins p) (act_goes d us (follow es next) y (before es j) (ahead_before es j e) p calm) end)
  short_goes us es next x j e (a_leave t us_is x_is word_is) end =
      let end_is : IsEnd (Some t) es next = subst (λ ts. IsEnd (last_of ts) es next) us_is end in
      let read = leave_goes d t (before es j) (ap (gives_value (Some t)) (ahead_before es j e) ∙ end_no_value t es next word_is end_is) in
      rw (us_is, x_is) (reads_return d v t es j word_is ∙ ended_goes (leave d) (t ∷ []) es next (Return None) j e read end_is)
  short_goes us es next x j e (leave_with t vs y us_is x_is word_is line p) end =
      let end_is : IsEnd (last_of (t ∷ vs)) es next = subst (λ ts. IsEnd (last_of ts) es next) us_is end in
      let read = leave_with_goes d t vs y (follow es next) (before es j) (ahead_before es j e) line p in
      rw (us_is, x_is) (reads_return d v t (vs ++ es) j word_is ∙ ended_goes (leave d) (t ∷ vs) es next (Return (Some y)) j e read end_is)

-- Texts in a row

row : (us vs ws xs ys : List Token) (j : Input) → before (us ++ vs ++ ws ++ xs ++ ys) j ≡ before us (before vs (before ws (before xs (before ys j))))
row us vs ws xs ys j =
    let k = before ys j in
    let l = before xs k in
    before_both (us ++ vs ++ ws ++ xs) ys j ∙ (before_both (us ++ vs ++ ws) xs k ∙ (before_both (us ++ vs) ws l ∙ before_both us vs (before ws l)))

-- Statements in a row

stmt_items : {d : ℕ} {ts : List Token} {next : Option Token} {xs : List Stmt} → AreStmts 200 d ts next xs → Items (Single (IsStmt 200 d)) ts next xs
stmt_items (AreStmts.none ts_is xs_is) = no_item ts_is xs_is
stmt_items (AreStmts.more us vs y ys ts_is xs_is p ps) = an_item us vs (y ∷ []) ys ts_is xs_is (one_item p) (stmt_items ps)

module _ (d : ℕ) (v : Bodies) (inside : CompleteInside d v) where
  -- `if`

  when_goes : (c : ℕ) (t : Token) (us vs : List Token) (next : Option Token) (y : Expr) (z : Stmt) (j : Input) → d ≡ suc c → ahead j ≡ next → IsCondition 200 d us y → IsStmt 200 c vs next z → is_word ww.Else next ≡ false → choice d v (before (t ∷ us ++ vs) j) ≡ Ok (If y z None, j)
  unfolding choice otherwise
  when_goes c t us vs next y z j d_is e p q alone =
      let read : condition d (before (us ++ vs) j) ≡ Ok (y, before vs j) = ap (condition d) (before_both us vs j) ∙ condition_goes d p (before vs j) in
      ok_then _ read (ok_then _ (inside.nested c d_is vs next z j e q) (if_false _ _ (ap (is_word ww.Else) e ∙ alone) refl))

  when_else_goes : (c : ℕ) (t : Token) (us vs : List Token) (o : Token) (ws : List Token) (next : Option Token) (y : Expr) (z w : Stmt) (j : Input) → d ≡ suc c → ahead j ≡ next → IsCondition 200 d us y → IsStmt 200 c vs (Some o) z → IsWord o ww.Else → IsStmt 200 c ws next w → choice d v (before (t ∷ us ++ vs ++ o ∷ ws) j) ≡ Ok (If y z (Some w), j)
  unfolding choice otherwise
  when_else_goes c t us vs o ws next y z w j d_is e p q else_is r =
      let rest : before (us ++ vs ++ o ∷ ws) j ≡ before us (before vs (before (o ∷ ws) j)) = before_both (us ++ vs) (o ∷ ws) j ∙ before_both us vs (before (o ∷ ws) j) in
      let read : condition d (before (us ++ vs ++ o ∷ ws) j) ≡ Ok (y, before vs (before (o ∷ ws) j)) = ap (condition d) rest ∙ condition_goes d p (before vs (before (o ∷ ws) j)) in
      let first = inside.nested c d_is vs (Some o) z (before (o ∷ ws) j) refl q in
      ok_then _ read (ok_then _ first (if_true _ _ else_is (ok_then _ (inside.nested c d_is ws next w j e r) refl)))

  -- `while`

  while_goes : (c : ℕ) (t : Token) (us vs : List Token) (next : Option Token) (y : Expr) (z : Stmt) (j : Input) → d ≡ suc c → ahead j ≡ next → IsCondition 200 d us y → IsStmt 200 c vs next z → while_statement d v (before (t ∷ us ++ vs) j) ≡ Ok (While y z, j)
  unfolding while_statement
  while_goes c t us vs next y z j d_is e p q =
      let read : condition d (before (us ++ vs) j) ≡ Ok (y, before vs j) = ap (condition d) (before_both us vs j) ∙ condition_goes d p (before vs j) in
      ok_then _ read (ok_then _ (inside.nested c d_is vs next z j e q) refl)

  -- `for`

  body_goes : (c : ℕ) (z : Token) (vs : List Token) (next : Option Token) (a : Option Stmt) (y : Option Expr) (b : Option Stmt) (x : Stmt) (j : Input) → d ≡ suc c → ahead j ≡ next → IsMark z CloseParen → IsStmt 200 c vs next x → for_body v a y b (before (z ∷ vs) j) ≡ Ok (For a y b x, j)
  unfolding for_body
  body_goes c z vs next a y b x j d_is e close_is q = ok_then _ (expect_before CloseParen z vs j close_is) (ok_then _ (inside.nested c d_is vs next x j e q) refl)

  step_goes : (q : Token) (ws : List Token) (z : Token) (a : Option Stmt) (y : Option Expr) (b : Option Stmt) (x : Stmt) (i j : Input) → ahead i ≡ Some z → IsMark q Semicolon → IsMaybeSimple 200 d ws (Some z) b → IsMark z CloseParen → for_body v a y b i ≡ Ok (x, j) → for_step d v a y (before (q ∷ ws) i) ≡ Ok (x, j)
  unfolding for_step
  step_goes q ws z a y b x i j e is p close_is h = ok_then _ (expect_before Semicolon q ws i is) (ok_then _ (simple_before_goes CloseParen d ws (Some z) b i close_is e p) h)

  tests_go : (p : Token) (vs : List Token) (q : Token) (a : Option Stmt) (y : Option Expr) (x : Stmt) (i j : Input) → ahead i ≡ Some q → IsMark p Semicolon → IsMaybeWhole 200 d vs (Some q) y → IsMark q Semicolon → for_step d v a y i ≡ Ok (x, j) → for_test d v a (before (p ∷ vs) i) ≡ Ok (x, j)
  unfolding for_test
  tests_go p vs q a y x i j e is r semi h = ok_then _ (expect_before Semicolon p vs i is) (ok_then _ (test_goes d vs (Some q) y i semi e r) h)

  for_goes : (t o : Token) (us : List Token) (p : Token) (a : Option Stmt) (x : Stmt) (i j : Input) → ahead i ≡ Some p → IsMark o OpenParen → IsMaybeSimple 200 d us (Some p) a → IsMark p Semicolon → for_test d v a i ≡ Ok (x, j) → for_statement d v (before (t ∷ o ∷ us) i) ≡ Ok (x, j)
  unfolding for_statement
  for_goes t o us p a x i j e is r semi h = ok_then _ (expect_before OpenParen o us i is) (ok_then _ (simple_before_goes Semicolon d us (Some p) a i semi e r) h)

  count_goes : (c : ℕ) (t : Token) {us : List Token} (vs : List Token) (next : Option Token) {a : Option Stmt} {y : Option Expr} {b : Option Stmt} (x : Stmt) (j : Input) → d ≡ suc c → ahead j ≡ next → AreParts 200 d us a y b → IsStmt 200 c vs next x → for_statement d v (before (t ∷ us ++ vs) j) ≡ Ok (For a y b x, j)
  count_goes c t vs next {a = a} {y = y} {b = b} x j d_is e (parts o us p ts q ws z us_is open_is first semi second semi_too third close_is) r =
      let k₁ : Input = before (z ∷ vs) j in
      let k₂ : Input = before (q ∷ ws) k₁ in
      let k₃ : Input = before (p ∷ ts) k₂ in
      let body = body_goes c z vs next a y b x j d_is e close_is r in
      let stepped = step_goes q ws z a y b (For a y b x) k₁ j refl semi_too third close_is body in
      let tested = tests_go p ts q a y (For a y b x) k₂ j refl semi second semi_too stepped in
      let all = for_goes t o us p a (For a y b x) k₃ j refl open_is first semi tested in
      rw us_is (ap (for_statement d v) (row (t ∷ o ∷ us) (p ∷ ts) (q ∷ ws) (z ∷ []) vs j) ∙ all)

  -- All statements

  empty_goes : (t : Token) (j : Input) → empty_statement (before (t ∷ []) j) ≡ Ok (Empty, j)
  unfolding empty_statement
  empty_goes t j = refl

  block_goes : {ts : List Token} (xs : List Stmt) → IsBlock 200 d ts xs → (j : Input) → statement_in d v (before ts j) ≡ Ok (Block xs, j)
  unfolding block_statement
  block_goes xs (a_braces c o us z d_is ts_is open_is p close_is) j =
      let read = inside.block (o ∷ us ++ z ∷ []) xs j (a_braces c o us z d_is refl open_is p close_is) in
      rw ts_is (reads_block d v o (us ++ z ∷ []) j open_is ∙ ok_then _ read refl)

  pub statement_goes : Complete (statement_in d v) (IsStmt 200 d)
  statement_goes ts next x j e (short us es ts_is p end) = rw ts_is (short_goes d v us es next x j e p end)
  statement_goes ts next x j e (a_block xs x_is p) = rw x_is (block_goes xs p j)
  statement_goes ts next x j e (empty t ts_is x_is is) = rw (ts_is, x_is) (reads_empty d v t [] j is ∙ empty_goes t j)
  statement_goes ts next x j e (when c t us vs y z d_is ts_is x_is word_is p q alone) = rw (ts_is, x_is) (reads_if d v t (us ++ vs) j word_is ∙ when_goes c t us vs next y z j d_is e p q alone)
  statement_goes ts next x j e (when_else c t us vs o ws y z w d_is ts_is x_is word_is p q else_is r) = rw (ts_is, x_is) (reads_if d v t (us ++ vs ++ o ∷ ws) j word_is ∙ when_else_goes c t us vs o ws next y z w j d_is e p q else_is r)
  statement_goes ts next x j e (loop c t us vs y z d_is ts_is x_is word_is p q) = rw (ts_is, x_is) (reads_while d v t (us ++ vs) j word_is ∙ while_goes c t us vs next y z j d_is e p q)
  statement_goes ts next x j e (count c t us vs a y b z d_is ts_is x_is word_is p q) = rw (ts_is, x_is) (reads_for d v t (us ++ vs) j word_is ∙ count_goes c t vs next z j d_is e p q)

  -- Blocks

  one_more_goes : (us : List Token) (next : Option Token) (ys xs : List Stmt) (j : Input) → ahead j ≡ next → Single (IsStmt 200 d) us next ys → one_more d v xs (before us j) ≡ Ok (xs ++ ys, j)
  unfolding one_more
  one_more_goes us next ys xs j e p = rw p.alone (ok_then _ (statement_goes us next p.value j e p.is) refl)

  pub braces_go : (o : Token) (us : List Token) (z : Token) (xs : List Stmt) (j : Input) → AreStmts 200 d us (Some z) xs → IsMark z CloseBrace → braces d v (before (o ∷ us ++ z ∷ []) j) ≡ Ok (xs, j)
  unfolding braces statements
  braces_go o us z xs j p close_is = until_brace_goes (Single (IsStmt 200 d)) (one_more d v) stmts_begin one_more_goes us z xs j (stmt_items p) close_is

-- All levels

no_level : (c : ℕ) → 0 ≡ suc c → ⊥
no_level c e = omega arith

one_less : (c d : ℕ) → suc d ≡ suc c → c ≡ d
one_less c d e = omega arith

begun_goes : (p : Parser Stmt) {d : ℕ} (ts : List Token) (next : Option Token) (x : Stmt) (j : Input) → IsStmt 200 d ts next x → p (before ts j) ≡ Ok (x, j) → begun p (before ts j) ≡ Ok (x, j)
unfolding begun
begun_goes p ts next x j q h = if_true _ _ (begins_ahead (stmt_begins q) j) h

no_block : {ts : List Token} {xs : List Stmt} → IsBlock 200 0 ts xs → ⊥
no_block (a_braces c o us z d_is ts_is open_is p close_is) = no_level c d_is

block_level : (d : ℕ) (v : Bodies) (inside : CompleteInside d v) {ts : List Token} (xs : List Stmt) (j : Input) → IsBlock 200 (suc d) ts xs → braces d v (before ts j) ≡ Ok (xs, j)
block_level d v inside xs j (a_braces c o us z d_is ts_is open_is p close_is) =
    rw ts_is (braces_go d v inside o us z xs j (subst (λ n. AreStmts 200 n us (Some z) xs) (one_less c d d_is) p) close_is)

pub complete : (d : ℕ) → CompleteInside d (bodies d)
unfolding bodies
complete zero = record {
  nested = λ c e ts next x j a p. absurd (no_level c e);
  block = λ ts xs j p. absurd (no_block p);
}
complete (suc d) = record {
  nested = λ c e ts next x j a p. begun_goes (statement_in d (bodies d)) ts next x j p (statement_goes d (bodies d) (complete d) ts next x j a (subst (λ n. IsStmt 200 n ts next x) (one_less c d e) p));
  block = λ ts xs j p. block_level d (bodies d) (complete d) xs j p;
}

pub statement_complete : (d : ℕ) (i j : Input) (x : Stmt) → Covers (IsStmt 200 d) i j x → statement d i ≡ Ok (x, j)
unfolding statement
statement_complete d i j x c = reads_covered (statement_in d (bodies d)) (IsStmt 200 d) (statement_goes d (bodies d) (complete d)) c

pub block_complete : (d : ℕ) (i j : Input) (xs : List Stmt) → Covers (IsBlockBefore d) i j xs → (bodies d).block i ≡ Ok (xs, j)
block_complete d i j xs c = ap (bodies d).block (arrived c.way) ∙ (complete d).block c.text xs j c.spelled

pub statement_once : (d : ℕ) (i j k : Input) (x y : Stmt) → Covers (IsStmt 200 d) i j x → Covers (IsStmt 200 d) i k y → (x ≡ y) × (j ≡ k)
statement_once d i j k x y a b =
    let e = sym (statement_complete d i j x a) ∙ statement_complete d i k y b in
    (same_value x y j k e, same_input x y j k e)
