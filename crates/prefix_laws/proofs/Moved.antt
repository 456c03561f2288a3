-- What is spelled with 200 nodes at most and so many levels is spelled with more nodes and one level more, and
-- before a `}` in place of what followed it.
use Rattle.std.proofs.Common.{◌≡◌, ℕ, zero, suc, ◌≤◌, Bool, true, false, List, [], ◌∷◌, Option, Some, None, refl, sym, ap, subst, ◌∙◌, arith}
use Rattle.qml_ast.specs.declared.expr.Expr.{Expr}
use Rattle.qml_ast.specs.declared.span.Span.{Span}
use Rattle.qml_ast.specs.declared.stmt.Stmt.{Stmt}
use Rattle.qml_grammar.specs.Ends.{may_end}
use Rattle.qml_grammar.specs.ExpressionGrammar.{IsPrimary, literal, name, parens, IsPostfix, primary, member, call_none, call, AreArguments, one_argument, more_arguments, IsUnary, operated, postfix, IsProduct, unary, times, IsSum, product, plus, IsOrder, sum, compare, IsEquality, order, equal, IsConjunction, equality, both, IsDisjunction, conjunction, either, IsExpr, disjunction, conditional}
use Rattle.qml_grammar.specs.Lexemes.{Lexeme, mark, Token, is_mark, is_mark_lexeme, is_word}
use Rattle.qml_grammar.specs.Marks.{same_mark, mark_number}
use Rattle.qml_grammar.specs.StatementGrammar.{follow, goes_on, changes_on, IsEnd, semicolon, nothing, IsWhole, IsChange, assign, step, IsShort, local, local_set, change, act, leave, leave_with, IsSimple, IsMaybeSimple, IsMaybeWhole, IsCondition, parens as in_parens, AreParts, parts, IsStmt, short, block, empty, when, when_else, loop, count, IsBlock, braces, AreStmts}
use Rattle.qml_grammar.specs.declared.mark.Mark.{Mark}
use Rattle.qml_grammar.specs.declared.mark.Mark.TheVariants.{CloseBrace, CloseParen, Semicolon, Equal}
use Rattle.qml_grammar.specs.declared.word.Word.TheVariants as ww

-- What follows

-- the one token is the other one, or the other one is `}`
pub data Becomes : Option Token → Option Token → Type 0 where
  same : {next next' : Option Token} → next ≡ next' → Becomes next next'
  brace : {next next' : Option Token} → is_mark CloseBrace next' ≡ true → Becomes next next'

pub follow_becomes : (us : List Token) {next next' : Option Token} → Becomes next next' → Becomes (follow us next) (follow us next')
follow_becomes [] b = b
follow_becomes (u ∷ us) b = same refl

-- a `}` at this place
abbrev pub brace_at : Span → Token
brace_at s = record { lexeme = mark CloseBrace; span = s }

-- a test has this answer on a mark wherever it stands
module _ (m : Mark) (only : (n : Mark) → same_mark m n ≡ true → n ≡ m) where
  lexeme_is_mark : (l : Lexeme) → is_mark_lexeme m l ≡ true → l ≡ mark m
  lexeme_is_mark (mark n) h = ap mark (only n h)
  lexeme_is_mark _ h = absurd cc

  mark_tests : (test : Option Token → Bool) {answer : Bool} → ((s : Span) → test (Some (record { lexeme = mark m; span = s })) ≡ answer) → (next : Option Token) → is_mark m next ≡ true → test next ≡ answer
  mark_tests test there None h = absurd cc
  mark_tests test there (Some t) h = ap (λ l. test (Some (record { lexeme = l; span = t.span }))) (lexeme_is_mark t.lexeme h) ∙ there t.span

brace_only : (m : Mark) → same_mark CloseBrace m ≡ true → m ≡ CloseBrace
unfolding same_mark mark_number
brace_only CloseBrace h = refl
brace_only _ h = absurd cc

semicolon_only : (m : Mark) → same_mark Semicolon m ≡ true → m ≡ Semicolon
unfolding same_mark mark_number
semicolon_only Semicolon h = refl
semicolon_only _ h = absurd cc

close_only : (m : Mark) → same_mark CloseParen m ≡ true → m ≡ CloseParen
unfolding same_mark mark_number
close_only CloseParen h = refl
close_only _ h = absurd cc

-- a test has this answer on a `}` wherever it stands
pub brace_tests : (test : Option Token → Bool) {answer : Bool} → ((s : Span) → test (Some (brace_at s)) ≡ answer) → (next : Option Token) → is_mark CloseBrace next ≡ true → test next ≡ answer
brace_tests = mark_tests CloseBrace brace_only

-- no expression goes on with a `;` or a `)`
pub semicolon_stops : (next : Option Token) → is_mark Semicolon next ≡ true → goes_on next ≡ false
unfolding same_mark mark_number
semicolon_stops = mark_tests Semicolon semicolon_only goes_on (λ s. refl)

pub close_stops : (next : Option Token) → is_mark CloseParen next ≡ true → goes_on next ≡ false
unfolding same_mark mark_number
close_stops = mark_tests CloseParen close_only goes_on (λ s. refl)

-- a test keeps its answer that it has on a `}`
pub becomes_keeps : (test : Option Token → Bool) {answer : Bool} → ((s : Span) → test (Some (brace_at s)) ≡ answer) → {next next' : Option Token} → Becomes next next' → test next ≡ answer → test next' ≡ answer
becomes_keeps test there (same e) h = ap test (sym e) ∙ h
becomes_keeps test there {next' = next'} (brace is) h = brace_tests test there next' is

pub brace_stops : (next : Option Token) → is_mark CloseBrace next ≡ true → goes_on next ≡ false
unfolding same_mark mark_number
brace_stops = brace_tests goes_on (λ s. refl)

pub brace_changes_nothing : (last next : Option Token) → is_mark CloseBrace next ≡ true → changes_on last next ≡ false
unfolding same_mark mark_number
brace_changes_nothing last = brace_tests (changes_on last) (λ s. refl)

pub brace_ends : (last next : Option Token) → is_mark CloseBrace next ≡ true → may_end last next ≡ true
unfolding same_mark mark_number
brace_ends last = brace_tests (may_end last) (λ s. refl)

pub brace_no_semicolon : (next : Option Token) → is_mark CloseBrace next ≡ true → is_mark Semicolon next ≡ false
unfolding same_mark mark_number
brace_no_semicolon = brace_tests (is_mark Semicolon) (λ s. refl)

pub brace_no_equal : (next : Option Token) → is_mark CloseBrace next ≡ true → is_mark Equal next ≡ false
unfolding same_mark mark_number
brace_no_equal = brace_tests (is_mark Equal) (λ s. refl)

pub brace_no_else : (next : Option Token) → is_mark CloseBrace next ≡ true → is_word ww.Else next ≡ false
brace_no_else = brace_tests (is_word ww.Else) (λ s. refl)

becomes_calm : {next next' : Option Token} → Becomes next next' → goes_on next ≡ false → goes_on next' ≡ false
unfolding same_mark mark_number
becomes_calm = becomes_keeps goes_on (λ s. refl)

becomes_unchanged : (last : Option Token) {next next' : Option Token} → Becomes next next' → changes_on last next ≡ false → changes_on last next' ≡ false
unfolding same_mark mark_number
becomes_unchanged last = becomes_keeps (changes_on last) (λ s. refl)

becomes_ending : (last : Option Token) {next next' : Option Token} → Becomes next next' → may_end last next ≡ true → may_end last next' ≡ true
unfolding same_mark mark_number
becomes_ending last = becomes_keeps (may_end last) (λ s. refl)

becomes_no_semicolon : {next next' : Option Token} → Becomes next next' → is_mark Semicolon next ≡ false → is_mark Semicolon next' ≡ false
unfolding same_mark mark_number
becomes_no_semicolon = becomes_keeps (is_mark Semicolon) (λ s. refl)

becomes_no_equal : {next next' : Option Token} → Becomes next next' → is_mark Equal next ≡ false → is_mark Equal next' ≡ false
unfolding same_mark mark_number
becomes_no_equal = becomes_keeps (is_mark Equal) (λ s. refl)

becomes_no_else : {next next' : Option Token} → Becomes next next' → is_word ww.Else next ≡ false → is_word ww.Else next' ≡ false
becomes_no_else = becomes_keeps (is_word ww.Else) (λ s. refl)

pub moved_end : {last : Option Token} {ts : List Token} {next next' : Option Token} → Becomes next next' → IsEnd last ts next → IsEnd last ts next'
moved_end b (semicolon t ts_is is) = semicolon t ts_is is
moved_end {last = last} b (nothing ts_is other may) = nothing ts_is (becomes_no_semicolon b other) (becomes_ending last b may)

-- Expressions

-- what stands one level further in has one level more
record MovesInside (d : ℕ) : Type 0 where
  expr : (c k : ℕ) (ts : List Token) (x : Expr) → d ≡ suc c → IsExpr c k ts x → IsExpr d k ts x
  unary : (c k : ℕ) (ts : List Token) (x : Expr) → d ≡ suc c → IsUnary c k ts x → IsUnary d k ts x

module _ (d : ℕ) (inside : MovesInside d) where
  moved_primary : {k : ℕ} {ts : List Token} {x : Expr} → IsPrimary d k ts x → IsPrimary (suc d) k ts x
  moved_primary (literal t v k_is ts_is x_is is) = literal t v k_is ts_is x_is is
  moved_primary (name t n k_is ts_is x_is is none) = name t n k_is ts_is x_is is none
  moved_primary (parens c o us z d_is ts_is open_is p close_is) = parens d o us z refl ts_is open_is (inside.expr c _ us _ d_is p) close_is

  moved_arguments : {c k : ℕ} {ts : List Token} {xs : List Expr} → d ≡ suc c → AreArguments c k ts xs → AreArguments d k ts xs
  moved_arguments {c = c} {k = k} {ts = ts} d_is (one_argument x xs_is p) = one_argument x xs_is (inside.expr c k ts x d_is p)
  moved_arguments {c = c} d_is (more_arguments i j us o vs ys z k_is ts_is xs_is p comma q) = more_arguments i j us o vs ys z k_is ts_is xs_is (moved_arguments d_is p) comma (inside.expr c j vs z d_is q)

  moved_postfix : {k : ℕ} {ts : List Token} {x : Expr} → IsPostfix d k ts x → IsPostfix (suc d) k ts x
  moved_postfix (primary p) = primary (moved_primary p)
  moved_postfix (member i us o t y n k_is ts_is x_is p dot is) = member i us o t y n k_is ts_is x_is (moved_postfix p) dot is
  moved_postfix (call_none c i us o z y d_is k_is ts_is x_is p open_is close_is) = call_none d i us o z y refl k_is ts_is x_is (moved_postfix p) open_is close_is
  moved_postfix (call c i j us o vs z y ys d_is k_is ts_is x_is p open_is q close_is) = call d i j us o vs z y ys refl k_is ts_is x_is (moved_postfix p) open_is (moved_arguments d_is q) close_is

  moved_unary : {k : ℕ} {ts : List Token} {x : Expr} → IsUnary d k ts x → IsUnary (suc d) k ts x
  moved_unary (operated c i o us op y d_is k_is ts_is x_is is p) = operated d i o us op y refl k_is ts_is x_is is (inside.unary c i us y d_is p)
  moved_unary (postfix p) = postfix (moved_postfix p)

  moved_product : {k : ℕ} {ts : List Token} {x : Expr} → IsProduct d k ts x → IsProduct (suc d) k ts x
  moved_product (unary p) = unary (moved_unary p)
  moved_product (times i j us o vs op y z k_is ts_is x_is p is q) = times i j us o vs op y z k_is ts_is x_is (moved_product p) is (moved_unary q)

  moved_sum : {k : ℕ} {ts : List Token} {x : Expr} → IsSum d k ts x → IsSum (suc d) k ts x
  moved_sum (product p) = product (moved_product p)
  moved_sum (plus i j us o vs op y z k_is ts_is x_is p is q) = plus i j us o vs op y z k_is ts_is x_is (moved_sum p) is (moved_product q)

  moved_order : {k : ℕ} {ts : List Token} {x : Expr} → IsOrder d k ts x → IsOrder (suc d) k ts x
  moved_order (sum p) = sum (moved_sum p)
  moved_order (compare i j us o vs op y z k_is ts_is x_is p is q) = compare i j us o vs op y z k_is ts_is x_is (moved_order p) is (moved_sum q)

  moved_equality : {k : ℕ} {ts : List Token} {x : Expr} → IsEquality d k ts x → IsEquality (suc d) k ts x
  moved_equality (order p) = order (moved_order p)
  moved_equality (equal i j us o vs op y z k_is ts_is x_is p is q) = equal i j us o vs op y z k_is ts_is x_is (moved_equality p) is (moved_order q)

  moved_conjunction : {k : ℕ} {ts : List Token} {x : Expr} → IsConjunction d k ts x → IsConjunction (suc d) k ts x
  moved_conjunction (equality p) = equality (moved_equality p)
  moved_conjunction (both i j us o vs y z k_is ts_is x_is p is q) = both i j us o vs y z k_is ts_is x_is (moved_conjunction p) is (moved_equality q)

  moved_disjunction : {k : ℕ} {ts : List Token} {x : Expr} → IsDisjunction d k ts x → IsDisjunction (suc d) k ts x
  moved_disjunction (conjunction p) = conjunction (moved_conjunction p)
  moved_disjunction (either i j us o vs y z k_is ts_is x_is p is q) = either i j us o vs y z k_is ts_is x_is (moved_disjunction p) is (moved_conjunction q)

  moved_expr_at : {k : ℕ} {ts : List Token} {x : Expr} → IsExpr d k ts x → IsExpr (suc d) k ts x
  moved_expr_at (disjunction p) = disjunction (moved_disjunction p)
  moved_expr_at (conditional c i j l us o vs p ws y z w d_is k_is ts_is x_is q question r colon s) = conditional d i j l us o vs p ws y z w refl k_is ts_is x_is (moved_disjunction q) question (inside.expr c j vs z d_is r) colon (inside.expr c l ws w d_is s)

no_level : (c : ℕ) → 0 ≡ suc c → ⊥
no_level c e = omega arith

one_less : (c d : ℕ) → suc d ≡ suc c → c ≡ d
one_less c d e = omega arith

moves_inside : (d : ℕ) → MovesInside d
moves_inside zero = record {
  expr = λ c k ts x e p. absurd (no_level c e);
  unary = λ c k ts x e p. absurd (no_level c e);
}
moves_inside (suc d) = record {
  expr = λ c k ts x e p. moved_expr_at d (moves_inside d) (subst (λ n. IsExpr n k ts x) (one_less c d e) p);
  unary = λ c k ts x e p. moved_unary d (moves_inside d) (subst (λ n. IsUnary n k ts x) (one_less c d e) p);
}

pub moved_expr : {d n : ℕ} {ts : List Token} {x : Expr} → IsExpr d n ts x → IsExpr (suc d) n ts x
moved_expr {d = d} p = moved_expr_at d (moves_inside d) p

-- Parts of statements, before a token that goes on with no expression

module _ {most : ℕ} (enough : 200 ≤ most) {next next' : Option Token} (calm : goes_on next ≡ false → goes_on next' ≡ false) where
  pub calm_whole : {d : ℕ} {ts : List Token} {x : Expr} → IsWhole 200 d ts next x → IsWhole most (suc d) ts next' x
  calm_whole p = record { nodes = p.nodes; few = omega (arith, p.few, enough); spelled = moved_expr p.spelled; longest = calm p.longest }

  pub calm_change : {d : ℕ} {ts : List Token} {x : Stmt} → IsChange 200 d ts next x → IsChange most (suc d) ts next' x
  calm_change (assign k us o vs y op z ts_is x_is p few is q) = assign k us o vs y op z ts_is x_is p (omega (arith, few, enough)) is (calm_whole q)
  calm_change (step k us o y up ts_is x_is p few is line) = step k us o y up ts_is x_is p (omega (arith, few, enough)) is line

  pub calm_simple : {d : ℕ} {ts : List Token} {x : Stmt} → IsSimple 200 d ts next x → IsSimple most (suc d) ts next' x
  calm_simple (IsSimple.local t p o us n y ts_is x_is word_is name_is set_is q) = IsSimple.local t p o us n y ts_is x_is word_is name_is set_is (calm_whole q)
  calm_simple (IsSimple.change p) = IsSimple.change (calm_change p)

  pub calm_maybe_simple : {d : ℕ} {ts : List Token} {x : Option Stmt} → IsMaybeSimple 200 d ts next x → IsMaybeSimple most (suc d) ts next' x
  calm_maybe_simple (IsMaybeSimple.none ts_is x_is) = IsMaybeSimple.none ts_is x_is
  calm_maybe_simple (IsMaybeSimple.some y x_is p) = IsMaybeSimple.some y x_is (calm_simple p)

  pub calm_maybe_whole : {d : ℕ} {ts : List Token} {x : Option Expr} → IsMaybeWhole 200 d ts next x → IsMaybeWhole most (suc d) ts next' x
  calm_maybe_whole (IsMaybeWhole.none ts_is x_is) = IsMaybeWhole.none ts_is x_is
  calm_maybe_whole (IsMaybeWhole.some y x_is p) = IsMaybeWhole.some y x_is (calm_whole p)

pub moved_whole : {most d : ℕ} {ts : List Token} {next next' : Option Token} {x : Expr} → 200 ≤ most → Becomes next next' → IsWhole 200 d ts next x → IsWhole most (suc d) ts next' x
moved_whole enough b p = calm_whole enough (becomes_calm b) p

pub moved_condition : {most d : ℕ} {ts : List Token} {x : Expr} → 200 ≤ most → IsCondition 200 d ts x → IsCondition most (suc d) ts x
moved_condition enough (in_parens o us z ts_is open_is p close_is) = in_parens o us z ts_is open_is (calm_whole enough (λ h. h) p) close_is

pub moved_parts : {most d : ℕ} {ts : List Token} {x : Option Stmt} {y : Option Expr} {z : Option Stmt} → 200 ≤ most → AreParts 200 d ts x y z → AreParts most (suc d) ts x y z
moved_parts enough (parts o us p vs q ws c ts_is open_is a first b second e close_is) =
    parts o us p vs q ws c ts_is open_is (calm_maybe_simple enough (λ h. h) a) first (calm_maybe_whole enough (λ h. h) b) second (calm_maybe_simple enough (λ h. h) e) close_is

pub moved_short : {most d : ℕ} {ts : List Token} {next next' : Option Token} {x : Stmt} → 200 ≤ most → Becomes next next' → IsShort 200 d ts next x → IsShort most (suc d) ts next' x
moved_short enough b (local t p w n ts_is x_is word_is name_is unset) = local t p w n ts_is x_is word_is name_is (becomes_no_equal b unset)
moved_short enough b (local_set t p o us w n y ts_is x_is word_is name_is set_is q) = local_set t p o us w n y ts_is x_is word_is name_is set_is (moved_whole enough b q)
moved_short enough b (change p) = change (calm_change enough (becomes_calm b) p)
moved_short enough b (act y x_is p alone) = act y x_is (moved_whole enough b p) (λ k q. becomes_unchanged _ b (alone k q))
moved_short enough b (leave t ts_is x_is word_is) = leave t ts_is x_is word_is
moved_short enough b (leave_with t us y ts_is x_is word_is line p) = leave_with t us y ts_is x_is word_is line (moved_whole enough b p)

-- Statements

-- what stands one level further in has one level more
record StmtsInside (most d : ℕ) : Type 0 where
  stmt : (c : ℕ) (ts : List Token) (next next' : Option Token) (x : Stmt) → d ≡ suc c → Becomes next next' → IsStmt 200 c ts next x → IsStmt most d ts next' x
  stmts : (c : ℕ) (ts : List Token) (next next' : Option Token) (xs : List Stmt) → d ≡ suc c → Becomes next next' → AreStmts 200 c ts next xs → AreStmts most d ts next' xs

module _ (most d : ℕ) (enough : 200 ≤ most) (inside : StmtsInside most d) where
  moved_block_at : {ts : List Token} {xs : List Stmt} → IsBlock 200 d ts xs → IsBlock most (suc d) ts xs
  moved_block_at {xs = xs} (braces c o us z d_is ts_is open_is p close_is) = braces d o us z refl ts_is open_is (inside.stmts c us (Some z) (Some z) xs d_is (same refl) p) close_is

  moved_stmt_at : {ts : List Token} {next next' : Option Token} {x : Stmt} → Becomes next next' → IsStmt 200 d ts next x → IsStmt most (suc d) ts next' x
  moved_stmt_at b (short us es ts_is p end) = short us es ts_is (moved_short enough (follow_becomes es b) p) (moved_end b end)
  moved_stmt_at b (block xs x_is p) = block xs x_is (moved_block_at p)
  moved_stmt_at b (empty t ts_is x_is is) = empty t ts_is x_is is
  moved_stmt_at {next = next} {next' = next'} b (when c t us vs y z d_is ts_is x_is word_is p q alone) = when d t us vs y z refl ts_is x_is word_is (moved_condition enough p) (inside.stmt c vs next next' z d_is b q) (becomes_no_else b alone)
  moved_stmt_at {next = next} {next' = next'} b (when_else c t us vs o ws y z w d_is ts_is x_is word_is p q else_is r) = when_else d t us vs o ws y z w refl ts_is x_is word_is (moved_condition enough p) (inside.stmt c vs (Some o) (Some o) z d_is (same refl) q) else_is (inside.stmt c ws next next' w d_is b r)
  moved_stmt_at {next = next} {next' = next'} b (loop c t us vs y z d_is ts_is x_is word_is p q) = loop d t us vs y z refl ts_is x_is word_is (moved_condition enough p) (inside.stmt c vs next next' z d_is b q)
  moved_stmt_at {next = next} {next' = next'} b (count c t us vs x y z w d_is ts_is x_is word_is p q) = count d t us vs x y z w refl ts_is x_is word_is (moved_parts enough p) (inside.stmt c vs next next' w d_is b q)

  moved_stmts_at : {ts : List Token} {next next' : Option Token} {xs : List Stmt} → Becomes next next' → AreStmts 200 d ts next xs → AreStmts most (suc d) ts next' xs
  moved_stmts_at b (AreStmts.none ts_is xs_is) = AreStmts.none ts_is xs_is
  moved_stmts_at b (AreStmts.more us vs y ys ts_is xs_is p ps) = AreStmts.more us vs y ys ts_is xs_is (moved_stmt_at (follow_becomes vs b) p) (moved_stmts_at b ps)

stmts_inside : (most d : ℕ) → 200 ≤ most → StmtsInside most d
stmts_inside most zero enough = record {
  stmt = λ c ts next next' x e b p. absurd (no_level c e);
  stmts = λ c ts next next' xs e b p. absurd (no_level c e);
}
stmts_inside most (suc d) enough = record {
  stmt = λ c ts next next' x e b p. moved_stmt_at most d enough (stmts_inside most d enough) b (subst (λ n. IsStmt 200 n ts next x) (one_less c d e) p);
  stmts = λ c ts next next' xs e b p. moved_stmts_at most d enough (stmts_inside most d enough) b (subst (λ n. AreStmts 200 n ts next xs) (one_less c d e) p);
}

pub moved_stmt : {most d : ℕ} {ts : List Token} {next next' : Option Token} {x : Stmt} → 200 ≤ most → Becomes next next' → IsStmt 200 d ts next x → IsStmt most (suc d) ts next' x
moved_stmt {most = most} {d = d} enough b p = moved_stmt_at most d enough (stmts_inside most d enough) b p

pub moved_block : {most d : ℕ} {ts : List Token} {xs : List Stmt} → 200 ≤ most → IsBlock 200 d ts xs → IsBlock most (suc d) ts xs
moved_block {most = most} {d = d} enough p = moved_block_at most d enough (stmts_inside most d enough) p

pub moved_stmts : {most d : ℕ} {ts : List Token} {next next' : Option Token} {xs : List Stmt} → 200 ≤ most → Becomes next next' → AreStmts 200 d ts next xs → AreStmts most (suc d) ts next' xs
moved_stmts {most = most} {d = d} enough b p = moved_stmts_at most d enough (stmts_inside most d enough) b p
