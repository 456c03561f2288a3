-- A statement is read, or refused, by the tokens up to the next one alone, level by level.
use Rattle.std.proofs.Common.{◌≡◌, ℕ, zero, suc, ◌<◌, Bool, true, is_some, List, [], ◌∷◌, ◌++◌, length, Option, Some, None, Ok, Err, refl, ap, arith, length-append}
use Rattle.qml_ast.specs.declared.expr.Expr.{Expr}
use Rattle.qml_ast.specs.declared.expr.Expr.TheVariants.{Name}
use Rattle.qml_ast.specs.declared.fault.DocFault.{DocFault}
use Rattle.qml_ast.specs.declared.stmt.AssignOp.{AssignOp}
use Rattle.qml_ast.specs.declared.stmt.LocalWord.{LocalWord}
use Rattle.qml_ast.specs.declared.stmt.LocalWord.TheVariants.{Var as AsVar}
use Rattle.qml_ast.specs.declared.stmt.Stmt.{Stmt}
use Rattle.qml_ast.specs.declared.stmt.Stmt.TheVariants.{Local as LocalStmt, Assign, Step, Do, Block, Empty, If, While, For, Return}
use Rattle.qml_grammar.specs.Expressions.{inner, member, expr, whole}
use Rattle.qml_grammar.specs.Ends.{ended}
use Rattle.qml_grammar.specs.Inputs.{Input, Parser, ahead, refusal, refused, too_deep, take_token, expect, any_name}
use Rattle.qml_grammar.specs.Lexemes.{Token, last_of, is_mark, is_word, operand_name_of, local_word_of, same_line, looked_up, assign_operator, step_operator}
use Rattle.qml_grammar.specs.Statements.{is_target, no_target, target_name, target_in, target, assigned, stepped, step_or, change_or, initial, local as local_in, gives_value, returned, leave, acted, act, simple_local, simple_change, simple, simple_before, test, Bodies, begins_statement, begun, block_statement, empty_statement, condition, otherwise, choice, while_statement, for_body, for_step, for_test, for_statement, by_word, statement_in, one_more, goes_on_inside, statements, braces, bodies, statement}
use Rattle.qml_grammar.specs.declared.mark.Mark.{Mark}
use Rattle.qml_grammar.specs.declared.mark.Mark.TheVariants.{OpenBrace, CloseBrace, OpenParen, CloseParen, Semicolon, Dot, Equal}
use Rattle.qml_grammar.specs.declared.word.Word.TheVariants as ww
use Rattle.grammar_laws.proofs.First.{expr_begins}
use Rattle.grammar_laws.proofs.Local.{followed, branch, choose}
use Rattle.grammar_laws.proofs.LocalExpressions.{expr_local, inner_local, member_shorter}
use Rattle.grammar_laws.proofs.Reading.{whole_reads}
use Rattle.grammar_laws.proofs.Tools.{ahead_some}
use Rattle.grammar_laws.proofs.Viable.{FailsAt}
use Rattle.grammar_laws.proofs.ViableExpressions.{expr_viable}
use Rattle.fault_laws.proofs.Grows.{Grows, grows_followed, grows_branch, grows_choose, grows_since, grows_ended, grows_ahead, grows_behind}
use Rattle.fault_laws.proofs.Sure.{Fails, Sure, at_next, sure_followed, sure_branch, sure_choose, sure_while}
use Rattle.fault_laws.proofs.SureTokens.{sure_refused, sure_operand_refused, sure_too_deep, sure_pure, sure_token, sure_expect, sure_name, sure_ahead, sure_node, sure_since, sure_ended, sure_apart}

-- Expressions and targets

viable_fails : {V : List Token → Type 0} (Early : Type 0) {A : Type 0} {p : Parser A} {i : Input} {e : DocFault} → FailsAt p V i e → Fails ⊥ Early p i e
viable_fails Early a = record { nodes = a.nodes; text = a.text; at = a.at; way = a.way; keeps = λ z. absurd z; place = at_next a.place; again = a.again }

sure_expr : (Early : Type 0) (d : ℕ) → Sure ⊥ Early (expr d)
sure_expr Early d = record { local = expr_local d; keeps = λ z. absurd z; fails = λ i e h. viable_fails Early (expr_viable d i e h) }

pub sure_whole : (Early : Type 0) (d : ℕ) → Sure (Unit {0}) Early (whole d)
unfolding whole
sure_whole Early d = sure_apart Early (expr d) (sure_expr Early d)

pub whole_grows : (d : ℕ) → Grows (whole d)
whole_grows d i x j t h =
    let r = whole_reads d i j x h in
    let b = expr_begins (r.spelled).spelled in
    omega (arith, ap length (r.way).rest, ap length b.text, length-append r.text j.rest)

sure_member : (Early : Type 0) (x : Expr) → Sure ⊥ Early (member x)
unfolding member
sure_member Early x = sure_followed ⊥ Early (sure_node Early) (λ u. sure_followed ⊥ Early (sure_name ⊥ Early) (λ n. sure_pure ⊥ Early _))

sure_no_target : (Early : Type 0) → Sure ⊥ Early no_target
unfolding no_target
sure_no_target Early = sure_branch ⊥ Early (is_mark OpenBrace) (sure_refused ⊥ Early) (sure_operand_refused ⊥ Early)

sure_target_name : (Early : Type 0) → Sure ⊥ Early target_name
unfolding target_name
sure_target_name Early = sure_choose ⊥ Early operand_name_of (λ n. sure_followed ⊥ Early (sure_node Early) (λ u. sure_pure ⊥ Early (Name n))) (sure_no_target Early)

member_less : (x : Expr) (i : Input) (y : Expr) (j : Input) → is_mark Dot (ahead i) ≡ true → member x i ≡ Ok (y, j) → length j.rest < length i.rest
member_less x i y j t h = let a = ahead_some (is_mark Dot) refl i t in member_shorter (inner 0) (inner_local 0) x i y j a.token a.rest h

sure_target_in : (Early : Type 0) → Sure ⊥ Early target_in
unfolding target_in
sure_target_in Early = sure_followed ⊥ Early (sure_target_name Early) (λ x. sure_while ⊥ Early (is_mark Dot) member refl (sure_member Early) member_less x)

sure_target : (Early : Type 0) → Sure (Unit {0}) Early target
unfolding target
sure_target Early = sure_apart Early target_in (sure_target_in Early)

-- What stands in a statement

pub inside_some : (o : Option Token) → goes_on_inside o ≡ true → is_some o ≡ true
inside_some None h = h
inside_some (Some t) h = refl

module _ (Early : Type 0) (d : ℕ) where
  abbrev Good : {A : Type 0} → Parser A → Type 0
  Good p = Sure (Unit {0}) Early p

  then_good : {A B : Type 0} {p : Parser A} {f : A → Parser B} → Good p → ((x : A) → Good (f x)) → Good (followed p f)
  then_good = sure_followed (Unit {0}) Early

  branch_good : {A : Type 0} (by : Option Token → Bool) {p q : Parser A} → Good p → Good q → Good (branch by p q)
  branch_good = sure_branch (Unit {0}) Early

  choose_good : {A B : Type 0} (table : Option Token → Option B) {p : B → Parser A} {q : Parser A} → ((y : B) → Good (p y)) → Good q → Good (choose table p q)
  choose_good = sure_choose (Unit {0}) Early

  pure_good : {A : Type 0} (x : A) → Good (λ i. Ok (x, i))
  pure_good = sure_pure (Unit {0}) Early

  refused_good : {A : Type 0} → Good {A = A} (λ i. Err (refusal i))
  refused_good = sure_refused (Unit {0}) Early

  token_good : Good take_token
  token_good = sure_token (Unit {0}) Early

  expect_good : (m : Mark) → Good (expect m)
  expect_good = sure_expect (Unit {0}) Early

  name_good : Good any_name
  name_good = sure_name (Unit {0}) Early

  whole_good : Good (whole d)
  whole_good = sure_whole Early d

  assigned_good : (x : Expr) (op : AssignOp) → Good (assigned d x op)
  unfolding assigned
  assigned_good x op = then_good token_good (λ u. then_good whole_good (λ y. pure_good (Assign x op y)))

  stepped_good : (x : Expr) (up : Bool) → Good (stepped x up)
  unfolding stepped
  stepped_good x up = then_good token_good (λ u. pure_good (Step x up))

  step_good : (other : Parser Stmt) → Good other → (x : Expr) (last : Option Token) → Good (step_or other x last)
  unfolding step_or
  step_good other good x last = choose_good (looked_up step_operator) (λ up. branch_good (same_line last) (stepped_good x up) good) good

  change_good : (other : Parser Stmt) → Good other → (x : Expr) (last : Option Token) → Good (change_or other d x last)
  unfolding change_or
  change_good other good x last = choose_good (looked_up assign_operator) (λ op. assigned_good x op) (step_good other good x last)

  initial_good : Good (initial d)
  unfolding initial
  initial_good = branch_good (is_mark Equal) (then_good token_good (λ u. then_good whole_good (λ x. pure_good (Some x)))) (pure_good None)

  local_good : (w : LocalWord) → Good (local_in d w)
  unfolding local_in
  local_good w = then_good token_good (λ u. then_good name_good (λ n. then_good initial_good (λ x. pure_good (LocalStmt w n x))))

  returned_good : (last : Option Token) → Good (returned d last)
  unfolding returned
  returned_good last = branch_good (gives_value last) (then_good whole_good (λ x. pure_good (Return (Some x)))) (pure_good (Return None))

  leave_good : Good (leave d)
  unfolding leave
  leave_good = sure_ahead (Unit {0}) Early (λ o. followed take_token (λ u. returned d o)) (λ o. then_good token_good (λ u. returned_good o))

  acted_good : (ts : List Token) (last : Option Token) (x : Expr) → Good (acted d ts last x)
  unfolding acted
  acted_good ts last x = branch_good (λ o. is_target ts) (change_good (λ i. Ok (Do x, i)) (pure_good (Do x)) x last) (pure_good (Do x))

  act_good : Good (act d)
  unfolding act
  act_good = sure_since (Unit {0}) Early (whole d) (λ ts x. acted d ts (last_of ts) x) whole_good (λ ts x. acted_good ts (last_of ts) x)

  -- Simple parts of `for`

  simple_local_good : Good (simple_local d)
  unfolding simple_local
  simple_local_good = then_good token_good (λ u. then_good name_good (λ n. then_good (expect_good Equal) (λ w. then_good whole_good (λ x. pure_good (LocalStmt AsVar n (Some x))))))

  simple_change_good : Good (simple_change d)
  unfolding simple_change
  simple_change_good = sure_since (Unit {0}) Early target (λ ts x. change_or refused d x (last_of ts)) (sure_target Early) (λ ts x. change_good refused refused_good x (last_of ts))

  simple_good : Good (simple d)
  unfolding simple
  simple_good = branch_good (is_word ww.Var) simple_local_good simple_change_good

  before_good : (m : Mark) → Good (simple_before m d)
  unfolding simple_before
  before_good m = branch_good (is_mark m) (pure_good None) (then_good simple_good (λ x. pure_good (Some x)))

  test_good : Good (test d)
  unfolding test
  test_good = branch_good (is_mark Semicolon) (pure_good None) (then_good whole_good (λ x. pure_good (Some x)))

  condition_good : Good (condition d)
  unfolding condition
  condition_good = then_good (expect_good OpenParen) (λ u. then_good whole_good (λ x. then_good (expect_good CloseParen) (λ w. pure_good x)))

  begun_good : (p : Parser Stmt) → Good p → Good (begun p)
  unfolding begun
  begun_good p good = branch_good begins_statement good (sure_operand_refused (Unit {0}) Early)

  -- Statements

  empty_good : Good empty_statement
  unfolding empty_statement
  empty_good = then_good token_good (λ u. pure_good Empty)

  ended_good : {A : Type 0} (p : Parser A) → Good p → Good (ended p)
  ended_good p good = sure_ended (Unit {0}) Early p good

  leave_grows : Grows (leave d)
  unfolding leave
  leave_grows = grows_ahead (λ o. followed take_token (λ u. returned d o)) (λ o. grows_behind _ (λ u. (returned_good o).local))

  act_grows : Grows (act d)
  unfolding act
  act_grows = grows_since (whole d) (λ ts x. acted d ts (last_of ts) x) (whole_grows d) (λ ts x. (acted_good ts (last_of ts) x).local)

  local_grows : (w : LocalWord) → Grows (local_in d w)
  unfolding local_in
  local_grows w = grows_behind _ (λ u. (then_good name_good (λ n. then_good initial_good (λ x. pure_good (LocalStmt w n x)))).local)

  empty_grows : Grows empty_statement
  unfolding empty_statement
  empty_grows = grows_behind _ (λ u. (pure_good Empty).local)

  module _ (v : Bodies) (nested : Good v.nested) (block : Good v.block) where
    block_good : Good (block_statement v)
    unfolding block_statement
    block_good = then_good block (λ xs. pure_good (Block xs))

    block_grows : Grows v.block → Grows (block_statement v)
    unfolding block_statement
    block_grows grows = grows_followed v.block _ grows (λ xs. (pure_good (Block xs)).local)

    otherwise_good : (x : Expr) (y : Stmt) → Good (otherwise v x y)
    unfolding otherwise
    otherwise_good x y = branch_good (is_word ww.Else) (then_good token_good (λ u. then_good nested (λ z. pure_good (If x y (Some z))))) (pure_good (If x y None))

    choice_good : Good (choice d v)
    unfolding choice
    choice_good = then_good token_good (λ u. then_good condition_good (λ x. then_good nested (λ y. otherwise_good x y)))

    while_good : Good (while_statement d v)
    unfolding while_statement
    while_good = then_good token_good (λ u. then_good condition_good (λ x. then_good nested (λ y. pure_good (While x y))))

    body_good : (a : Option Stmt) (x : Option Expr) (b : Option Stmt) → Good (for_body v a x b)
    unfolding for_body
    body_good a x b = then_good (expect_good CloseParen) (λ u. then_good nested (λ y. pure_good (For a x b y)))

    for_step_good : (a : Option Stmt) (x : Option Expr) → Good (for_step d v a x)
    unfolding for_step
    for_step_good a x = then_good (expect_good Semicolon) (λ u. then_good (before_good CloseParen) (λ b. body_good a x b))

    for_test_good : (a : Option Stmt) → Good (for_test d v a)
    unfolding for_test
    for_test_good a = then_good (expect_good Semicolon) (λ u. then_good test_good (λ x. for_step_good a x))

    for_good : Good (for_statement d v)
    unfolding for_statement
    for_good = then_good token_good (λ u. then_good (expect_good OpenParen) (λ w. then_good (before_good Semicolon) (λ a. for_test_good a)))

    by_word_good : Good (by_word d v)
    unfolding by_word
    by_word_good = branch_good (is_word ww.If) choice_good (branch_good (is_word ww.While) while_good (branch_good (is_word ww.For) for_good (branch_good (is_word ww.Return) (ended_good (leave d) leave_good) (ended_good (act d) act_good))))

    pub statement_good : Good (statement_in d v)
    unfolding statement_in
    statement_good = branch_good (is_mark OpenBrace) block_good (branch_good (is_mark Semicolon) empty_good (choose_good local_word_of (λ w. ended_good (local_in d w) (local_good w)) by_word_good))

    -- It takes a token or more

    choice_grows : Grows (choice d v)
    unfolding choice
    choice_grows = grows_behind _ (λ u. (then_good condition_good (λ x. then_good nested (λ y. otherwise_good x y))).local)

    while_grows : Grows (while_statement d v)
    unfolding while_statement
    while_grows = grows_behind _ (λ u. (then_good condition_good (λ x. then_good nested (λ y. pure_good (While x y)))).local)

    for_grows : Grows (for_statement d v)
    unfolding for_statement
    for_grows = grows_behind _ (λ u. (then_good (expect_good OpenParen) (λ w. then_good (before_good Semicolon) (λ a. for_test_good a))).local)

    by_word_grows : Grows (by_word d v)
    unfolding by_word
    by_word_grows = grows_branch (is_word ww.If) _ _ choice_grows (grows_branch (is_word ww.While) _ _ while_grows (grows_branch (is_word ww.For) _ _ for_grows (grows_branch (is_word ww.Return) _ _ (grows_ended (leave d) leave_grows) (grows_ended (act d) act_grows))))

    statement_grows : Grows v.block → Grows (statement_in d v)
    unfolding statement_in
    statement_grows grows = grows_branch (is_mark OpenBrace) _ _ (block_grows grows) (grows_branch (is_mark Semicolon) _ _ empty_grows (grows_choose local_word_of _ _ (λ w. grows_ended (local_in d w) (local_grows w)) by_word_grows))

    -- Statements in braces

    one_more_good : (xs : List Stmt) → Good (one_more d v xs)
    unfolding one_more
    one_more_good xs = then_good statement_good (λ x. pure_good (xs ++ x ∷ []))

    one_more_less : Grows v.block → (xs : List Stmt) (i : Input) (ys : List Stmt) (j : Input) → goes_on_inside (ahead i) ≡ true → one_more d v xs i ≡ Ok (ys, j) → length j.rest < length i.rest
    unfolding one_more
    one_more_less grows xs i ys j t h = grows_followed (statement_in d v) _ (statement_grows grows) (λ x. (pure_good (xs ++ x ∷ [])).local) i ys j (inside_some (ahead i) t) h

    pub statements_good : Grows v.block → Good (statements d v)
    unfolding statements
    statements_good grows = then_good (sure_while (Unit {0}) Early goes_on_inside (one_more d v) refl one_more_good (one_more_less grows) []) (λ xs. then_good (expect_good CloseBrace) (λ u. pure_good xs))

    pub braces_good : Grows v.block → Good (braces d v)
    unfolding braces
    braces_good grows = then_good token_good (λ u. statements_good grows)

    pub braces_grow : Grows v.block → Grows (braces d v)
    unfolding braces
    braces_grow grows = grows_behind _ (λ u. (statements_good grows).local)

-- All levels

pub record SureBodies (Early : Type 0) (v : Bodies) : Type 0 where
  pub nested : Sure (Unit {0}) Early v.nested
  pub block : Sure (Unit {0}) Early v.block
  pub grows : Grows v.block

pub sure_bodies : (Early : Type 0) (d : ℕ) → SureBodies Early (bodies d)
unfolding bodies
sure_bodies Early zero = record {
  nested = begun_good Early 0 too_deep (sure_too_deep (Unit {0}) Early);
  block = sure_too_deep (Unit {0}) Early;
  grows = λ i x j t h. absurd cc;
}
sure_bodies Early (suc d) =
    let v = sure_bodies Early d in
    record {
      nested = begun_good Early d (statement_in d (bodies d)) (statement_good Early d (bodies d) v.nested v.block);
      block = braces_good Early d (bodies d) v.nested v.block v.grows;
      grows = braces_grow Early d (bodies d) v.nested v.block v.grows;
    }

pub sure_statement : (Early : Type 0) (d : ℕ) → Sure (Unit {0}) Early (statement d)
unfolding statement
sure_statement Early d = let v = sure_bodies Early d in statement_good Early d (bodies d) v.nested v.block
