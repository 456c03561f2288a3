-- How the readings of statements go on: behind a target, a level further in, and from turn to turn.
use Rattle.std.proofs.Common.{◌≡◌, ℕ, zero, suc, ◌&&◌, ◌||◌, Bool, true, false, if◌then◌else◌, List, [], length, Option, Some, None, refl, ap, ◌∙◌, arith}
use Rattle.std.specs.Prelude.{Ok, Err, is_some}
use Rattle.qml_ast.specs.declared.expr.Expr.{Expr}
use Rattle.qml_ast.specs.declared.fault.DocFault.{DocFault}
use Rattle.qml_ast.specs.declared.fault.DocFault.TheVariants.{TooDeep}
use Rattle.qml_ast.specs.declared.stmt.AssignOp.{AssignOp}
use Rattle.qml_ast.specs.declared.stmt.Stmt.{Stmt}
use Rattle.qml_ast.specs.declared.stmt.Stmt.TheVariants.{Do}
use Rattle.qml_grammar.specs.Expressions.{member}
use Rattle.qml_grammar.specs.Inputs.{Input, Parser, ahead, after, place, operand_refusal, refused, while_next, repeated}
use Rattle.qml_grammar.specs.Lexemes.{Token, is_mark, looked_up, assign_operator, step_operator, same_line}
use Rattle.qml_grammar.specs.StatementGrammar.{changes_on}
use Rattle.qml_grammar.specs.Statements.{is_target, target_name, target_in, assigned, stepped, step_or, change_or, acted, begins_statement, begun, goes_on_inside, one_more, statement, statement_in, braces, bodies, statements}
use Rattle.qml_grammar.specs.declared.mark.Mark.TheVariants.{Dot}
use Rattle.qml_expr.proofs.Steps.{bound, failed, first_turn}
use Rattle.qml_stmt.specs.Runs.{run}

-- Changes

-- what an assignment's mark gives, or a step on the line, or else `p`
module _ {R : Type 0} (f : AssignOp → R) (g : Bool → R) where
  abbrev told_by : Option AssignOp → Option Bool → Bool → R → R
  told_by a s l p = elim a [ Some op ↦ f op | None ↦ elim s [ Some up ↦ (if l then g up else p) | None ↦ p ] ]

  either_way : (a : Option AssignOp) (s : Option Bool) (l : Bool) (p q : R) → (is_some a || is_some s && l) ≡ true → told_by a s l p ≡ told_by a s l q
  either_way (Some op) s l p q h = refl
  either_way None (Some up) true p q h = refl
  either_way None (Some up) false p q h = absurd (grind arith)
  either_way None None l p q h = absurd (grind arith)

  neither : (a : Option AssignOp) (s : Option Bool) (l : Bool) (p : R) → (is_some a || is_some s && l) ≡ false → told_by a s l p ≡ p
  neither (Some op) s l p h = absurd (grind arith)
  neither None (Some up) true p h = absurd (grind arith)
  neither None (Some up) false p h = refl
  neither None None l p h = refl

pub acted_changed : (d : ℕ) (ts : List Token) (last : Option Token) (x : Expr) (i : Input) → is_target ts ≡ true → changes_on last (ahead i) ≡ true → acted d ts last x i ≡ change_or refused d x last i
unfolding acted change_or step_or
acted_changed d ts last x i is on =
    ap (λ (b : Bool). if b then change_or (λ j. Ok (Do x, j)) d x last i else Ok (Do x, i)) is
    ∙ either_way (λ op. assigned d x op i) (λ up. stepped x up i) (looked_up assign_operator (ahead i)) (looked_up step_operator (ahead i)) (same_line last (ahead i)) (Ok (Do x, i)) (refused i) on

pub acted_alone : (d : ℕ) (ts : List Token) (last : Option Token) (x : Expr) (i : Input) → (is_target ts && changes_on last (ahead i)) ≡ false → acted d ts last x i ≡ Ok (Do x, i)
unfolding acted change_or step_or
acted_alone d ts last x i h = alone (is_target ts) h
  where
    alone : (b : Bool) → (b && changes_on last (ahead i)) ≡ false → (if b then change_or (λ j. Ok (Do x, j)) d x last i else Ok (Do x, i)) ≡ Ok (Do x, i)
    alone true e = neither (λ op. assigned d x op i) (λ up. stepped x up i) (looked_up assign_operator (ahead i)) (looked_up step_operator (ahead i)) (same_line last (ahead i)) (Ok (Do x, i)) e
    alone false e = refl

-- Targets

pub target_begins : (k : ℕ) (i j : Input) (x : Expr) → target_name i ≡ Ok (x, j) → k ≡ length j.rest → target_in i ≡ repeated (is_mark Dot) member k x j
unfolding target_in
target_begins k i j x e turns =
    bound target_name (λ y. while_next (is_mark Dot) member y) i j x e
    ∙ first_turn (is_mark Dot) member k x j turns

pub target_fault : (i : Input) (f : DocFault) → target_name i ≡ Err f → target_in i ≡ Err f
unfolding target_in
target_fault i f e = failed target_name (λ y. while_next (is_mark Dot) member y) i f e

-- Levels

begun_not : (p : Parser Stmt) (i : Input) → begins_statement (ahead i) ≡ false → begun p i ≡ Err (operand_refusal i)
unfolding begun
begun_not p i h = ap (λ (b : Bool). if b then p i else Err (operand_refusal i)) h

begun_so : (p : Parser Stmt) (i : Input) → begins_statement (ahead i) ≡ true → begun p i ≡ p i
unfolding begun
begun_so p i h = ap (λ (b : Bool). if b then p i else Err (operand_refusal i)) h

pub nested_not : (levels : ℕ) (i : Input) → begins_statement (ahead i) ≡ false → (bodies levels).nested i ≡ Err (operand_refusal i)
unfolding bodies
nested_not zero i h = begun_not (λ j. Err (TooDeep (place j))) i h
nested_not (suc d) i h = begun_not (statement_in d (bodies d)) i h

pub nested_none : (levels : ℕ) (i : Input) → levels ≡ 0 → begins_statement (ahead i) ≡ true → (bodies levels).nested i ≡ Err (TooDeep (place i))
unfolding bodies
nested_none zero i e h = begun_so (λ j. Err (TooDeep (place j))) i h
nested_none (suc d) i e h = absurd (omega arith)

pub nested_more : (levels d : ℕ) (i : Input) → levels ≡ suc d → begins_statement (ahead i) ≡ true → (bodies levels).nested i ≡ statement d i
unfolding bodies statement
nested_more zero d i e h = absurd (omega arith)
nested_more (suc c) d i e h =
    let same : c ≡ d = omega arith in
    begun_so (statement_in c (bodies c)) i h ∙ ap (λ (k : ℕ). statement_in k (bodies k) i) same

pub block_none : (levels : ℕ) (i : Input) → levels ≡ 0 → (bodies levels).block i ≡ Err (TooDeep (place i))
unfolding bodies
block_none zero i e = refl
block_none (suc d) i e = absurd (omega arith)

pub block_more : (levels d : ℕ) (i : Input) → levels ≡ suc d → (bodies levels).block i ≡ statements d (bodies d) (after i)
unfolding bodies braces
block_more zero d i e = absurd (omega arith)
block_more (suc c) d i e = let same : c ≡ d = omega arith in ap (λ (k : ℕ). statements k (bodies k) (after i)) same

pub run_begins : (d k : ℕ) (i : Input) → k ≡ length i.rest → run d (bodies d) i ≡ repeated goes_on_inside (one_more d (bodies d)) k [] i
unfolding run
run_begins d k i turns = first_turn goes_on_inside (one_more d (bodies d)) k [] i turns
