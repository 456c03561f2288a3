-- A level further in, and the statements of a block turn by turn.
use Rattle.std.proofs.Common.{◌≡◌, ◌≢◌, ◌-◌, true, false, ap, sym, ◌∙◌, arith, rules}
use Rattle.std.proofs.lemmas.Grind.{common_steps}
use Rattle.qml_ast.specs.declared.fault.DocFault.TheVariants.{NoMemory}
use Rattle.qml_grammar.specs.Inputs.{ahead, after}
use Rattle.qml_grammar.specs.Statements.{begins_statement, bodies, goes_on_inside, one_more, statement, statements}
use Rattle.qml_expr.proofs.Steps.{retold, turn_on, turn_fault, turn_stop, turn_end}
use Rattle.qml_expr.specs.Seen.{input_of}
use Rattle.qml_stmt.specs.Runs.{run}
use Rattle.qml_stmt.proofs.Steps.{nested_not, nested_none, nested_more, block_none, block_more, run_begins}
use Rattle.qml_stmt.proofs.parser.+statement.Goals as goal

pub nested-returns-then-not-begins_statement : goal.nested-returns-then-not-begins_statement
nested-returns-then-not-begins_statement t c =
    let i = input_of c.args.cursor.now in
    let not_so : begins_statement (ahead i) ≡ false = first_of (cc, search rules, grind (arith, common_steps)) in
    λ n. rw c.operand_refusal.ensures (nested_not c.args.levels i not_so)

pub nested-returns-then-levels-eq0 : goal.nested-returns-then-levels-eq0
nested-returns-then-levels-eq0 t c =
    let i = input_of c.args.cursor.now in
    let so : begins_statement (ahead i) ≡ true = first_of (cc, search rules, grind (arith, common_steps)) in
    λ n. rw c.too_deep.ensures (nested_none c.args.levels i (omega arith) so)

pub nested-returns : goal.nested-returns
nested-returns t c =
    let i = input_of c.args.cursor.now in
    let so : begins_statement (ahead i) ≡ true = first_of (cc, search rules, grind (arith, common_steps)) in
    retold ((bodies c.args.levels).nested i) (statement (c.args.levels - 1) i) c.statement.result (input_of c.statement.new.cursor) (nested_more c.args.levels (c.args.levels - 1) i (omega arith) so) c.statement.ensures

pub block-returns-then-levels-eq0 : goal.block-returns-then-levels-eq0
block-returns-then-levels-eq0 t c _ = rw c.too_deep.ensures (block_none c.args.levels (input_of c.args.cursor.now) (omega arith))

pub block-returns : goal.block-returns
block-returns t c =
    let i = input_of c.args.cursor.now in
    let d = c.args.levels - 1 in
    let skipped : statements d (bodies d) (input_of c.skip.new.self) ≡ statements d (bodies d) (after i) = ap (statements d (bodies d)) c.skip.ensures in
    retold ((bodies c.args.levels).block i) (statements d (bodies d) (input_of c.skip.new.self)) c.statements.result (input_of c.statements.new.cursor) (block_more c.args.levels d i (omega arith) ∙ sym skipped) c.statements.ensures

pub run-loop-turn-init : goal.run-loop-turn-init
run-loop-turn-init t c =
    let begins = run_begins c.args.levels (c.left-turn-end.result - 0) (input_of c.args.cursor.now) (omega arith) in
    first_of (cc, search rules, grind (arith, common_steps))

pub run-returns-then-not-goes_on_inside : goal.run-returns-then-not-goes_on_inside
run-returns-then-not-goes_on_inside t c =
    turn_stop goes_on_inside (one_more c.args.levels (bodies c.args.levels)) (run c.args.levels (bodies c.args.levels) (input_of c.args.cursor.now)) c.left-turn-end.result c.loop-turn._turn c.loop-turn.stmts (input_of c.loop-turn.cursor) c.loop-turn.invariant
    (first_of (cc, search rules, grind (arith, common_steps)))

pub run-returns-in_err-stmts : goal.run-returns-in_err-stmts
run-returns-in_err-stmts t c =
    let e = λ (n : c.in_err-stmts.field-0.0 ≢ NoMemory). turn_fault goes_on_inside (one_more c.args.levels (bodies c.args.levels)) (run c.args.levels (bodies c.args.levels) (input_of c.args.cursor.now)) c.left-turn-end.result c.loop-turn._turn c.loop-turn.stmts (input_of c.loop-turn.cursor) c.in_err-stmts.field-0.0 c.loop-turn-test.true c.loop-turn.invariant (first_of (cc, search rules, grind (arith, common_steps))) (c.in_err-stmts.ensures n) in
    first_of (search rules, grind (arith, common_steps))

pub run-loop-turn-preserved : goal.run-loop-turn-preserved
run-loop-turn-preserved t c =
    turn_on goes_on_inside (one_more c.args.levels (bodies c.args.levels)) (run c.args.levels (bodies c.args.levels) (input_of c.args.cursor.now)) c.left-turn-end.result c.loop-turn._turn c.loop-turn.stmts c.in_ok-stmts.stmts (input_of c.loop-turn.cursor) (input_of c.one_more.new.cursor) c.loop-turn-test.true c.loop-turn.invariant
    (first_of (cc, search rules, grind (arith, common_steps)))
    c.in_ok-stmts.ensures

pub run-returns : goal.run-returns
run-returns t c = turn_end goes_on_inside (one_more c.args.levels (bodies c.args.levels)) (run c.args.levels (bodies c.args.levels) (input_of c.args.cursor.now)) c.left-turn-end.result c.loop-turn._turn c.loop-turn.stmts (input_of c.loop-turn.cursor) c.loop-turn-test.false c.loop-turn.invariant
