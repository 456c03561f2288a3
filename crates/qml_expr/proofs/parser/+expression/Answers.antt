use Rattle.std.proofs.Common.{◌≡◌, ◌≢◌, ◌-◌, ◌∙◌, [], ◌∷◌, arith, rules}
use Rattle.std.proofs.lemmas.Grind.{common_steps}
use Rattle.qml_ast.specs.declared.fault.DocFault.TheVariants.{NoMemory}
use Rattle.qml_grammar.specs.Expressions.{inner, expr, unary_in, begins_postfix, postfix, postfixes, argument}
use Rattle.qml_grammar.specs.Lexemes.{is_mark}
use Rattle.qml_grammar.specs.declared.mark.Mark.TheVariants.{Comma}
use Rattle.qml_expr.specs.Lists.{listed}
use Rattle.qml_expr.specs.Precedences.{operands_at, begins_at, operation_at}
use Rattle.qml_expr.specs.Seen.{input_of}
use Rattle.qml_expr.proofs.Steps.{retold, expr_none, expr_more, unary_none, unary_more, turn_on, turn_fault, turn_stop, turn_end, first_turn, operands_begin, operands_fault, postfixes_begin, postfixes_fault, listed_first, listed_fault}
use Rattle.qml_expr.proofs.parser.+expression.Goals as goal

pub inner_expression-returns-then-levels-eq0 : goal.inner_expression-returns-then-levels-eq0
inner_expression-returns-then-levels-eq0 t c _ = rw c.too_deep.ensures (expr_none c.args.levels (input_of c.args.cursor.now) (omega arith))

pub inner_expression-returns : goal.inner_expression-returns
inner_expression-returns t c =
    let i = input_of c.args.cursor.now in
    retold ((inner c.args.levels).expr i) (expr (c.args.levels - 1) i) c.expression.result (input_of c.expression.new.cursor) (expr_more c.args.levels (c.args.levels - 1) i (omega arith)) c.expression.ensures

pub inner_unary-returns-then-levels-eq0 : goal.inner_unary-returns-then-levels-eq0
inner_unary-returns-then-levels-eq0 t c _ = rw c.too_deep.ensures (unary_none c.args.levels (input_of c.args.cursor.now) (omega arith))

pub inner_unary-returns : goal.inner_unary-returns
inner_unary-returns t c =
    let i = input_of c.args.cursor.now in
    retold ((inner c.args.levels).unary i) (unary_in (inner (c.args.levels - 1)) i) c.unary.result (input_of c.unary.new.cursor) (unary_more c.args.levels (c.args.levels - 1) i (omega arith)) c.unary.ensures

pub operands-returns-in_err-read : goal.operands-returns-in_err-read
operands-returns-in_err-read t c =
    let e = λ (n : c.in_err-read.field-0.0 ≢ NoMemory). operands_fault c.args.precedence (inner c.args.levels) (input_of c.args.cursor.now) c.in_err-read.field-0.0 (c.in_err-read.ensures n) in
    first_of (search rules, grind (arith, common_steps))

pub operands-loop-turn-init : goal.operands-loop-turn-init
operands-loop-turn-init t c =
    operands_begin c.args.precedence (inner c.args.levels) (input_of c.args.cursor.now) (input_of c.operand.new.cursor) c.in_ok-read.read c.in_ok-read.ensures
    ∙ first_turn (begins_at c.args.precedence) (operation_at c.args.precedence (inner c.args.levels)) (c.left-turn-end.result - 0) c.in_ok-read.read (input_of c.operand.new.cursor) (omega arith)

pub operands-returns-then-not-begins : goal.operands-returns-then-not-begins
operands-returns-then-not-begins t c =
    turn_stop (begins_at c.args.precedence) (operation_at c.args.precedence (inner c.args.levels)) (operands_at c.args.precedence (inner c.args.levels) (input_of c.args.cursor.now)) c.left-turn-end.result c.loop-turn._turn c.loop-turn.read (input_of c.loop-turn.cursor) c.loop-turn.invariant
    (first_of (cc, search rules, grind (arith, common_steps)))

pub operands-returns-in_err-read-2 : goal.operands-returns-in_err-read-2
operands-returns-in_err-read-2 t c =
    let e = λ (n : c.in_err-read-2.field-0.0 ≢ NoMemory). turn_fault (begins_at c.args.precedence) (operation_at c.args.precedence (inner c.args.levels)) (operands_at c.args.precedence (inner c.args.levels) (input_of c.args.cursor.now)) c.left-turn-end.result c.loop-turn._turn c.loop-turn.read (input_of c.loop-turn.cursor) c.in_err-read-2.field-0.0 c.loop-turn-test.true c.loop-turn.invariant (first_of (cc, search rules, grind (arith, common_steps))) (c.in_err-read-2.ensures n) in
    first_of (search rules, grind (arith, common_steps))

pub operands-loop-turn-preserved : goal.operands-loop-turn-preserved
operands-loop-turn-preserved t c =
    turn_on (begins_at c.args.precedence) (operation_at c.args.precedence (inner c.args.levels)) (operands_at c.args.precedence (inner c.args.levels) (input_of c.args.cursor.now)) c.left-turn-end.result c.loop-turn._turn c.loop-turn.read c.in_ok-read-2.read (input_of c.loop-turn.cursor) (input_of c.operation.new.cursor) c.loop-turn-test.true c.loop-turn.invariant
    (first_of (cc, search rules, grind (arith, common_steps)))
    c.in_ok-read-2.ensures

pub operands-returns : goal.operands-returns
operands-returns t c = turn_end (begins_at c.args.precedence) (operation_at c.args.precedence (inner c.args.levels)) (operands_at c.args.precedence (inner c.args.levels) (input_of c.args.cursor.now)) c.left-turn-end.result c.loop-turn._turn c.loop-turn.read (input_of c.loop-turn.cursor) c.loop-turn-test.false c.loop-turn.invariant

pub postfixes-returns-in_err-read : goal.postfixes-returns-in_err-read
postfixes-returns-in_err-read t c =
    let e = λ (n : c.in_err-read.field-0.0 ≢ NoMemory). postfixes_fault (inner c.args.levels) (input_of c.args.cursor.now) c.in_err-read.field-0.0 (c.in_err-read.ensures n) in
    first_of (search rules, grind (arith, common_steps))

pub postfixes-loop-turn-init : goal.postfixes-loop-turn-init
postfixes-loop-turn-init t c =
    postfixes_begin (inner c.args.levels) (input_of c.args.cursor.now) (input_of c.primary.new.cursor) c.in_ok-read.read c.in_ok-read.ensures
    ∙ first_turn begins_postfix (postfix (inner c.args.levels)) (c.left-turn-end.result - 0) c.in_ok-read.read (input_of c.primary.new.cursor) (omega arith)

pub postfixes-returns-then-not-begins_postfix : goal.postfixes-returns-then-not-begins_postfix
postfixes-returns-then-not-begins_postfix t c =
    turn_stop begins_postfix (postfix (inner c.args.levels)) (postfixes (inner c.args.levels) (input_of c.args.cursor.now)) c.left-turn-end.result c.loop-turn._turn c.loop-turn.read (input_of c.loop-turn.cursor) c.loop-turn.invariant
    (first_of (cc, search rules, grind (arith, common_steps)))

pub postfixes-returns-in_err-read-2 : goal.postfixes-returns-in_err-read-2
postfixes-returns-in_err-read-2 t c =
    let e = λ (n : c.in_err-read-2.field-0.0 ≢ NoMemory). turn_fault begins_postfix (postfix (inner c.args.levels)) (postfixes (inner c.args.levels) (input_of c.args.cursor.now)) c.left-turn-end.result c.loop-turn._turn c.loop-turn.read (input_of c.loop-turn.cursor) c.in_err-read-2.field-0.0 c.loop-turn-test.true c.loop-turn.invariant (first_of (cc, search rules, grind (arith, common_steps))) (c.in_err-read-2.ensures n) in
    first_of (search rules, grind (arith, common_steps))

pub postfixes-loop-turn-preserved : goal.postfixes-loop-turn-preserved
postfixes-loop-turn-preserved t c =
    turn_on begins_postfix (postfix (inner c.args.levels)) (postfixes (inner c.args.levels) (input_of c.args.cursor.now)) c.left-turn-end.result c.loop-turn._turn c.loop-turn.read c.in_ok-read-2.read (input_of c.loop-turn.cursor) (input_of c.postfix.new.cursor) c.loop-turn-test.true c.loop-turn.invariant
    (first_of (cc, search rules, grind (arith, common_steps)))
    c.in_ok-read-2.ensures

pub postfixes-returns : goal.postfixes-returns
postfixes-returns t c = turn_end begins_postfix (postfix (inner c.args.levels)) (postfixes (inner c.args.levels) (input_of c.args.cursor.now)) c.left-turn-end.result c.loop-turn._turn c.loop-turn.read (input_of c.loop-turn.cursor) c.loop-turn-test.false c.loop-turn.invariant

pub listed-returns-in_err-first : goal.listed-returns-in_err-first
listed-returns-in_err-first t c =
    let e = λ (n : c.in_err-first.field-0.0 ≢ NoMemory). listed_fault (inner c.args.levels) (input_of c.args.cursor.now) c.in_err-first.field-0.0 (c.in_err-first.ensures n) in
    first_of (search rules, grind (arith, common_steps))

pub listed-loop-turn-init : goal.listed-loop-turn-init
listed-loop-turn-init t c =
    let one : c.push.new.self ≡ c.in_ok-first.first ∷ [] = first_of (search rules, cc, grind (arith, common_steps)) in
    listed_first (inner c.args.levels) (c.left-turn-end.result - 0) (input_of c.args.cursor.now) (input_of c.inner_expression.new.cursor) c.in_ok-first.first c.push.new.self one c.in_ok-first.ensures (omega arith)

pub listed-returns-then-not-sees : goal.listed-returns-then-not-sees
listed-returns-then-not-sees t c =
    turn_stop (is_mark Comma) (argument (inner c.args.levels)) (listed (inner c.args.levels) (input_of c.args.cursor.now)) c.left-turn-end.result c.loop-turn._turn c.loop-turn.arguments (input_of c.loop-turn.cursor) c.loop-turn.invariant
    (first_of (cc, search rules, grind (arith, common_steps)))

pub listed-returns-in_err-arguments : goal.listed-returns-in_err-arguments
listed-returns-in_err-arguments t c =
    let e = λ (n : c.in_err-arguments.field-0.0 ≢ NoMemory). turn_fault (is_mark Comma) (argument (inner c.args.levels)) (listed (inner c.args.levels) (input_of c.args.cursor.now)) c.left-turn-end.result c.loop-turn._turn c.loop-turn.arguments (input_of c.loop-turn.cursor) c.in_err-arguments.field-0.0 c.loop-turn-test.true c.loop-turn.invariant (first_of (cc, search rules, grind (arith, common_steps))) (c.in_err-arguments.ensures n) in
    first_of (search rules, grind (arith, common_steps))

pub listed-loop-turn-preserved : goal.listed-loop-turn-preserved
listed-loop-turn-preserved t c =
    turn_on (is_mark Comma) (argument (inner c.args.levels)) (listed (inner c.args.levels) (input_of c.args.cursor.now)) c.left-turn-end.result c.loop-turn._turn c.loop-turn.arguments c.in_ok-arguments.arguments (input_of c.loop-turn.cursor) (input_of c.argument.new.cursor) c.loop-turn-test.true c.loop-turn.invariant
    (first_of (cc, search rules, grind (arith, common_steps)))
    c.in_ok-arguments.ensures

pub listed-returns : goal.listed-returns
listed-returns t c = turn_end (is_mark Comma) (argument (inner c.args.levels)) (listed (inner c.args.levels) (input_of c.args.cursor.now)) c.left-turn-end.result c.loop-turn._turn c.loop-turn.arguments (input_of c.loop-turn.cursor) c.loop-turn-test.false c.loop-turn.invariant
