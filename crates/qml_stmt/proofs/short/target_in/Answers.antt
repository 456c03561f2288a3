-- A target from its first name on, turn by turn.
use Rattle.std.proofs.Common.{◌≢◌, ◌-◌, arith, rules}
use Rattle.std.proofs.lemmas.Grind.{common_steps}
use Rattle.qml_ast.specs.declared.fault.DocFault.TheVariants.{NoMemory}
use Rattle.qml_grammar.specs.Expressions.{member}
use Rattle.qml_grammar.specs.Lexemes.{is_mark}
use Rattle.qml_grammar.specs.Statements.{target_in}
use Rattle.qml_grammar.specs.declared.mark.Mark.TheVariants.{Dot}
use Rattle.qml_expr.proofs.Steps.{turn_on, turn_fault, turn_stop, turn_end}
use Rattle.qml_expr.specs.Seen.{input_of}
use Rattle.qml_stmt.proofs.Steps.{target_begins, target_fault}
use Rattle.qml_stmt.proofs.short.target_in.Goals as goal

pub returns-in_err-read : goal.returns-in_err-read
returns-in_err-read c =
    let e = λ (n : c.in_err-read.field-0.0 ≢ NoMemory). target_fault (input_of c.args.cursor.now) c.in_err-read.field-0.0 (c.in_err-read.ensures n) in
    first_of (search rules, grind (arith, common_steps))

pub loop-turn-init : goal.loop-turn-init
loop-turn-init c = target_begins (c.left-turn-end.result - 0) (input_of c.args.cursor.now) (input_of c.target_name.new.cursor) c.in_ok-read.read c.in_ok-read.ensures (omega arith)

pub returns-then-not-sees : goal.returns-then-not-sees
returns-then-not-sees c =
    turn_stop (is_mark Dot) member (target_in (input_of c.args.cursor.now)) c.left-turn-end.result c.loop-turn._turn c.loop-turn.read (input_of c.loop-turn.cursor) c.loop-turn.invariant
    (first_of (cc, search rules, grind (arith, common_steps)))

pub returns-in_err-read-2 : goal.returns-in_err-read-2
returns-in_err-read-2 c =
    let e = λ (n : c.in_err-read-2.field-0.0 ≢ NoMemory). turn_fault (is_mark Dot) member (target_in (input_of c.args.cursor.now)) c.left-turn-end.result c.loop-turn._turn c.loop-turn.read (input_of c.loop-turn.cursor) c.in_err-read-2.field-0.0 c.loop-turn-test.true c.loop-turn.invariant (first_of (cc, search rules, grind (arith, common_steps))) (c.in_err-read-2.ensures n) in
    first_of (search rules, grind (arith, common_steps))

pub loop-turn-preserved : goal.loop-turn-preserved
loop-turn-preserved c =
    turn_on (is_mark Dot) member (target_in (input_of c.args.cursor.now)) c.left-turn-end.result c.loop-turn._turn c.loop-turn.read c.in_ok-read-2.read (input_of c.loop-turn.cursor) (input_of c.member.new.cursor) c.loop-turn-test.true c.loop-turn.invariant
    (first_of (cc, search rules, grind (arith, common_steps)))
    c.in_ok-read-2.ensures

pub returns : goal.returns
returns c = turn_end (is_mark Dot) member (target_in (input_of c.args.cursor.now)) c.left-turn-end.result c.loop-turn._turn c.loop-turn.read (input_of c.loop-turn.cursor) c.loop-turn-test.false c.loop-turn.invariant
