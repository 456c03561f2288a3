use Rattle.std.proofs.Common.{◌≢◌, ◌-◌, arith, rules}
use Rattle.std.proofs.lemmas.Grind.{common_steps}
use Rattle.qml_ast.specs.declared.fault.DocFault.TheVariants.{NoMemory}
use Rattle.qml_grammar.specs.Inputs.{while_next}
use Rattle.qml_grammar.specs.Documents.{one_import}
use Rattle.qml_grammar.specs.Lexemes.{is_word}
use Rattle.qml_grammar.specs.declared.word.Word.TheVariants as ww
use Rattle.qml_expr.specs.Seen.{input_of}
use Rattle.qml_expr.proofs.Steps.{turn_on, turn_fault, turn_stop, turn_end, first_turn}
use Rattle.qml_parse.proofs.import.further.Goals as goal

pub loop-turn-init : goal.loop-turn-init
loop-turn-init c = first_turn (is_word ww.Import) one_import (c.left-turn-end.result - 0) c.args.first (input_of c.args.cursor.now) (omega arith)

pub returns-then-not-sees_word : goal.returns-then-not-sees_word
returns-then-not-sees_word c =
    turn_stop (is_word ww.Import) one_import (while_next (is_word ww.Import) one_import c.args.first (input_of c.args.cursor.now)) c.left-turn-end.result c.loop-turn._turn c.loop-turn.imports (input_of c.loop-turn.cursor) c.loop-turn.invariant
    (first_of (cc, search rules, grind (arith, common_steps)))

pub returns-in_err-imports : goal.returns-in_err-imports
returns-in_err-imports c =
    let e = λ (n : c.in_err-imports.field-0.0 ≢ NoMemory). turn_fault (is_word ww.Import) one_import (while_next (is_word ww.Import) one_import c.args.first (input_of c.args.cursor.now)) c.left-turn-end.result c.loop-turn._turn c.loop-turn.imports (input_of c.loop-turn.cursor) c.in_err-imports.field-0.0 c.loop-turn-test.true c.loop-turn.invariant (first_of (cc, search rules, grind (arith, common_steps))) (c.in_err-imports.ensures n) in
    first_of (search rules, grind (arith, common_steps))

pub loop-turn-preserved : goal.loop-turn-preserved
loop-turn-preserved c =
    turn_on (is_word ww.Import) one_import (while_next (is_word ww.Import) one_import c.args.first (input_of c.args.cursor.now)) c.left-turn-end.result c.loop-turn._turn c.loop-turn.imports c.in_ok-imports.imports (input_of c.loop-turn.cursor) (input_of c.one_import.new.cursor) c.loop-turn-test.true c.loop-turn.invariant
    (first_of (cc, search rules, grind (arith, common_steps)))
    c.in_ok-imports.ensures

pub returns : goal.returns
returns c = turn_end (is_word ww.Import) one_import (while_next (is_word ww.Import) one_import c.args.first (input_of c.args.cursor.now)) c.left-turn-end.result c.loop-turn._turn c.loop-turn.imports (input_of c.loop-turn.cursor) c.loop-turn-test.false c.loop-turn.invariant
