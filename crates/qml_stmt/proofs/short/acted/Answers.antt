-- A target that is changed reads as the change, and any other expression as itself.
use Rattle.std.proofs.Common.{◌≡◌, ◌&&◌, false, arith, rules}
use Rattle.std.proofs.lemmas.Grind.{common_steps}
use Rattle.qml_grammar.specs.Inputs.{ahead, refused}
use Rattle.qml_grammar.specs.Lexemes as lexemes
use Rattle.qml_grammar.specs.StatementGrammar.{changes_on}
use Rattle.qml_grammar.specs.Statements.{is_target, acted, change_or}
use Rattle.qml_expr.proofs.Steps.{retold}
use Rattle.qml_expr.specs.Seen.{input_of, tokens_of}
use Rattle.qml_stmt.proofs.Steps.{acted_changed, acted_alone}
use Rattle.qml_stmt.proofs.short.acted.Goals as goal

pub returns-then-changes_on : goal.returns-then-changes_on
returns-then-changes_on c =
    let i = input_of c.args.cursor.now in
    let ts = tokens_of c.args.read.now in
    let last = lexemes.last_of ts in
    retold (acted c.args.levels ts last c.args.expr i) (change_or refused c.args.levels c.args.expr last i) c.change.result (input_of c.change.new.cursor)
    (acted_changed c.args.levels ts last c.args.expr i (first_of (cc, search rules, grind (arith, common_steps))) (first_of (cc, search rules, grind (arith, common_steps))))
    (first_of (cc, search rules, grind (arith, common_steps)))

pub returns : goal.returns
returns c =
    let i = input_of c.args.cursor.now in
    let ts = tokens_of c.args.read.now in
    let last = lexemes.last_of ts in
    let alone : (is_target ts && changes_on last (ahead i)) ≡ false = first_of (search rules, grind (arith, common_steps)) in
    let e = acted_alone c.args.levels ts last c.args.expr i alone in
    first_of (cc, search rules, grind (arith, common_steps))
