use Rattle.std.proofs.Common.{◌∙◌, ap, map, ◌++◌}
use Rattle.qml_grammar.specs.Canonical.{braced, stmt_text}
use Rattle.qml_print.proofs.Statements.{rewritten, block_text, if_text, while_text, for_text, simple_text}
use Rattle.qml_print.proofs.stmt.+write_stmt.Goals as goal

pub write_stmt-returns-in-Block : goal.write_stmt-returns-in-Block
write_stmt-returns-in-Block t c =
    rewritten c.write_block.result c.write_block.new.out _ _
    (ap (λ stmts. c.args.out.now ++ braced (map stmt_text stmts) c.args.levels) c.as_slice.ensures
    ∙ block_text c.args.stmt.now c.in-Block.stmts c.args.levels c.args.out.now c.in-Block.is)
    c.write_block.ensures

pub write_stmt-returns-in_ok-write_stmt-in-If : goal.write_stmt-returns-in_ok-write_stmt-in-If
write_stmt-returns-in_ok-write_stmt-in-If t c =
    rewritten c.write_otherwise.result c.write_otherwise.new.out _ _
    (if_text c.args.stmt.now c.in-If.condition c.in-If.then c.in-If.otherwise c.args.levels c.args.out.now c.put.new.self c.write_expr.new.out c.put-in-If.new.self c.write_stmt.new.out
    c.in-If.is c.in_ok-put-in-If.ensures c.in_ok-write_expr-in-If.ensures c.in_ok-put-in-If-2.ensures
    (c.in_ok-write_stmt-in-If.ensures ∙ ap (λ stmt. c.put-in-If.new.self ++ stmt_text stmt c.args.levels) c.get.ensures))
    c.write_otherwise.ensures

pub write_stmt-returns-in_ok-put-in-While-2 : goal.write_stmt-returns-in_ok-put-in-While-2
write_stmt-returns-in_ok-put-in-While-2 t c =
    rewritten c.write_stmt-in-While.result c.write_stmt-in-While.new.out _ _
    (ap (λ stmt. c.put-in-While-2.new.self ++ stmt_text stmt c.args.levels) c.get-in-While.ensures
    ∙ while_text c.args.stmt.now c.in-While.condition c.in-While.body c.args.levels c.args.out.now c.put-in-While.new.self c.write_expr-in-While.new.out c.put-in-While-2.new.self
    c.in-While.is c.in_ok-put-in-While.ensures c.in_ok-write_expr-in-While.ensures c.in_ok-put-in-While-2.ensures)
    c.write_stmt-in-While.ensures

pub write_stmt-returns-in_ok-write_for_head-in-For : goal.write_stmt-returns-in_ok-write_for_head-in-For
write_stmt-returns-in_ok-write_for_head-in-For t c =
    rewritten c.write_stmt-in-For.result c.write_stmt-in-For.new.out _ _
    (ap (λ stmt. c.write_for_head.new.out ++ stmt_text stmt c.args.levels) c.get-in-For.ensures
    ∙ for_text c.args.stmt.now c.in-For.first c.in-For.condition c.in-For.step c.in-For.body c.args.levels c.args.out.now c.write_for_head.new.out
    c.in-For.is c.in_ok-write_for_head-in-For.ensures)
    c.write_stmt-in-For.ensures

pub write_stmt-returns-in_ok-write_simple-in-Local : goal.write_stmt-returns-in_ok-write_simple-in-Local
write_stmt-returns-in_ok-write_simple-in-Local t c =
    rewritten c.put-in-Local.result c.put-in-Local.new.self _ _
    (simple_text c.args.stmt.now c.args.levels c.args.out.now c.write_simple.new.out c.in-Local.is c.in_ok-write_simple-in-Local.ensures)
    c.put-in-Local.ensures
