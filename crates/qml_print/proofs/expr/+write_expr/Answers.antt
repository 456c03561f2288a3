use Rattle.std.proofs.Common.{◌∷◌, []}
use Rattle.qml_grammar.specs.CanonicalExpressions.{bound, printed}
use Rattle.qml_print.proofs.Joins.{joined_twice}
use Rattle.qml_print.proofs.expr.+write_expr.Goals as goal

pub write_arguments-returns : goal.write_arguments-returns
write_arguments-returns t c =
    joined_twice (bound 0) printed (44 ∷ 32 ∷ []) c.args.arguments.now c.first-item.result c.loop-argument.argument-index c.args.out.now c.write_expr.new.out c.loop-argument.out
    c.first-item.is c.in-len1-up.len_at_least c.loop-argument-test.false c.in_ok-write_expr.ensures c.loop-argument.invariant
