use Rattle.std.proofs.Common.{arith}
use Rattle.qml_expr.specs.Seen.{input_of}
use Rattle.qml_expr.proofs.Steps.{enter_none, enter_more}
use Rattle.qml_expr.proofs.parser.enter.Goals as goal

pub returns-then-levels-eq0 : goal.returns-then-levels-eq0
returns-then-levels-eq0 c _ = rw c.too_deep.ensures (enter_none c.args.levels (input_of c.args.cursor.now) (omega arith))

pub returns : goal.returns
returns c = enter_more c.args.levels (input_of c.args.cursor.now) (omega arith)
