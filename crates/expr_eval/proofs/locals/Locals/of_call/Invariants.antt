use Rattle.std.proofs.Common.{◌≡◌, ◌++◌, drop}
use Rattle.expr_eval.specs.Names.{bound}
use Rattle.expr_eval.proofs.locals.Locals.of_call.Given as goal

-- those so far, and what is left of the parameters with what is left of the arguments
abbrev pub invariant-loop-i : goal.invariant-loop-i
invariant-loop-i l = l.entries.items ++ bound (drop l.i l.params) (drop l.i l.arguments) ≡ bound l.params l.arguments
