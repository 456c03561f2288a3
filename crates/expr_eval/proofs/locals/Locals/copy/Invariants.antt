use Rattle.std.proofs.Common.{◌≡◌, take}
use Rattle.expr_eval.proofs.locals.Locals.copy.Given as goal

-- those so far
abbrev pub invariant-loop-entry : goal.invariant-loop-entry
invariant-loop-entry l = l.entries.items ≡ take l.entry-index l.entry-items
