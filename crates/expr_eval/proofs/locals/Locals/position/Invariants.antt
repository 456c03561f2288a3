use Rattle.std.proofs.Common.{◌≡◌, take}
use Rattle.std.specs.Prelude.{None}
use Rattle.expr_eval.specs.Names.{index_named}
use Rattle.expr_eval.proofs.locals.Locals.position.Given as goal

-- none so far
abbrev pub invariant-loop-at : goal.invariant-loop-at
invariant-loop-at l = index_named l.name (take l.at l.entry-items) ≡ None
