-- The tokens are members where the rest of them are.
use Rattle.std.proofs.Common.{◌≡◌, length}
use Rattle.qml_grammar.specs.Statements as spec
use Rattle.qml_expr.specs.Seen.{tokens_of}
use Rattle.qml_stmt.proofs.lookahead.are_members.Given as goal

abbrev pub invariant-loop-rest : goal.invariant-loop-rest
invariant-loop-rest l = spec.are_members (tokens_of l.tokens) ≡ spec.are_members (tokens_of l.rest)

abbrev pub decreases-loop-rest : goal.decreases-loop-rest
decreases-loop-rest l = length l.rest
