use Rattle.std.proofs.Common.{◌≡◌, length}
use Rattle.qml_grammar.specs.Documents as spec
use Rattle.qml_expr.specs.Seen.{tokens_of}
use Rattle.qml_parse.proofs.value.behind_parens.Given as goal

abbrev pub invariant-loop-rest : goal.invariant-loop-rest
invariant-loop-rest l = spec.behind_parens (tokens_of l.tokens) ≡ spec.behind_parens (tokens_of l.rest)

abbrev pub decreases-loop-rest : goal.decreases-loop-rest
decreases-loop-rest l = length l.rest
