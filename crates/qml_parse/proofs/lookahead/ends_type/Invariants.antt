use Rattle.std.proofs.Common.{◌≡◌, length}
use Rattle.qml_grammar.specs.Names.{last_name}
use Rattle.qml_expr.specs.Seen.{tokens_of}
use Rattle.qml_parse.proofs.lookahead.ends_type.Given as goal

abbrev pub invariant-loop-next : goal.invariant-loop-next
invariant-loop-next l = last_name l.first (tokens_of l.behind) ≡ last_name l.name (tokens_of l.rest)

abbrev pub decreases-loop-next : goal.decreases-loop-next
decreases-loop-next l = length l.rest
