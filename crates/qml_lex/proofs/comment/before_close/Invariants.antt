use Rattle.std.proofs.Common.{◌≡◌, ◌+◌, length}
use Rattle.qml_lex.specs.Bytes.{shifted}
use Rattle.qml_lex.specs.Pieces.{before_close}
use Rattle.qml_lex.proofs.comment.before_close.Given as goal

-- what is found in the rest is what is found in all
abbrev pub invariant-loop-rest : goal.invariant-loop-rest
invariant-loop-rest l =
    (l.passed + length l.rest ≡ length l.text) × (shifted l.passed (before_close l.rest) ≡ before_close l.text)

abbrev pub decreases-loop-rest : goal.decreases-loop-rest
decreases-loop-rest l = length l.rest
