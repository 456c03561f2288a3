use Rattle.std.proofs.Common.{◌≡◌, ◌-◌, ◌≤◌, length, drop}
use Rattle.qml_lex.specs.Bytes.{shifted}
use Rattle.qml_lex.specs.Texts.{body_len}
use Rattle.qml_lex.proofs.text.body_len.Given as goal

-- what is found in the rest is what is found in all
abbrev pub invariant-loop-at : goal.invariant-loop-at
invariant-loop-at l =
    (l.at ≤ length l.text) × (shifted l.at (body_len l.quote (drop l.at l.text)) ≡ body_len l.quote l.text)

abbrev pub decreases-loop-at : goal.decreases-loop-at
decreases-loop-at l = length l.text - l.at
