use Rattle.std.proofs.Common.{◌≡◌, ◌+◌, ◌-◌, ◌≤◌, length, drop}
use Rattle.std.specs.List.{position_or_len}
use Rattle.qml_lex.specs.Bytes.{is_line_end}
use Rattle.qml_lex.proofs.comment.line_len.Given as goal

-- what is passed and the front of what is left are the front of all
abbrev pub invariant-loop-at : goal.invariant-loop-at
invariant-loop-at l =
    (l.at ≤ length l.text) × (l.at + position_or_len is_line_end (drop l.at l.text) ≡ position_or_len is_line_end l.text)

abbrev pub decreases-loop-at : goal.decreases-loop-at
decreases-loop-at l = length l.text - l.at
