use Rattle.std.proofs.Common.{◌≡◌, ◌+◌, ◌-◌, ◌≤◌, length, drop}
use Rattle.qml_lex.specs.Texts.{value_of}
use Rattle.qml_lex.proofs.text.value_len.Given as goal

-- the value so far and that of the rest are that of all
abbrev pub invariant-loop-at : goal.invariant-loop-at
invariant-loop-at l =
    (l.len ≤ l.at) × ((l.at ≤ length l.body) × (l.len + length (value_of (drop l.at l.body)) ≡ length (value_of l.body)))

abbrev pub decreases-loop-at : goal.decreases-loop-at
decreases-loop-at l = length l.body - l.at
