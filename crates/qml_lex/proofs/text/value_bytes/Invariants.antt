use Rattle.std.proofs.Common.{◌≡◌, ◌-◌, ◌≤◌, ◌++◌, length, drop}
use Rattle.qml_lex.specs.Texts.{value_of}
use Rattle.qml_lex.proofs.text.value_bytes.Given as goal

-- the value so far and that of the rest are that of all
abbrev pub invariant-loop-at : goal.invariant-loop-at
invariant-loop-at l =
    (l.at ≤ length l.body) × (l.value.items ++ value_of (drop l.at l.body) ≡ value_of l.body)

abbrev pub decreases-loop-at : goal.decreases-loop-at
decreases-loop-at l = length l.body - l.at
