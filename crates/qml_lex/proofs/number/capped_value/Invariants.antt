use Rattle.std.proofs.Common.{◌≡◌, ◌≤◌, min, take}
use Rattle.std.specs.Str.Parse.{digits_value}
use Rattle.qml_lex.proofs.number.capped_value.Given as goal

-- the value of the digits so far
abbrev pub invariant-loop-byte : goal.invariant-loop-byte
invariant-loop-byte l =
    (l.value ≤ 2147483648) × (l.value ≡ min (digits_value l.base (take l.byte-index l.digits)) 2147483648)
