use Rattle.std.proofs.Common.{◌≡◌, ◌++◌, codes, take}
use Rattle.std.specs.Prelude.{flat_map}
use Rattle.qml_grammar.specs.CanonicalExpressions.{escaped}
use Rattle.qml_print.proofs.literal.write_quoted.Given as goal

-- the quote and the bytes so far
abbrev pub invariant-loop-byte : goal.invariant-loop-byte
invariant-loop-byte l = l.out ≡ l.fn.out ++ (codes "\"" ++ flat_map escaped (take l.byte-index l.text))
