use Rattle.std.proofs.Common.{◌≡◌, ◌+◌, ◌≤◌, take}
use Rattle.qml_lex.specs.Places.{line_after, column_after}
use Rattle.qml_lex.proofs.place.advance.Given as goal

-- the place of the byte at i, which is no further than i bytes from the first
abbrev pub invariant-loop-i : goal.invariant-loop-i
invariant-loop-i l = record {
  line : l.line ≡ line_after (take l.i l.bytes);
  col : l.col ≡ column_after (take l.i l.bytes);
  line_bound : l.line ≤ l.i + 1;
  col_bound : l.col ≤ l.i + 1;
}
