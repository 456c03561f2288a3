use Rattle.std.proofs.Common.{◌≡◌, ◌++◌, codes, map, take}
use Rattle.qml_grammar.specs.Canonical.{all_lines, stmt_text}
use Rattle.qml_print.proofs.stmt.+write_stmt.Given as goal

-- the lines so far
abbrev pub invariant-write_block-loop-stmt : goal.invariant-write_block-loop-stmt
invariant-write_block-loop-stmt l =
    l.out ≡ l.fn.out ++ (codes "{\n" ++ all_lines l.inner (map stmt_text (take l.stmt-index l.stmts)))
