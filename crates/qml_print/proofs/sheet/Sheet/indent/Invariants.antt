use Rattle.std.proofs.Common.{◌≡◌, ◌++◌}
use Rattle.qml_grammar.specs.Canonical.{indent}
use Rattle.qml_print.proofs.sheet.Sheet.indent.Given as goal

abbrev pub invariant-loop-level : goal.invariant-loop-level
invariant-loop-level l = l.self ≡ l.fn.self ++ indent l._level
