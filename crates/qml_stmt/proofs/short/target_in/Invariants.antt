-- Reading a target is reading on from what was read of it.
use Rattle.std.proofs.Common.{◌≡◌, ◌-◌}
use Rattle.qml_grammar.specs.Expressions.{member}
use Rattle.qml_grammar.specs.Inputs.{repeated}
use Rattle.qml_grammar.specs.Lexemes.{is_mark}
use Rattle.qml_grammar.specs.Statements.{target_in}
use Rattle.qml_grammar.specs.declared.mark.Mark.TheVariants.{Dot}
use Rattle.qml_expr.specs.Seen.{input_of}
use Rattle.qml_stmt.proofs.short.target_in.Given as goal

abbrev pub invariant-loop-turn : goal.invariant-loop-turn
invariant-loop-turn l = target_in (input_of l.fn.cursor) ≡ repeated (is_mark Dot) member (l._turn-end - l._turn) l.read (input_of l.cursor)
