use Rattle.std.proofs.Common.{◌≡◌, ◌-◌}
use Rattle.qml_grammar.specs.Inputs.{while_next, repeated}
use Rattle.qml_grammar.specs.Documents.{more_signal_params}
use Rattle.qml_grammar.specs.Lexemes.{is_mark}
use Rattle.qml_grammar.specs.declared.mark.Mark.TheVariants.{Comma}
use Rattle.qml_expr.specs.Seen.{input_of}
use Rattle.qml_parse.proofs.signal.further.Given as goal

abbrev pub invariant-loop-turn : goal.invariant-loop-turn
invariant-loop-turn l = while_next (is_mark Comma) more_signal_params l.fn.first (input_of l.fn.cursor) ≡ repeated (is_mark Comma) more_signal_params (l._turn-end - l._turn) l.params (input_of l.cursor)
