use Rattle.std.proofs.Common.{◌≡◌, ◌-◌}
use Rattle.qml_grammar.specs.Inputs.{while_next, repeated}
use Rattle.qml_grammar.specs.Documents.{one_import}
use Rattle.qml_grammar.specs.Lexemes.{is_word}
use Rattle.qml_grammar.specs.declared.word.Word.TheVariants as ww
use Rattle.qml_expr.specs.Seen.{input_of}
use Rattle.qml_parse.proofs.import.further.Given as goal

abbrev pub invariant-loop-turn : goal.invariant-loop-turn
invariant-loop-turn l = while_next (is_word ww.Import) one_import l.fn.first (input_of l.fn.cursor) ≡ repeated (is_word ww.Import) one_import (l._turn-end - l._turn) l.imports (input_of l.cursor)
