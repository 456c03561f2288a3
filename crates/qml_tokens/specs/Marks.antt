-- The mark that a text is.
use Rattle.std.specs.Prelude.{ℕ, List, Option, find, bytes_eq}
use Rattle.qml_grammar.specs.Marks.{mark_text, all_marks}
use Rattle.qml_grammar.specs.declared.mark.Mark.{Mark}

-- the mark that is written so
abbrev pub mark_of : List ℕ → Option Mark
mark_of text = find (λ m. bytes_eq (mark_text m) text) all_marks
