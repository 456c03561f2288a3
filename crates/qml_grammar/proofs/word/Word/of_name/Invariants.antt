use Rattle.std.proofs.Common.{◌≡◌, take, None, bytes_eq, find}
use Rattle.qml_grammar.specs.Words.{word_text}
use Rattle.qml_grammar.proofs.word.Word.of_name.Given as goal

abbrev pub invariant-loop-word : goal.invariant-loop-word
invariant-loop-word l = find (λ w. bytes_eq (word_text w) l.name) (take l.word-index l.word-items) ≡ None
