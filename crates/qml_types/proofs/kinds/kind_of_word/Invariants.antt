use Rattle.std.proofs.Common.{◌≡◌, None, nat_eq, drop, map}
use Rattle.std.specs.Cmp.Lexicographic.{pointwise}
use Rattle.std.specs.Map.{lookup}
use Rattle.qml_types.specs.Known.{kind_words}
use Rattle.qml_types.proofs.kinds.kind_of_word.Given as goal

-- the words that are left decide
abbrev pub invariant-loop-entry : goal.invariant-loop-entry
invariant-loop-entry l =
    lookup (pointwise nat_eq l.word) (map (λ e. (e.word.now, e.kind)) (drop l.entry-index l.entry-items)) ≡ lookup (pointwise nat_eq l.word) kind_words
