use Rattle.qml_lex.proofs.LongestMark.{the_longest_mark_is_taken}
use Rattle.qml_lex.proofs.laws.the_longest_mark_is_taken.Goals as goal

pub returns : goal.returns
returns c = the_longest_mark_is_taken
