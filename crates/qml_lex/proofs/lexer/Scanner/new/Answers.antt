use Rattle.std.proofs.Common.{refl}
use Rattle.qml_lex.specs.Places.{line_after, column_after}
use Rattle.qml_lex.proofs.lexer.Scanner.new.Goals as goal

pub advance-span-requires-clause-from : goal.advance-span-requires-clause-from
unfolding line_after column_after
advance-span-requires-clause-from c = refl
