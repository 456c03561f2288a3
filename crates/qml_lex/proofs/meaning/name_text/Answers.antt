use Rattle.qml_lex.proofs.Words.{word_is_utf8}
use Rattle.qml_lex.proofs.meaning.name_text.Goals as goal

pub unreachable-requires : goal.unreachable-requires
unreachable-requires c = c.in-Err.ensures.cases.0 (word_is_utf8 c.args.text.now c.requires.word)
