use Rattle.qml_lex.proofs.Scanning.{all_spelled}
use Rattle.qml_lex.proofs.lexer.lex.Goals as goal

pub returns-clause-spelled : goal.returns-clause-spelled
returns-clause-spelled c =
    all_spelled c.args.bytes.now c.loop-tokens.scanner _ _ c.loop-tokens.tokens.items _ c.in_ok-token.field-0 c.loop-tokens.invariant.text c.loop-tokens.invariant.stands c.loop-tokens.invariant.read c.in_ok-token.ensures.next c.in_default.is c.from_vec.ensures
