use Rattle.qml_lex.proofs.Order.{tokens_stand_in_order}
use Rattle.qml_lex.proofs.laws.tokens_stand_in_order.Goals as goal

pub returns : goal.returns
returns c = tokens_stand_in_order
