use Rattle.qml_lex.proofs.Order.{places_rise}
use Rattle.qml_lex.proofs.laws.places_rise.Goals as goal

pub returns : goal.returns
returns c = places_rise
