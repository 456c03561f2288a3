use Rattle.qml_tokens.proofs.OneReading.{a_text_has_one_reading}
use Rattle.qml_tokens.proofs.laws.a_text_has_one_reading.Goals as goal

pub returns : goal.returns
returns c = a_text_has_one_reading
