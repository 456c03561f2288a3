use Rattle.type_table.proofs.Places.{slots_are_sound, built_in_named-type_name}
use Rattle.type_table.proofs.laws.the_table_is_sound.Goals as goal

pub returns-clause-slots : goal.returns-clause-slots
returns-clause-slots c = slots_are_sound

pub returns-clause-names : goal.returns-clause-names
returns-clause-names c = built_in_named-type_name
