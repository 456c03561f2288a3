use Rattle.type_table.proofs.Places.{numbered}
use Rattle.type_table.proofs.laws.item_slots_are_found.Goals as goal

pub returns : goal.returns
returns c = numbered
