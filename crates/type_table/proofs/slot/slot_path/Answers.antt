use Rattle.type_table.proofs.Places.{row_found}
use Rattle.type_table.proofs.slot.slot_path.Goals as goal

pub returns-clause-found : goal.returns-clause-found
returns-clause-found c = row_found c.table_of.result.now _ _ _ c.table_of.ensures.slots c.requires
