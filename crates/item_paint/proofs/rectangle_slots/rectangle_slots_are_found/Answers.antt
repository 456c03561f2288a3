use Rattle.item_paint.proofs.Slots.{numbered}
use Rattle.item_paint.proofs.rectangle_slots.rectangle_slots_are_found.Goals as goal

pub returns : goal.returns
returns c = numbered
