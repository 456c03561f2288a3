-- The numbers of a Rectangle's slots.
use Rattle.std.proofs.Common.{◌≡◌, true, refl}
use Rattle.type_table.specs.Slots.{slots}
use Rattle.item_paint.specs.RectangleSlots.{are_numbered}

pub numbered : are_numbered ≡ true
unfolding slots
numbered = refl
