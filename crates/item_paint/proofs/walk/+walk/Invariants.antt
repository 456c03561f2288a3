use Rattle.std.proofs.Common.{◌≡◌, ◌+◌, ◌*◌, ◌++◌, take}
use Rattle.std.specs.Prelude.{flat_map}
use Rattle.painting.specs.Painting.{paint_within}
use Rattle.item_paint.specs.Items.{paint_of}
use Rattle.item_paint.proofs.walk.+walk.Given as goal

abbrev pub decreases-paint_item : goal.decreases-paint_item
decreases-paint_item l = 2 * l.reach.levels

abbrev pub decreases-paint_items : goal.decreases-paint_items
decreases-paint_items l = 2 * l.reach.levels + 1

abbrev pub invariant-paint_items-loop-serial : goal.invariant-paint_items-loop-serial
invariant-paint_items-loop-serial l =
    l.out.items ≡ l.initial.out.items ++ flat_map (paint_within l.reach.levels (paint_of l.objects) l.reach.viewport) (take l.serial-index l.serials)
