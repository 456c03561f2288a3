use Rattle.std.proofs.Common.{◌≡◌, ◌++◌, map, take}
use Rattle.painting.specs.Painting.{painted_part}
use Rattle.item_paint.proofs.walk.paint_parts.Given as goal

abbrev pub invariant-loop-part : goal.invariant-loop-part
invariant-loop-part l = l.out.items ≡ l.initial.out.items ++ map (painted_part l.reach.viewport) (take l.part-index l.parts)
