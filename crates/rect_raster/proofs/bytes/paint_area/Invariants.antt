use Rattle.rect_raster.specs.Bytes.{IsPainted}
use Rattle.rect_raster.proofs.bytes.paint_area.Given as goal

abbrev pub invariant-loop-row : goal.invariant-loop-row
invariant-loop-row l = IsPainted (record l.area { bottom = l.row }) l.width l.argb l.initial.pixels l.pixels
