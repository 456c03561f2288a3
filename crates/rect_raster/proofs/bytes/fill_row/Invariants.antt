use Rattle.std.proofs.Common.{◌≡◌, ℕ, ◌*◌, ◌%◌, ◌<◌, get_or}
use Rattle.rect_raster.specs.Drawing.{channel_of}
use Rattle.rect_raster.proofs.bytes.fill_row.Given as goal

abbrev pub invariant-loop-pixel : goal.invariant-loop-pixel
invariant-loop-pixel l = (k : ℕ) → k < 3 * l.pixel → get_or l.row k 0 ≡ channel_of l.argb (k % 3)
