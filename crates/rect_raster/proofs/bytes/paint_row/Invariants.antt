use Rattle.std.proofs.Common.{◌≡◌, ℕ, ◌*◌, ◌%◌, ◌<◌, ◌≤◌, get_or}
use Rattle.rect_raster.specs.Drawing.{blended}
use Rattle.rect_raster.proofs.bytes.paint_row.Given as goal

abbrev pub invariant-loop-piece : goal.invariant-loop-piece
invariant-loop-piece l =
    ((k : ℕ) → k < 48 * l.piece → get_or l.row k 0 ≡ blended (get_or l.pattern (k % 48) 0) l.alpha (get_or l.initial.row k 0))
    × ((k : ℕ) → 48 * l.piece ≤ k → get_or l.row k 0 ≡ get_or l.initial.row k 0)
