use Rattle.std.proofs.Common.{◌≡◌, ℕ, ◌<◌, ◌≤◌, get_or}
use Rattle.rect_raster.specs.Drawing.{blended}
use Rattle.rect_raster.proofs.bytes.paint_part.Given as goal

abbrev pub invariant-loop-k : goal.invariant-loop-k
invariant-loop-k l =
    ((k : ℕ) → k < l.k → get_or l.part k 0 ≡ blended (get_or l.pattern k 0) l.alpha (get_or l.initial.part k 0))
    × ((k : ℕ) → l.k ≤ k → get_or l.part k 0 ≡ get_or l.initial.part k 0)
