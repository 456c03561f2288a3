use Rattle.std.proofs.Common.{◌≡◌, ℕ, List, ◌++◌, take}
use Rattle.rect_raster.specs.Drawing.{Shape, drawing}
use Rattle.painting.specs.Shapes.{shapes}
use Rattle.painting.proofs.drawing.draw.Given as goal

abbrev pub invariant-loop-painted : goal.invariant-loop-painted
invariant-loop-painted l =
    (width height : ℕ) (before : List Shape) → l.initial.canvas ≡ drawing width height before
    → l.canvas ≡ drawing width height (before ++ shapes (take l.painted-index l.list))
