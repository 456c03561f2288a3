-- What painting does to what a canvas shows.
use Rattle.std.specs.Prelude.{◌≡◌, ℕ, List, ◌++◌}
use Rattle.rect_raster.specs.Picture.{Picture}
use Rattle.rect_raster.specs.Drawing.{Shape, drawing}
use Rattle.painting.specs.declared.painted.Painted.{Painted}
use Rattle.painting.specs.Shapes.{shapes}

-- whatever shapes the canvas showed before, it shows those and then the list
abbrev pub ShowsMore : List Painted → Picture → Picture → Type 0
ShowsMore list old new =
    (width height : ℕ) (before : List Shape) → old ≡ drawing width height before → new ≡ drawing width height (before ++ shapes list)
