-- The shapes that painted rectangles are.
use Rattle.std.specs.Prelude.{List, map}
use Rattle.item_geometry.specs.declared.clip_rect.ClipRect.{ClipRect}
use Rattle.rect_raster.specs.Drawing.{Shape, shape_of}
use Rattle.painting.specs.declared.painted.Painted.{Painted}

-- the pixels that a painted rectangle has
abbrev pub area_of : Painted → ClipRect
area_of painted = record { left = painted.left; top = painted.top; right = painted.right; bottom = painted.bottom }

-- those pixels in its colour
abbrev pub shape : Painted → Shape
shape painted = shape_of (area_of painted) painted.argb

abbrev pub shapes : List Painted → List Shape
shapes list = map shape list
