-- What a list of rectangles, painted in order over white, looks like.
use Rattle.std.specs.Prelude.{ℕ, ◌+◌, ◌-◌, ◌*◌, ◌/◌, ◌%◌, ◌^◌, pos, Bool, if◌then◌else◌, List, map, fold, length, slice_index}
use Rattle.std.specs.List.{range_with_len}
use Rattle.item_geometry.specs.declared.clip_rect.ClipRect.{ClipRect}
use Rattle.item_geometry.specs.Clip.{has_point}
use Rattle.rect_raster.specs.Picture.{Picture, picture_of, byte_count, ppm}

-- a rectangle and its colour: alpha, red, green and blue, from the highest byte to the lowest
pub record Shape : Type 0 where
  pub area : ClipRect
  pub argb : ℕ

abbrev pub shape_of : ClipRect → ℕ → Shape
shape_of area argb = record { area = area; argb = argb }

-- the rectangle has the pixel: it begins at left and top, and ends before right and bottom
abbrev pub covers : ClipRect → ℕ → ℕ → Bool
covers area column row = has_point area (pos column) (pos row)

-- how opaque a colour is, from 0 to 255
unfoldable pub alpha_of : ℕ → ℕ
alpha_of argb = argb / 2 ^ 24

-- a colour's red, green or blue, which are channels 0, 1 and 2
unfoldable pub channel_of : ℕ → ℕ → ℕ
channel_of argb channel = argb / 2 ^ (16 - 8 * channel) % 256

-- a channel of a colour of this alpha over what lies below, rounded to the nearest
abbrev pub blended : ℕ → ℕ → ℕ → ℕ
blended source alpha below = (source * alpha + below * (255 - alpha) + 127) / 255

-- a channel of a pixel after one more shape
abbrev pub channel_after : ℕ → ℕ → ℕ → ℕ → Shape → ℕ
channel_after column row channel below shape =
    if covers shape.area column row then blended (channel_of shape.argb channel) (alpha_of shape.argb) below else below

-- byte k of pixels after one more shape: byte k is channel k % 3 of pixel k / 3, and rows of pixels follow each other
abbrev pub byte_after : ℕ → Shape → List ℕ → ℕ → ℕ
byte_after width shape pixels k = channel_after (k / 3 % width) (k / 3 / width) (k % 3) (slice_index pixels k) shape

-- a picture after one more shape: each pixel that the shape has gets its colour over what it was, and each
-- other pixel stays
unfoldable pub painted_over : Shape → Picture → Picture
painted_over shape picture =
    record picture { pixels = map (byte_after picture.width shape picture.pixels) (range_with_len 0 (length picture.pixels)) }

-- a channel of a pixel: white, and then each shape in order
unfoldable pub channel_at : List Shape → ℕ → ℕ → ℕ → ℕ
channel_at shapes column row channel = fold (channel_after column row channel) 255 shapes

-- a byte of what shapes make
unfoldable pub byte_at : ℕ → List Shape → ℕ → ℕ
byte_at width shapes k = channel_at shapes (k / 3 % width) (k / 3 / width) (k % 3)

-- the picture that shapes, painted in order over white, make
unfoldable pub drawing : ℕ → ℕ → List Shape → Picture
drawing width height shapes =
    picture_of width height (map (byte_at width shapes) (range_with_len 0 (byte_count width height)))

-- that picture as a binary pixmap
abbrev pub frame : ℕ → ℕ → List Shape → List ℕ
frame width height shapes = ppm (drawing width height shapes)
