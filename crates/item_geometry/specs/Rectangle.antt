-- What a rectangle with a border is painted as.
use Rattle.std.specs.Prelude.{ℕ, ℤ, pos, ◌-ℤ◌, ◌*ℤ◌, ◌+ℤ◌, ◌||◌, ◌&&◌, Bool, int_le, int_lt, if◌then◌else◌, Option, Some, None, List, [], ◌∷◌, map, filter}
use Rattle.item_geometry.specs.declared.parts.RectPart.{RectPart}
use Rattle.item_geometry.specs.declared.parts.Rects.{Rects}
use Rattle.item_geometry.specs.declared.parts.Rects.TheVariants.{Zero, One, Five}

-- the part of this place, size and colour
abbrev pub part_of : ℤ → ℤ → ℤ → ℤ → ℕ → RectPart
part_of x y w h argb = record { x = x; y = y; w = w; h = h; argb = argb }

-- the inside, and then the border's top, bottom, left and right, which do not overlap
abbrev pub bordered : ℤ → ℤ → ℕ → ℤ → ℕ → Rects
bordered w h fill b color =
    Five (part_of b b (w -ℤ pos 2 *ℤ b) (h -ℤ pos 2 *ℤ b) fill
    ∷ part_of (pos 0) (pos 0) w b color
    ∷ part_of (pos 0) (h -ℤ b) w b color
    ∷ part_of (pos 0) b b (h -ℤ pos 2 *ℤ b) color
    ∷ part_of (w -ℤ b) b b (h -ℤ pos 2 *ℤ b) color ∷ [])

-- with a border of width b: one of at most 0 is none, and one that leaves no inside takes all
abbrev pub with_border : ℤ → ℤ → ℕ → ℤ → ℕ → Rects
with_border w h fill b color =
    if int_le b (pos 0) then One (part_of (pos 0) (pos 0) w h fill)
    else if int_le w (pos 2 *ℤ b) || int_le h (pos 2 *ℤ b) then One (part_of (pos 0) (pos 0) w h color)
    else bordered w h fill b color

-- what a rectangle that is not empty is painted as
abbrev pub painted_inside : ℤ → ℤ → ℕ → Option (ℤ × ℕ) → Rects
painted_inside w h fill None = One (part_of (pos 0) (pos 0) w h fill)
painted_inside w h fill (Some border) = with_border w h fill border.0 border.1

-- what a rectangle is painted as: nothing where its width or height is at most 0
abbrev pub painted : ℤ → ℤ → ℕ → Option (ℤ × ℕ) → Rects
painted w h fill border =
    if int_le w (pos 0) || int_le h (pos 0) then Zero else painted_inside w h fill border

-- a place is among `len` places from `at` on, which are none where `len` is at most 0
abbrev pub in_span : ℤ → ℤ → ℤ → Bool
in_span at len place = int_le at place && int_lt place (at +ℤ len)

-- the part has the pixel
abbrev pub has_pixel : RectPart → ℤ → ℤ → Bool
has_pixel part x y = in_span part.x part.w x && in_span part.y part.h y

-- the parts in the order of painting
abbrev pub parts_of : Rects → List RectPart
parts_of Zero = []
parts_of (One part) = part ∷ []
parts_of (Five parts) = parts

-- the colours that a pixel is painted with, in order
abbrev pub colors_at : Rects → ℤ → ℤ → List ℕ
colors_at rects x y = map (λ part. part.argb) (filter (λ part. has_pixel part x y) (parts_of rects))

-- the pixel is less than b from an edge, or beyond one
abbrev pub on_border : ℤ → ℤ → ℤ → ℤ → ℤ → Bool
on_border w h b x y = (int_lt x b || int_le (w -ℤ b) x) || (int_lt y b || int_le (h -ℤ b) y)

-- the colour of a pixel of the rectangle
abbrev pub color_of : ℤ → ℤ → ℕ → Option (ℤ × ℕ) → ℤ → ℤ → ℕ
color_of w h fill None x y = fill
color_of w h fill (Some border) x y = if on_border w h border.0 x y then border.1 else fill

-- a pixel of the rectangle is painted once, and no other is
abbrev pub pixel_colors : ℤ → ℤ → ℕ → Option (ℤ × ℕ) → ℤ → ℤ → List ℕ
pixel_colors w h fill border x y =
    if in_span (pos 0) w x && in_span (pos 0) h y then color_of w h fill border x y ∷ [] else []
