-- Rectangles of pixels.
use Rattle.std.specs.Prelude.{ℤ, Bool, ◌&&◌, int_le, int_lt}
use Rattle.std.specs.Int.{int_min, int_max}
use Rattle.item_geometry.specs.declared.clip_rect.ClipRect.{ClipRect}

-- the place is at or after where a range begins, and before it ends
abbrev pub is_within : ℤ → ℤ → ℤ → Bool
is_within begin place end = int_le begin place && int_lt place end

-- the rectangle has the pixel: it begins at left and top, and ends before right and bottom
abbrev pub has_point : ClipRect → ℤ → ℤ → Bool
has_point rect x y = is_within rect.left x rect.right && is_within rect.top y rect.bottom

-- the rectangle between the inner ones of the edges of two
abbrev pub common : ClipRect → ClipRect → ClipRect
common rect other = record {
  left = int_max rect.left other.left;
  top = int_max rect.top other.top;
  right = int_min rect.right other.right;
  bottom = int_min rect.bottom other.bottom;
}
