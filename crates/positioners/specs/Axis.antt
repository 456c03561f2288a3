-- A child's width and height, and which of them counts along an axis.
use Rattle.std.specs.Prelude.{ℤ}
use Rattle.positioners.specs.declared.axis.Axis.{Axis}
use Rattle.positioners.specs.declared.axis.Axis.TheVariants.{Horizontal, Vertical}

abbrev pub width_of : ℤ × ℤ → ℤ
width_of size = size.0

abbrev pub height_of : ℤ × ℤ → ℤ
height_of size = size.1

-- what counts along the axis
abbrev pub along : Axis → ℤ × ℤ → ℤ
along Horizontal = width_of
along Vertical = height_of

-- what counts across it
abbrev pub across : Axis → ℤ × ℤ → ℤ
across Horizontal = height_of
across Vertical = width_of
