-- What painting a part of a canvas does to its bytes.
use Rattle.std.specs.Prelude.{◌≡◌, ℕ, ◌/◌, ◌%◌, Bool, ◌&&◌, if◌then◌else◌, nat_le, nat_lt, List, EachIndex, slice_index}
use Rattle.rect_raster.specs.declared.area.Area.{Area}
use Rattle.rect_raster.specs.Drawing.{channel_of, alpha_of, blended}

-- the part has the pixel
abbrev pub has_pixel : Area → ℕ → ℕ → Bool
has_pixel area column row =
    (nat_le area.left column && nat_lt column area.right) && (nat_le area.top row && nat_lt row area.bottom)

-- byte k of a canvas of this width belongs to a pixel of the part
abbrev pub has_byte : Area → ℕ → ℕ → Bool
has_byte area width k = has_pixel area (k / 3 % width) (k / 3 / width)

-- each pixel has the colour, its alpha left aside
abbrev pub IsPattern : ℕ → List ℕ → Type 0
IsPattern argb row = EachIndex row (λ k. slice_index row k ≡ channel_of argb (k % 3))

-- a channel of a colour over what lies below
abbrev pub painted : ℕ → ℕ → ℕ → ℕ
painted argb k below = blended (channel_of argb (k % 3)) (alpha_of argb) below

-- each pixel of the part has the colour over what it had, and each other byte is as it was
abbrev pub IsPainted : Area → ℕ → ℕ → List ℕ → List ℕ → Type 0
IsPainted area width argb old new =
    EachIndex new (λ k. slice_index new k ≡ (if has_byte area width k then painted argb k (slice_index old k) else slice_index old k))
