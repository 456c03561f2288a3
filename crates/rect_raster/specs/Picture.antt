-- A picture, and the bytes that it is written as.
use Rattle.std.specs.Prelude.{ℕ, ◌*◌, List, ◌++◌, codes}
use Rattle.std.specs.Fmt.{decimal}

-- a picture of width times height pixels: three bytes a pixel, red, green and blue, by rows from the top
pub record Picture : Type 0 where
  pub width : ℕ
  pub height : ℕ
  pub pixels : List ℕ

-- the picture of this width, height and pixels
abbrev pub picture_of : ℕ → ℕ → List ℕ → Picture
picture_of width height pixels = record { width = width; height = height; pixels = pixels }

-- how many bytes the pixels take
abbrev pub byte_count : ℕ → ℕ → ℕ
byte_count width height = 3 * (width * height)

-- what a binary pixmap, Netpbm's P6, has before its pixels: the size, and 255 as the largest value
unfoldable pub ppm_header : ℕ → ℕ → List ℕ
ppm_header width height = codes "P6\n" ++ (decimal width ++ (codes " " ++ (decimal height ++ codes "\n255\n")))

-- a picture as a binary pixmap, Netpbm's P6
unfoldable pub ppm : Picture → List ℕ
ppm picture = ppm_header picture.width picture.height ++ picture.pixels
