-- What painting an area of a canvas does to the picture that it shows.
use Rattle.std.proofs.Common.{◌≡◌, ℕ, ◌*◌, ◌/◌, ◌%◌, ◌<◌, List, [], ◌∷◌, ◌++◌, length, get_or, cond, sym, ap, ◌∙◌, arith}
use Rattle.std.proofs.lemmas.List.FromFn.{fill_by_all}
use Rattle.std.proofs.lemmas.Nat.{div_below, mod_below}
use Rattle.rect_raster.specs.declared.area.Area.{Area}
use Rattle.item_geometry.specs.declared.clip_rect.ClipRect.{ClipRect}
use Rattle.rect_raster.specs.Picture.{Picture, picture_of, byte_count}
use Rattle.rect_raster.specs.Drawing.{Shape, shape_of, covers, byte_after, painted_over, drawing}
use Rattle.rect_raster.specs.Bytes.{has_pixel, has_byte, painted, IsPainted}
use Rattle.rect_raster.proofs.Drawing.{painted_over-drawing}

-- a byte of the canvas belongs to a pixel of it
pixel_within : (width height k : ℕ) → k < byte_count width height → (k / 3 % width < width) × (k / 3 / width < height)
pixel_within width height k h =
    let place : k / 3 < width * height = omega arith in
    let some : 0 < width = grind arith in
    (mod_below (k / 3) width some, div_below (k / 3) width height some (omega arith))

-- a picture on which the pixels of a rectangle were painted is the picture with the rectangle over it
pub painted_over-from_bytes : (rect : ClipRect) (area : Area) (argb width height : ℕ) (old new : List ℕ)
    → length old ≡ byte_count width height → length new ≡ length old
    → ((column row : ℕ) → column < width → row < height → covers rect column row ≡ has_pixel area column row)
    → IsPainted area width argb old new
    → picture_of width height new ≡ painted_over (shape_of rect argb) (picture_of width height old)
unfolding painted_over
painted_over-from_bytes rect area argb width height old new full whole same painted_so =
    ap (picture_of width height)
    (fill_by_all (byte_after width (shape_of rect argb) old) new (length old) 0 whole
    (λ k h.
    let within = pixel_within width height k (omega arith) in
    let inside : covers rect (k / 3 % width) (k / 3 / width) ≡ has_byte area width k = same (k / 3 % width) (k / 3 / width) within.0 within.1 in
    let bound : k < length new = omega arith in
    painted_so k bound ∙ ap (λ b. cond b (painted argb k (get_or old k 0)) (get_or old k 0)) (sym inside)))

-- a canvas that showed a drawing shows that drawing with the rectangle
pub drawing-over : (rect : ClipRect) (argb width height : ℕ) (shapes : List Shape) (old new : Picture)
    → new ≡ painted_over (shape_of rect argb) old → old ≡ drawing width height shapes
    → new ≡ drawing width height (shapes ++ shape_of rect argb ∷ [])
drawing-over rect argb width height shapes old new over was =
    over ∙ ap (painted_over (shape_of rect argb)) was ∙ painted_over-drawing width height shapes (shape_of rect argb)
