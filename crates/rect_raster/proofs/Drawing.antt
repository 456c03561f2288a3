-- Laws of drawings: their size, their bytes, and what one more shape does to them.
use Rattle.std.proofs.Common.{◌≡◌, ℕ, ◌/◌, ◌%◌, ◌<◌, List, [], ◌∷◌, ◌++◌, length, get_or, map, sym, ap, ◌∙◌, refl, arith}
use Rattle.std.specs.Prelude.{replicate}
use Rattle.std.specs.List.{range_with_len}
use Rattle.std.proofs.lemmas.List.{get_or-replicate, length-replicate}
use Rattle.std.proofs.lemmas.List.Sums.{fold-append}
use Rattle.std.proofs.lemmas.List.FromFn.{fill_by_all, get_or-map-range_with_len, length-map-range_with_len}
use Rattle.rect_raster.specs.Picture.{picture_of, byte_count}
use Rattle.rect_raster.specs.Drawing.{Shape, channel_after, channel_at, byte_after, byte_at, painted_over, drawing}

-- a shape comes after those before it
pub channel_at-push : (shapes : List Shape) (shape : Shape) (column row channel : ℕ)
    → channel_at (shapes ++ shape ∷ []) column row channel ≡ channel_after column row channel (channel_at shapes column row channel) shape
unfolding channel_at
channel_at-push shapes shape column row channel = fold-append (channel_after column row channel) 255 shapes (shape ∷ [])

-- with no shape each byte is white
pub byte_at-nil : (width k : ℕ) → byte_at width [] k ≡ 255
unfolding byte_at channel_at
byte_at-nil width k = refl

-- a shape is painted over what those before it make
pub byte_at-push : (width : ℕ) (shapes : List Shape) (shape : Shape) (k : ℕ)
    → byte_at width (shapes ++ shape ∷ []) k ≡ channel_after (k / 3 % width) (k / 3 / width) (k % 3) (byte_at width shapes k) shape
unfolding byte_at
byte_at-push width shapes shape k = channel_at-push shapes shape (k / 3 % width) (k / 3 / width) (k % 3)

-- a picture of this size whose bytes are the drawing's is the drawing
pub drawing-from_bytes : (width height : ℕ) (shapes : List Shape) (pixels : List ℕ) → length pixels ≡ byte_count width height
    → ((k : ℕ) → k < byte_count width height → get_or pixels k 0 ≡ byte_at width shapes k)
    → picture_of width height pixels ≡ drawing width height shapes
unfolding drawing
drawing-from_bytes width height shapes pixels whole each =
    let bytes = fill_by_all (byte_at width shapes) pixels (byte_count width height) 0 whole each in
    ap (picture_of width height) bytes

-- a new canvas is white
pub drawing-nil : (width height : ℕ) (pixels : List ℕ) → pixels ≡ replicate (byte_count width height) 255
    → picture_of width height pixels ≡ drawing width height []
drawing-nil width height pixels white =
    drawing-from_bytes width height [] pixels (ap length white ∙ length-replicate (byte_count width height) 255)
    (λ k h. ap (λ bs. get_or bs k 0) white ∙ get_or-replicate (byte_count width height) k 255 0 h ∙ sym (byte_at-nil width k))

-- a drawing has the size that it was asked for
pub width-drawing : (width height : ℕ) (shapes : List Shape) → (drawing width height shapes).width ≡ width
unfolding drawing
width-drawing width height shapes = refl

pub height-drawing : (width height : ℕ) (shapes : List Shape) → (drawing width height shapes).height ≡ height
unfolding drawing
height-drawing width height shapes = refl

-- a byte of a drawing
pub get_or-drawing : (width height : ℕ) (shapes : List Shape) (k : ℕ) → k < byte_count width height → get_or (drawing width height shapes).pixels k 0 ≡ byte_at width shapes k
unfolding drawing
get_or-drawing width height shapes k h = get_or-map-range_with_len (byte_at width shapes) 0 (byte_count width height) k k 0 h (omega arith)

-- how many bytes a drawing has
pub length-drawing : (width height : ℕ) (shapes : List Shape) → length (drawing width height shapes).pixels ≡ byte_count width height
unfolding drawing
length-drawing width height shapes = length-map-range_with_len (byte_at width shapes) 0 (byte_count width height)

-- what a byte of a drawing is after one more shape
byte_after-drawing : (width height : ℕ) (shapes : List Shape) (shape : Shape) (k : ℕ) → k < byte_count width height
    → byte_after width shape (drawing width height shapes).pixels k ≡ byte_at width (shapes ++ shape ∷ []) k
byte_after-drawing width height shapes shape k h =
    ap (λ below. channel_after (k / 3 % width) (k / 3 / width) (k % 3) below shape) (get_or-drawing width height shapes k h)
    ∙ sym (byte_at-push width shapes shape k)

-- one more shape over a drawing makes the drawing of the shapes with that one
pub painted_over-drawing : (width height : ℕ) (shapes : List Shape) (shape : Shape)
    → painted_over shape (drawing width height shapes) ≡ drawing width height (shapes ++ shape ∷ [])
unfolding painted_over
painted_over-drawing width height shapes shape =
    let old = drawing width height shapes in
    let count = length old.pixels in
    let bytes = map (byte_after width shape old.pixels) (range_with_len 0 count) in
    let all : length bytes ≡ byte_count width height =
    length-map-range_with_len (byte_after width shape old.pixels) 0 count ∙ length-drawing width height shapes in
    (λ i. picture_of (width-drawing width height shapes i) (height-drawing width height shapes i) (map (byte_after (width-drawing width height shapes i) shape old.pixels) (range_with_len 0 count)))
    ∙ drawing-from_bytes width height (shapes ++ shape ∷ []) bytes all
    (λ k h.
    let within : k < count = omega (arith, length-drawing width height shapes) in
    get_or-map-range_with_len (byte_after width shape old.pixels) 0 count k k 0 within (omega arith)
    ∙ byte_after-drawing width height shapes shape k h)
