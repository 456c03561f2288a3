-- What a tree of items is painted as.
use Rattle.std.specs.Prelude.{◌≡◌, ℕ, zero, suc, ℤ, pos, ◌+ℤ◌, Bool, true, if◌then◌else◌, Option, Some, None, List, [], ◌++◌, map, take, drop, flat_map, slice_get}
use Rattle.item_geometry.specs.declared.clip_rect.ClipRect.{ClipRect}
use Rattle.item_geometry.specs.declared.parts.RectPart.{RectPart}
use Rattle.item_geometry.specs.Clip.{common, has_point}
use Rattle.item_geometry.specs.Rectangle.{parts_of}
use Rattle.rect_raster.specs.Drawing as raster
use Rattle.rect_raster.specs.Picture.{Picture}
use Rattle.scene.specs.declared.paint.Paint.{Paint}
use Rattle.painting.specs.declared.painted.Painted.{Painted}
use Rattle.painting.specs.declared.viewport.Viewport.{Viewport}
use Rattle.painting.specs.Shapes.{area_of, shapes}

-- items: what each is painted as, under its serial
abbrev pub Tree : Type 0
Tree = ℕ → Option Paint

-- ---- rectangles
abbrev pub rect_of : ℤ → ℤ → ℤ → ℤ → ClipRect
rect_of left top right bottom = record { left = left; top = top; right = right; bottom = bottom }

-- the pixels of a rectangle that begins at a place of the item and has so many columns and rows
abbrev pub area_at : Viewport → ℤ → ℤ → ℤ → ℤ → ClipRect
area_at viewport x y w h =
    rect_of (viewport.left +ℤ x) (viewport.top +ℤ y) ((viewport.left +ℤ x) +ℤ w) ((viewport.top +ℤ y) +ℤ h)

-- what is seen of a rectangle
abbrev pub seen : Option ClipRect → ClipRect → ClipRect
seen None area = area
seen (Some clip) area = common area clip

abbrev pub painted_of : ClipRect → ℕ → Painted
painted_of area argb = record { left = area.left; top = area.top; right = area.right; bottom = area.bottom; argb = argb }

-- one of an item's own rectangles, in the item's viewport
abbrev pub painted_part : Viewport → RectPart → Painted
painted_part viewport part = painted_of (seen viewport.clip (area_at viewport part.x part.y part.w part.h)) part.argb

-- ---- items
-- the viewport of what stands in a rectangle of another viewport: moved by x and y, and cut to the rectangle
-- where it clips
abbrev pub clip_within : Viewport → ℤ → ℤ → ℤ → ℤ → Bool → Option ClipRect
clip_within viewport x y w h clip = if clip then Some (seen viewport.clip (area_at viewport x y w h)) else viewport.clip

abbrev pub within : Viewport → ℤ → ℤ → ℤ → ℤ → Bool → Viewport
within viewport x y w h clip = record { left = viewport.left +ℤ x; top = viewport.top +ℤ y; clip = clip_within viewport x y w h clip }

-- the viewport of an item in that of its parent
abbrev pub inside : Viewport → Paint → Viewport
inside viewport item = within viewport item.x item.y item.w item.h item.clip

-- what is painted in an item's viewport: the children that come under its own rectangles, these, and the
-- other children, each as `below` paints it
abbrev pub content : (ℕ → List Painted) → Viewport → Paint → List Painted
content below viewport item =
    flat_map below (take item.under item.children)
    ++ (map (painted_part viewport) (parts_of item.rects) ++ flat_map below (drop item.under item.children))

-- an item that isn't shown is painted as nothing, with all that is in it
abbrev pub painted_item : (Viewport → ℕ → List Painted) → Viewport → Option Paint → List Painted
painted_item below viewport None = []
painted_item below viewport (Some item) =
    if item.shown then content (below (inside viewport item)) (inside viewport item) item else []

-- an item of this serial and what is in it, on so many levels from it on
unfoldable pub paint_within : ℕ → Tree → Viewport → ℕ → List Painted
paint_within zero tree viewport serial = []
paint_within (suc levels) tree viewport serial = painted_item (paint_within levels tree) viewport (tree serial)

-- ---- the window
-- where the content item stands
abbrev pub window : Viewport
window = record { left = pos 0; top = pos 0; clip = None }

-- what the items from this one on are painted as; there are at most 257 levels of them
abbrev pub paint : Tree → ℕ → List Painted
paint tree root = paint_within 257 tree window root

-- what a window of this size shows of them: each pixel is white, with the rectangles that have it over it in order
abbrev pub picture : Tree → ℕ → ℕ → ℕ → Picture
picture tree root width height = raster.drawing width height (shapes (paint tree root))

-- that picture as a binary pixmap, Netpbm's P6
abbrev pub frame : Tree → ℕ → ℕ → ℕ → List ℕ
frame tree root width height = raster.frame width height (shapes (paint tree root))

-- ---- what clips keep
-- a painted rectangle has only points of the clip
abbrev pub IsInside : ClipRect → Painted → Type 0
IsInside clip painted = (x y : ℤ) → has_point (area_of painted) x y ≡ true → has_point clip x y ≡ true

-- ---- depth
-- the item and what is in it stand on at most so many levels
unfoldable pub IsOnLevels : ℕ → Tree → ℕ → Type 0
IsOnLevels zero tree serial = tree serial ≡ None
IsOnLevels (suc levels) tree serial = (item : Paint) → tree serial ≡ Some item → (place child : ℕ) → slice_get item.children place ≡ Some child → IsOnLevels levels tree child
