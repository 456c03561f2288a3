-- Rectangles in viewports, by their edges.
use Rattle.std.proofs.Common.{◌≡◌, ℤ, ◌+ℤ◌, ap, ◌∙◌}
use Rattle.item_geometry.specs.declared.clip_rect.ClipRect.{ClipRect}
use Rattle.painting.specs.declared.viewport.Viewport.{Viewport}
use Rattle.painting.specs.Painting.{rect_of, area_at, seen}

-- what is seen of a rectangle whose edges were found one by one
pub seen_by_edges : (viewport : Viewport) (x y w h left top right bottom : ℤ) (area result : ClipRect)
    → left ≡ viewport.left +ℤ x → top ≡ viewport.top +ℤ y → right ≡ left +ℤ w → bottom ≡ top +ℤ h
    → area ≡ rect_of left top right bottom → result ≡ seen viewport.clip area
    → result ≡ seen viewport.clip (area_at viewport x y w h)
seen_by_edges viewport x y w h left top right bottom area result l t r b a s =
    s ∙ ap (seen viewport.clip) (a ∙ (λ i. rect_of (l i) (t i) ((r ∙ ap (λ p. p +ℤ w) l) i) ((b ∙ ap (λ p. p +ℤ h) t) i)))
