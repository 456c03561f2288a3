-- Clips keep what is painted inside them.
use Rattle.std.proofs.Common.{◌≡◌, ℕ, zero, suc, ℤ, Bool, true, false, ◌&&◌, cond, List, [], ◌∷◌, ◌++◌, map, take, drop, Option, Some, None, refl, sym, ap, ◌∙◌, subst, arith}
use Rattle.std.specs.Prelude.{flat_map, slice_get}
use Rattle.std.specs.Int.{int_min, int_max}
use Rattle.std.proofs.lemmas.Int.{ints, clamps}
use Rattle.item_geometry.specs.declared.clip_rect.ClipRect.{ClipRect}
use Rattle.item_geometry.specs.declared.parts.RectPart.{RectPart}
use Rattle.item_geometry.specs.Clip.{is_within, has_point, common}
use Rattle.item_geometry.specs.Rectangle.{parts_of}
use Rattle.scene.specs.declared.paint.Paint.{Paint}
use Rattle.painting.specs.declared.painted.Painted.{Painted}
use Rattle.painting.specs.declared.viewport.Viewport.{Viewport}
use Rattle.painting.specs.Painting.{Tree, area_at, seen, painted_part, inside, content, painted_item, paint_within, IsInside}

-- ---- points
both_left : (a b : Bool) → (a && b) ≡ true → a ≡ true
both_left true b both = refl
both_left false b both = both

both_right : (a b : Bool) → (a && b) ≡ true → b ≡ true
both_right true b both = both
both_right false b both = cc

within_right : (a b c d x : ℤ) → is_within (int_max a b) x (int_min c d) ≡ true → is_within b x d ≡ true
within_right a b c d x within = grind (arith, ints, clamps)

both : (a b : Bool) → a ≡ true → b ≡ true → (a && b) ≡ true
both a b first second = rw (first, second)

-- a point of what two rectangles have together is one of the second
point_of_second : (rect other : ClipRect) (x y : ℤ) → has_point (common rect other) x y ≡ true → has_point other x y ≡ true
point_of_second rect other x y has =
    both (is_within other.left x other.right) (is_within other.top y other.bottom)
    (within_right rect.left other.left rect.right other.right x (both_left (is_within (int_max rect.left other.left) x (int_min rect.right other.right)) (is_within (int_max rect.top other.top) y (int_min rect.bottom other.bottom)) has))
    (within_right rect.top other.top rect.bottom other.bottom y (both_right (is_within (int_max rect.left other.left) x (int_min rect.right other.right)) (is_within (int_max rect.top other.top) y (int_min rect.bottom other.bottom)) has))

-- ---- lists
-- each of a list
abbrev Each : (Painted → Type 0) → List Painted → Type 0
Each P [] = Unit {0}
Each P (p ∷ ps) = P p × Each P ps

module _ (P : Painted → Type 0) where
  each-append : (xs ys : List Painted) → Each P xs → Each P ys → Each P (xs ++ ys)
  each-append [] ys first second = second
  each-append (x ∷ xs) ys first second = (first.0, each-append xs ys first.1 second)

  each-flat_map : (f : ℕ → List Painted) (xs : List ℕ) → ((x : ℕ) → Each P (f x)) → Each P (flat_map f xs)
  each-flat_map f [] all = tt
  each-flat_map f (x ∷ xs) all = each-append (f x) (flat_map f xs) (all x) (each-flat_map f xs all)

  each-map : (f : RectPart → Painted) (xs : List RectPart) → ((x : RectPart) → P (f x)) → Each P (map f xs)
  each-map f [] all = tt
  each-map f (x ∷ xs) all = (all x, each-map f xs all)

  pub each-get : (xs : List Painted) → Each P xs → (place : ℕ) (p : Painted) → slice_get xs place ≡ Some p → P p
  each-get [] all place p at = cc
  each-get (x ∷ xs) all zero p at = let same : x ≡ p = cc in subst P same all.0
  each-get (x ∷ xs) all (suc place) p at = each-get xs all.1 place p at

module _ (P Q : Painted → Type 0) (weaker : (p : Painted) → P p → Q p) where
  each-weaker : (xs : List Painted) → Each P xs → Each Q xs
  each-weaker [] all = tt
  each-weaker (x ∷ xs) all = (weaker x all.0, each-weaker xs all.1)

-- ---- items
part_inside : (viewport : Viewport) (clip : ClipRect) (part : RectPart) → viewport.clip ≡ Some clip → IsInside clip (painted_part viewport part)
part_inside viewport clip part is x y has =
    let area = area_at viewport part.x part.y part.w part.h in
    point_of_second area clip x y (ap (λ (c : Option ClipRect). has_point (seen c area) x y) (sym is) ∙ has)

-- what is inside the clip in an item is inside the clip round it
abbrev Narrower : Viewport → Viewport → ClipRect → Type 0
Narrower inner outer clip = (within : ClipRect) × ((inner.clip ≡ Some within) × ((p : Painted) → IsInside within p → IsInside clip p))

narrower_by : (clips : Bool) (outer : Option ClipRect) (area clip : ClipRect) → outer ≡ Some clip
    → (within : ClipRect) × ((cond clips (Some (seen outer area)) outer ≡ Some within) × ((p : Painted) → IsInside within p → IsInside clip p))
narrower_by true outer area clip is =
    (common area clip, (ap (λ c. Some (seen c area)) is, λ p inside x y has. point_of_second area clip x y (inside x y has)))
narrower_by false outer area clip is = (clip, (is, λ p inside. inside))

narrower : (viewport : Viewport) (item : Paint) (clip : ClipRect) → viewport.clip ≡ Some clip → Narrower (inside viewport item) viewport clip
narrower viewport item clip is = narrower_by item.clip viewport.clip (area_at viewport item.x item.y item.w item.h) clip is

module _ (below : Viewport → ℕ → List Painted) (kept : (viewport : Viewport) (clip : ClipRect) → viewport.clip ≡ Some clip → (serial : ℕ) → Each (IsInside clip) (below viewport serial)) where
  content_kept : (viewport : Viewport) (clip : ClipRect) (item : Paint) → viewport.clip ≡ Some clip → Each (IsInside clip) (content (below viewport) viewport item)
  content_kept viewport clip item is =
      let P = IsInside clip in
      each-append P (flat_map (below viewport) (take item.under item.children)) (map (painted_part viewport) (parts_of item.rects) ++ flat_map (below viewport) (drop item.under item.children))
      (each-flat_map P (below viewport) (take item.under item.children) (kept viewport clip is))
      (each-append P (map (painted_part viewport) (parts_of item.rects)) (flat_map (below viewport) (drop item.under item.children))
      (each-map P (painted_part viewport) (parts_of item.rects) (λ part. part_inside viewport clip part is))
      (each-flat_map P (below viewport) (drop item.under item.children) (kept viewport clip is)))

  shown_kept : (shown : Bool) (viewport : Viewport) (clip : ClipRect) (item : Paint) → viewport.clip ≡ Some clip
      → Each (IsInside clip) (cond shown (content (below (inside viewport item)) (inside viewport item) item) [])
  shown_kept true viewport clip item is =
      let inner = narrower viewport item clip is in
      each-weaker (IsInside inner.0) (IsInside clip) inner.1.1 (content (below (inside viewport item)) (inside viewport item) item)
      (content_kept (inside viewport item) inner.0 item inner.1.0)
  shown_kept false viewport clip item is = tt

  item_kept : (viewport : Viewport) (clip : ClipRect) (item : Option Paint) → viewport.clip ≡ Some clip → Each (IsInside clip) (painted_item below viewport item)
  item_kept viewport clip None is = tt
  item_kept viewport clip (Some item) is = shown_kept item.shown viewport clip item is

all_kept : (levels : ℕ) (tree : Tree) (viewport : Viewport) (clip : ClipRect) → viewport.clip ≡ Some clip → (serial : ℕ) → Each (IsInside clip) (paint_within levels tree viewport serial)
unfolding paint_within
all_kept zero tree viewport clip is serial = tt
all_kept (suc levels) tree viewport clip is serial =
    item_kept (paint_within levels tree) (λ v c e s. all_kept levels tree v c e s) viewport clip (tree serial) is

-- nothing that is painted in a viewport stands outside of what is seen there
pub confined : (levels : ℕ) (tree : Tree) (viewport : Viewport) (serial : ℕ) (clip : ClipRect) → viewport.clip ≡ Some clip
    → (place : ℕ) (p : Painted) → slice_get (paint_within levels tree viewport serial) place ≡ Some p → IsInside clip p
confined levels tree viewport serial clip is place p at =
    each-get (IsInside clip) (paint_within levels tree viewport serial) (all_kept levels tree viewport clip is serial) place p at
