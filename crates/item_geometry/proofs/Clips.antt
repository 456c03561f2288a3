-- What two rectangles have together.
use Rattle.std.proofs.Common.{◌≡◌, ℤ, Bool, true, false, ◌&&◌, int_le, int_lt, refl, ap, sym, ◌∙◌, arith}
use Rattle.std.specs.Int.{int_min, int_max}
use Rattle.std.proofs.lemmas.Int.{ints, clamps}
use Rattle.item_geometry.specs.declared.clip_rect.ClipRect.{ClipRect}
use Rattle.item_geometry.specs.Clip.{is_within, has_point, common}

-- a place is within both ranges
within_both : (a b c d x : ℤ) → is_within (int_max a b) x (int_min c d) ≡ (is_within a x c && is_within b x d)
within_both a b c d x = grind (arith, ints, clamps)

and_pairs : (p q r s : Bool) → ((p && q) && (r && s)) ≡ ((p && r) && (q && s))
and_pairs true true r s = refl
and_pairs true false true s = refl
and_pairs true false false s = refl
and_pairs false true r s = refl
and_pairs false false r s = refl

pub has_point-common : (rect other : ClipRect) (x y : ℤ) → has_point (common rect other) x y ≡ (has_point rect x y && has_point other x y)
has_point-common rect other x y =
    ap (λ (b : Bool). b && is_within (int_max rect.top other.top) y (int_min rect.bottom other.bottom)) (within_both rect.left other.left rect.right other.right x)
    ∙ ap (λ (b : Bool). (is_within rect.left x rect.right && is_within other.left x other.right) && b) (within_both rect.top other.top rect.bottom other.bottom y)
    ∙ and_pairs (is_within rect.left x rect.right) (is_within other.left x other.right) (is_within rect.top y rect.bottom) (is_within other.top y other.bottom)

pub same_rect : {left left2 top top2 right right2 bottom bottom2 : ℤ} → left ≡ left2 → top ≡ top2 → right ≡ right2 → bottom ≡ bottom2
    → ◌≡◌ {A = ClipRect} (record { left = left; top = top; right = right; bottom = bottom }) (record { left = left2; top = top2; right = right2; bottom = bottom2 })
same_rect a b c d = cc
