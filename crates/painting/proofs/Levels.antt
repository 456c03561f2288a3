-- Trees that are no deeper than so many levels.
use Rattle.std.proofs.Common.{◌≡◌, ℕ, zero, suc, ◌+◌, List, [], ◌∷◌, ◌++◌, map, take, drop, Option, Some, None, cond, refl, ap, ◌∙◌, add-one, zero-add, suc-add}
use Rattle.std.specs.Prelude.{flat_map, slice_get}
use Rattle.scene.specs.declared.paint.Paint.{Paint}
use Rattle.item_geometry.specs.Rectangle.{parts_of}
use Rattle.painting.specs.declared.painted.Painted.{Painted}
use Rattle.painting.specs.declared.viewport.Viewport.{Viewport}
use Rattle.painting.specs.Painting.{Tree, painted_part, inside, content, painted_item, paint_within, IsOnLevels}

-- lists are joined from the same pieces
pub same_pieces : (f g : ℕ → List Painted) (xs : List ℕ) → ((place x : ℕ) → slice_get xs place ≡ Some x → f x ≡ g x) → flat_map f xs ≡ flat_map g xs
same_pieces f g [] same = refl
same_pieces f g (x ∷ xs) same =
    (λ i. same 0 x refl i ++ flat_map f xs)
    ∙ ap (λ ys. g x ++ ys) (same_pieces f g xs (λ place y at. same (place + 1) y (rw add-one at)))

-- an item of a part of the list is one of the list
pub get_in_take : (n place : ℕ) (xs : List ℕ) (x : ℕ) → slice_get (take n xs) place ≡ Some x → slice_get xs place ≡ Some x
get_in_take zero place [] x at = at
get_in_take zero place (y ∷ ys) x at = cc
get_in_take (suc n) place [] x at = at
get_in_take (suc n) zero (y ∷ ys) x at = at
get_in_take (suc n) (suc place) (y ∷ ys) x at = get_in_take n place ys x at

pub get_in_drop : (n place : ℕ) (xs : List ℕ) (x : ℕ) → slice_get (drop n xs) place ≡ Some x → slice_get xs (n + place) ≡ Some x
get_in_drop zero place xs x at = rw zero-add at
get_in_drop (suc n) place [] x at = cc
get_in_drop (suc n) place (y ∷ ys) x at = rw suc-add (get_in_drop n place ys x at)

module _ (below other : ℕ → List Painted) (viewport : Viewport) where
  same_content : (item : Paint) → ((place child : ℕ) → slice_get item.children place ≡ Some child → below child ≡ other child)
      → content below viewport item ≡ content other viewport item
  same_content item same =
      let under : flat_map below (take item.under item.children) ≡ flat_map other (take item.under item.children) =
      same_pieces below other (take item.under item.children) (λ place x at. same place x (get_in_take item.under place item.children x at)) in
      let over : flat_map below (drop item.under item.children) ≡ flat_map other (drop item.under item.children) =
      same_pieces below other (drop item.under item.children) (λ place x at. same (item.under + place) x (get_in_drop item.under place item.children x at)) in
      λ i. under i ++ (map (painted_part viewport) (parts_of item.rects) ++ over i)

-- an item is painted alike where what is in it is
same_item : (below other : Viewport → ℕ → List Painted) (viewport : Viewport) (item : Option Paint)
    → ((p : Paint) → item ≡ Some p → (v : Viewport) (place child : ℕ) → slice_get p.children place ≡ Some child → below v child ≡ other v child)
    → painted_item below viewport item ≡ painted_item other viewport item
same_item below other viewport None same = refl
same_item below other viewport (Some p) same =
    ap (λ painted. cond p.shown painted [])
    (same_content (below (inside viewport p)) (other (inside viewport p)) (inside viewport p) p (same p refl (inside viewport p)))

-- where there is no item, nothing is painted
pub nothing : (levels : ℕ) (tree : Tree) (viewport : Viewport) (serial : ℕ) → tree serial ≡ None → paint_within levels tree viewport serial ≡ []
unfolding paint_within
nothing zero tree viewport serial is = refl
nothing (suc levels) tree viewport serial is = ap (painted_item (paint_within levels tree) viewport) is

pub deeper : (levels more : ℕ) (tree : Tree) (viewport : Viewport) (serial : ℕ) → IsOnLevels levels tree serial
    → paint_within (levels + more) tree viewport serial ≡ paint_within levels tree viewport serial
unfolding IsOnLevels paint_within
deeper zero more tree viewport serial is =
    rw zero-add (nothing more tree viewport serial is)
deeper (suc levels) more tree viewport serial is =
    rw suc-add (same_item (paint_within (levels + more) tree) (paint_within levels tree) viewport (tree serial) (λ item at v place child named. deeper levels more tree v child (is item at place child named)))
