-- What an item and what is in it are painted as, part by part.
use Rattle.std.proofs.Common.{◌≡◌, ℕ, zero, suc, cond, ◌+◌, List, [], ◌++◌, map, take, drop, Some, None, true, false, refl, sym, ap, ◌∙◌, append_assoc, append-nil, add-one}
use Rattle.std.specs.Prelude.{flat_map}
use Rattle.item_geometry.specs.Rectangle.{parts_of}
use Rattle.scene.specs.declared.paint.Paint.{Paint}
use Rattle.painting.specs.declared.painted.Painted.{Painted}
use Rattle.painting.specs.declared.viewport.Viewport.{Viewport}
use Rattle.painting.proofs.Levels.{nothing}
use Rattle.painting.specs.Painting.{Tree, painted_part, inside, content, painted_item, paint_within}

-- on no level nothing is painted
pub on_no_level : (levels : ℕ) (tree : Tree) (viewport : Viewport) (serial : ℕ) (before : List Painted) → levels ≡ 0
    → before ≡ before ++ paint_within levels tree viewport serial
unfolding paint_within
on_no_level levels tree viewport serial before is =
    sym (append-nil before) ∙ ap (λ (n : ℕ). before ++ paint_within n tree viewport serial) (sym is)

-- where there is no item, nothing is painted
pub no_item : (levels : ℕ) (tree : Tree) (viewport : Viewport) (serial : ℕ) (before : List Painted) → tree serial ≡ None
    → before ≡ before ++ paint_within levels tree viewport serial
no_item levels tree viewport serial before is =
    sym (append-nil before) ∙ ap (λ painted. before ++ painted) (sym (nothing levels tree viewport serial is))

hidden_nothing : (levels : ℕ) (tree : Tree) (viewport : Viewport) (serial : ℕ) (item : Paint) → tree serial ≡ Some item → item.shown ≡ false
    → paint_within levels tree viewport serial ≡ []
unfolding paint_within
hidden_nothing zero tree viewport serial item is hidden = refl
hidden_nothing (suc levels) tree viewport serial item is hidden =
    ap (painted_item (paint_within levels tree) viewport) is
    ∙ ap (λ b. cond b (content (paint_within levels tree (inside viewport item)) (inside viewport item) item) []) hidden

-- an item that isn't shown is painted as nothing
pub not_shown : (levels : ℕ) (tree : Tree) (viewport : Viewport) (serial : ℕ) (item : Paint) (before : List Painted) → tree serial ≡ Some item → item.shown ≡ false
    → before ≡ before ++ paint_within levels tree viewport serial
not_shown levels tree viewport serial item before is hidden =
    sym (append-nil before) ∙ ap (λ painted. before ++ painted) (sym (hidden_nothing levels tree viewport serial item is hidden))

-- an item that is shown is painted as its content
shown_content : (inner : ℕ) (tree : Tree) (viewport : Viewport) (serial : ℕ) (item : Paint) → tree serial ≡ Some item → item.shown ≡ true
    → paint_within (suc inner) tree viewport serial ≡ content (paint_within inner tree (inside viewport item)) (inside viewport item) item
unfolding paint_within
shown_content inner tree viewport serial item is shown =
    ap (painted_item (paint_within inner tree) viewport) is
    ∙ ap (λ b. cond b (content (paint_within inner tree (inside viewport item)) (inside viewport item) item) []) shown

-- an item is painted where its parts were
pub item_painted : (levels inner : ℕ) (tree : Tree) (viewport within : Viewport) (serial : ℕ) (item : Paint) (before first second after : List Painted)
    → tree serial ≡ Some item → item.shown ≡ true → inner + 1 ≡ levels → within ≡ inside viewport item
    → first ≡ before ++ flat_map (paint_within inner tree within) (take item.under item.children)
    → second ≡ first ++ map (painted_part within) (parts_of item.rects)
    → after ≡ second ++ flat_map (paint_within inner tree within) (drop item.under item.children)
    → after ≡ before ++ paint_within levels tree viewport serial
item_painted levels inner tree viewport within serial item before first second after is shown one_less within_is first_is second_is after_is =
    let whole : paint_within levels tree viewport serial ≡ content (paint_within inner tree within) within item =
    ap (λ (n : ℕ). paint_within n tree viewport serial) (sym one_less ∙ add-one inner)
    ∙ shown_content inner tree viewport serial item is shown
    ∙ ap (λ (v : Viewport). content (paint_within inner tree v) v item) (sym within_is) in
    let under = flat_map (paint_within inner tree within) (take item.under item.children) in
    let own = map (painted_part within) (parts_of item.rects) in
    let over = flat_map (paint_within inner tree within) (drop item.under item.children) in
    after_is ∙ ap (λ xs. xs ++ over) (second_is ∙ ap (λ xs. xs ++ own) first_is)
    ∙ append_assoc (before ++ under) own over ∙ append_assoc before under (own ++ over)
    ∙ ap (λ xs. before ++ xs) (sym whole)
