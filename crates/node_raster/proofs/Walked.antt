-- What a canvas shows as nodes are painted one after another.
use Rattle.std.proofs.Common.{◌≡◌, ◌≢◌, ℕ, zero, suc, ◌+◌, true, false, List, [], ◌∷◌, ◌++◌, take, Option, Some, None, cond, refl, sym, ap, ◌∙◌, subst, add-one, append-nil, append_assoc}
use Rattle.std.specs.Prelude.{option_map, flat_map, slice_get}
use Rattle.std.proofs.lemmas.List.{map-append}
use Rattle.rect_raster.specs.Picture.{Picture}
use Rattle.rect_raster.specs.Drawing.{drawing}
use Rattle.painting.specs.declared.painted.Painted.{Painted}
use Rattle.painting.specs.declared.viewport.Viewport.{Viewport}
use Rattle.painting.specs.Shapes.{shape, shapes}
use Rattle.sg_nodes.specs.declared.node.GroupNode.{GroupNode}
use Rattle.sg_nodes.specs.declared.node.RectNode.{RectNode}
use Rattle.sg_nodes.specs.declared.node.Node.{Node}
use Rattle.sg_nodes.specs.declared.node.NodeBody.TheVariants.{Group, Rect}
use Rattle.sg_nodes.specs.Forest.{Forest, key_of}
use Rattle.painting.specs.Painting.{painted_part}
use Rattle.node_raster.specs.Nodes.{part_of, inside_group, painted_body, painted_node, paint_node_within}
use Rattle.node_raster.specs.Drawn.{ShowsMore}
use Rattle.node_raster.proofs.Siblings.{one_more, all_before}

-- ---- canvases
-- where nothing is painted, the canvas shows what it showed
pub none_more : (p : Picture) (list : List Painted) → list ≡ [] → ShowsMore list p p
none_more p list none width height before is = is ∙ ap (drawing width height) (sym (append-nil before) ∙ ap (λ xs. before ++ shapes xs) (sym none))

-- one list after another
pub more_then : (a b c : Picture) (xs ys : List Painted) → ShowsMore xs a b → ShowsMore ys b c → ShowsMore (xs ++ ys) a c
more_then a b c xs ys first second width height before is =
    second width height (before ++ shapes xs) (first width height before is)
    ∙ ap (drawing width height) (append_assoc before (shapes xs) (shapes ys) ∙ ap (λ zs. before ++ zs) (sym (map-append shape xs ys)))

-- ---- nodes
-- on no level nothing is painted
on_no_level : (levels : ℕ) (f : Forest) (viewport : Viewport) (slot : ℕ) → levels ≡ 0 → paint_node_within levels f viewport slot ≡ []
unfolding paint_node_within
on_no_level levels f viewport slot none = ap (λ (n : ℕ). paint_node_within n f viewport slot) none

-- and on one or more what the node that has the slot is painted as
on_levels : (inner : ℕ) (f : Forest) (viewport : Viewport) (slot : ℕ) (stands : Option Node) → f.node slot ≡ stands
    → paint_node_within (suc inner) f viewport slot ≡ painted_node (paint_node_within inner f) viewport (f.children slot) stands
unfolding paint_node_within
on_levels inner f viewport slot stands is = ap (painted_node (paint_node_within inner f) viewport (f.children slot)) is

no_node : (levels : ℕ) (f : Forest) (viewport : Viewport) (slot : ℕ) → f.node slot ≡ None → paint_node_within levels f viewport slot ≡ []
no_node zero f viewport slot is = on_no_level zero f viewport slot refl
no_node (suc levels) f viewport slot is = on_levels levels f viewport slot None is

-- the rectangle of the slot
a_rect : (levels : ℕ) (f : Forest) (viewport : Viewport) (slot : ℕ) (node : Node) (rect : RectNode) → levels ≢ 0 → f.node slot ≡ Some node → node.body ≡ Rect rect
    → paint_node_within levels f viewport slot ≡ painted_part viewport (part_of rect) ∷ []
a_rect zero f viewport slot node rect some is body = absurd (some refl)
a_rect (suc levels) f viewport slot node rect some is body =
    on_levels levels f viewport slot (Some node) is ∙ ap (painted_body (paint_node_within levels f) viewport (f.children slot)) body

-- the group of the slot
a_group : (levels : ℕ) (f : Forest) (viewport : Viewport) (slot : ℕ) (node : Node) (group : GroupNode) → f.node slot ≡ Some node → node.body ≡ Group group
    → paint_node_within (suc levels) f viewport slot ≡ cond group.shown (flat_map (paint_node_within levels f (inside_group viewport group)) (f.children slot)) []
a_group levels f viewport slot node group is body =
    on_levels levels f viewport slot (Some node) is ∙ ap (painted_body (paint_node_within levels f) viewport (f.children slot)) body

hidden_nothing : (levels : ℕ) (f : Forest) (viewport : Viewport) (slot : ℕ) (node : Node) (group : GroupNode) → f.node slot ≡ Some node → node.body ≡ Group group → group.shown ≡ false
    → paint_node_within levels f viewport slot ≡ []
hidden_nothing zero f viewport slot node group is body hidden = on_no_level zero f viewport slot refl
hidden_nothing (suc levels) f viewport slot node group is body hidden =
    a_group levels f viewport slot node group is body
    ∙ ap (λ b. cond b (flat_map (paint_node_within levels f (inside_group viewport group)) (f.children slot)) []) hidden

shown_children : (levels inner : ℕ) (f : Forest) (viewport within : Viewport) (slot : ℕ) (node : Node) (group : GroupNode) → f.node slot ≡ Some node → node.body ≡ Group group
    → group.shown ≡ true → inner + 1 ≡ levels → within ≡ inside_group viewport group
    → paint_node_within levels f viewport slot ≡ flat_map (paint_node_within inner f within) (f.children slot)
shown_children levels inner f viewport within slot node group is body shown one_less within_is =
    ap (λ (n : ℕ). paint_node_within n f viewport slot) (sym one_less ∙ add-one inner)
    ∙ a_group inner f viewport slot node group is body
    ∙ ap (λ b. cond b (flat_map (paint_node_within inner f (inside_group viewport group)) (f.children slot)) []) shown
    ∙ ap (λ (v : Viewport). flat_map (paint_node_within inner f v) (f.children slot)) (sym within_is)

-- ---- nodes on canvases
module _ (levels : ℕ) (f : Forest) (viewport : Viewport) (slot : ℕ) (old : Picture) where
  pub shows_no_level : levels ≡ 0 → ShowsMore (paint_node_within levels f viewport slot) old old
  shows_no_level none = none_more old (paint_node_within levels f viewport slot) (on_no_level levels f viewport slot none)

  pub shows_no_node : f.node slot ≡ None → ShowsMore (paint_node_within levels f viewport slot) old old
  shows_no_node is = none_more old (paint_node_within levels f viewport slot) (no_node levels f viewport slot is)

  pub shows_rect : (node : Node) (rect : RectNode) (new : Picture) → levels ≢ 0 → f.node slot ≡ Some node → node.body ≡ Rect rect
      → ShowsMore (painted_part viewport (part_of rect) ∷ []) old new → ShowsMore (paint_node_within levels f viewport slot) old new
  shows_rect node rect new some is body shows =
      subst (λ list. ShowsMore list old new) (sym (a_rect levels f viewport slot node rect some is body)) shows

  pub shows_hidden : (node : Node) (group : GroupNode) → f.node slot ≡ Some node → node.body ≡ Group group → group.shown ≡ false
      → ShowsMore (paint_node_within levels f viewport slot) old old
  shows_hidden node group is body hidden =
      none_more old (paint_node_within levels f viewport slot) (hidden_nothing levels f viewport slot node group is body hidden)

  pub shows_group : (node : Node) (group : GroupNode) (inner : ℕ) (within : Viewport) (new : Picture) → f.node slot ≡ Some node → node.body ≡ Group group
      → group.shown ≡ true → inner + 1 ≡ levels → within ≡ inside_group viewport group
      → ShowsMore (flat_map (paint_node_within inner f within) (f.children slot)) old new → ShowsMore (paint_node_within levels f viewport slot) old new
  shows_group node group inner within new is body shown one_less within_is shows =
      subst (λ list. ShowsMore list old new) (sym (shown_children levels inner f viewport within slot node group is body shown one_less within_is)) shows

-- ---- children on canvases
-- one more child was painted
pub shows_one_more : (f : ℕ → List Painted) (xs : List ℕ) (place slot : ℕ) (a b c : Picture) → slice_get xs place ≡ Some slot
    → ShowsMore (flat_map f (take place xs)) a b → ShowsMore (f slot) b c → ShowsMore (flat_map f (take (place + 1) xs)) a c
shows_one_more f xs place slot a b c at first second =
    subst (λ list. ShowsMore list a c) (sym (one_more f xs place slot at)) (more_then a b c (flat_map f (take place xs)) (f slot) first second)

-- all were painted
pub shows_all : (f : ℕ → List Painted) (xs : List ℕ) (place : ℕ) (a b : Picture) → option_map key_of (slice_get xs place) ≡ None
    → ShowsMore (flat_map f (take place xs)) a b → ShowsMore (flat_map f xs) a b
shows_all f xs place a b none shows = subst (λ ys. ShowsMore (flat_map f ys) a b) (all_before xs place none) shows
