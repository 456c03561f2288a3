-- No node of those that stand for a scene has more than 257 above it.
use Rattle.std.proofs.Common.{◌≡◌, ◌≢◌, ◌⊎◌, ⊎_elim, inl, inr, ℕ, zero, suc, ◌+◌, ◌≤◌, List, ◌∷◌, ◌++◌, map as list_map, take, drop, Option, Some, None, IsSome, is_some, add-zero, refl, sym, ap, ◌∙◌, arith}
use Rattle.std.specs.Prelude.{slice_get}
use Rattle.std.specs.FinMap as map
use Rattle.std.proofs.lemmas.Option.{none-some, same_Some}
use Rattle.std.proofs.lemmas.Bool.{cases_eq}
use Rattle.item_geometry.specs.declared.parts.RectPart.{RectPart}
use Rattle.item_geometry.specs.Rectangle.{parts_of}
use Rattle.links.specs.declared.node_key.NodeKey.{NodeKey}
use Rattle.scene.specs.Keys.{rect_keys, group_keys}
use Rattle.scene.specs.Picture.{Item, Items, Picture}
use Rattle.sg_nodes.specs.declared.node.Node.{Node}
use Rattle.sg_nodes.specs.declared.node.NodeBody.{NodeBody}
use Rattle.sg_nodes.specs.declared.node.NodeBody.TheVariants.{Group, Rect}
use Rattle.sg_nodes.specs.Forest.{Forest, IsForest, IsChild, Steps, slot_of, key_of}
use Rattle.sg_standing.specs.Standing.{Stand, HasNodes, IsOwned, ReleasedAt, group_slot, rect_of, wanted}
use Rattle.node_raster.specs.Nodes.{IsShallow}
use Rattle.node_raster.proofs.Places.{Has, in_left, in_right, in_map, from_map, in_part, unwrapped}
use Rattle.node_raster.proofs.Alike.{item_nodes, group_is}

-- how deep a node is: a group as its item, and a rectangle one below it
abbrev body_depth : NodeBody → ℕ → ℕ
body_depth (Group group) depth = depth
body_depth (Rect rect) depth = depth + 1

abbrev node_depth : (ℕ → ℕ) → Option Node → ℕ
node_depth depth None = 0
node_depth depth (Some node) = body_depth node.body (depth node.item)

-- what an item's group is to have as children, it has
child_wanted : {f : Forest} {items : Items} {serial : ℕ} {item : Item} (has : HasNodes f items serial item) (slot : ℕ) → Has (wanted items item) (Some slot) → IsChild f has.group.slot slot
child_wanted {f} {items} {serial} {item} has slot is = unwrapped (f.children has.group.slot) (wanted items item) has.children slot is

rect_wanted : (items : Items) (item : Item) (place slot : ℕ) → slice_get (rect_keys item.keys.rects) place ≡ Some (key_of slot) → Has (wanted items item) (Some slot)
rect_wanted items item place slot at =
    let lower = list_map (group_slot items) (take item.paint.under item.paint.children) in
    let upper = list_map (group_slot items) (drop item.paint.under item.paint.children) in
    let rects = list_map (λ key. Some (slot_of key)) (rect_keys item.keys.rects) in
    let own = in_left rects upper place (Some slot) (in_map (λ key. Some (slot_of key)) (rect_keys item.keys.rects) place (key_of slot) at) in
    in_right lower (rects ++ upper) own.0 (Some slot) own.1

group_wanted : (items : Items) (item : Item) (place child slot : ℕ) → slice_get item.paint.children place ≡ Some child → group_slot items child ≡ Some slot → Has (wanted items item) (Some slot)
group_wanted items item place child slot at is =
    let lower = list_map (group_slot items) (take item.paint.under item.paint.children) in
    let upper = list_map (group_slot items) (drop item.paint.under item.paint.children) in
    let rects = list_map (λ key. Some (slot_of key)) (rect_keys item.keys.rects) in
    ⊎_elim
    (λ (under : Has (take item.paint.under item.paint.children) child).
    in_left lower (rects ++ upper) under.0 (Some slot) (in_map (group_slot items) (take item.paint.under item.paint.children) under.0 child under.1 ∙ ap Some is))
    (λ (over : Has (drop item.paint.under item.paint.children) child).
    let own = in_right rects upper over.0 (Some slot) (in_map (group_slot items) (drop item.paint.under item.paint.children) over.0 child over.1 ∙ ap Some is) in
    in_right lower (rects ++ upper) own.0 (Some slot) own.1)
    (in_part item.paint.under item.paint.children place child at)

-- a key of an item is that of its group or of a rectangle
which_key : (group : NodeKey) (rects : List NodeKey) (place slot : ℕ) → slice_get (group ∷ rects) place ≡ Some (key_of slot)
    → (group.slot ≡ slot) ⊎ ((i : ℕ) × (slice_get rects i ≡ Some (key_of slot)))
which_key group rects zero slot at = inl (ap slot_of (same_Some group (key_of slot) at))
which_key group rects (suc place) slot at = inr (place, at)

there : {A : Type 0} (o : Option A) → IsSome o → (x : A) × (o ≡ Some x)
there None is = cc
there (Some x) is = (x, refl)

module _ {f : Forest} {p : Picture} (forest : IsForest f) (stand : Stand f p) where
  abbrev depth_of : ℕ → ℕ
  depth_of slot = node_depth stand.agree.tree.depth (f.node slot)

  owner : (slot : ℕ) (node : Node) → f.node slot ≡ Some node → IsOwned p.items node.item slot
  owner slot node is =
      ⊎_elim (λ (own : IsOwned p.items node.item slot). own)
      (λ (waits : (i : ℕ) × ReleasedAt p i slot). absurd (none-some (key_of slot) (ap (λ ks. slice_get ks waits.0) (sym stand.none_released) ∙ waits.1)))
      (stand.agree.of_items slot node is)

  depth_of_group : (serial : ℕ) (item : Item) (has : HasNodes f p.items serial item) → depth_of has.group.slot ≡ stand.agree.tree.depth serial
  depth_of_group serial item has = ap (node_depth stand.agree.tree.depth) has.group_node

  depth_of_rect : (serial : ℕ) (item : Item) (has : HasNodes f p.items serial item) (place slot : ℕ) → slice_get (rect_keys item.keys.rects) place ≡ Some (key_of slot)
      → depth_of slot ≡ stand.agree.tree.depth serial + 1
  depth_of_rect serial item has place slot at =
      let node = in_map (λ key. f.node (slot_of key)) (rect_keys item.keys.rects) place (key_of slot) at in
      let part = from_map (λ (part : RectPart). Some (record { item = serial; body = Rect (rect_of part) })) (parts_of item.paint.rects) place (f.node slot)
      (ap (λ xs. slice_get xs place) (sym has.rect_nodes) ∙ node) in
      ap (node_depth stand.agree.tree.depth) (sym part.1.1)

  -- a group of an item that isn't the content item is one below the group of the item's parent
  below_group : (a i serial : ℕ) (item : Item) → map.get p.items serial ≡ Some item → (has : HasNodes f p.items serial item) → slice_get (f.children a) i ≡ Some has.group.slot
      → stand.agree.tree.depth serial ≡ depth_of a + 1
  below_group a i serial item is has at =
      ⊎_elim
      (λ (root : serial ≡ p.root).
      absurd (forest.root_free has.group.slot (stand.agree.root item has.group (ap (map.get p.items) (sym root) ∙ is) has.group_is) a (i, at)))
      (λ (other : serial ≢ p.root).
      let named = stand.agree.tree.reached serial (ap is_some is) other in
      let parent_has = item_nodes stand named.0 named.2.0 named.2.1.0 in
      let child = child_wanted parent_has has.group.slot (group_wanted p.items named.2.0 named.1 serial has.group.slot named.2.1.1 (group_is has is)) in
      let same : a ≡ parent_has.group.slot = forest.one_parent a parent_has.group.slot i child.0 has.group.slot at child.1 in
      stand.agree.tree.below named.0 named.1 serial named.2
      ∙ ap (λ (n : ℕ). n + 1) (sym (ap depth_of same ∙ depth_of_group named.0 named.2.0 parent_has)))
      (cases_eq serial p.root)

  -- a child is one below its parent
  child_below : (a i b : ℕ) → slice_get (f.children a) i ≡ Some b → depth_of b ≡ depth_of a + 1
  child_below a i b at =
      let node = there (f.node b) (forest.child_live a i b at) in
      let own = owner b node.0 node.1 in
      let has = item_nodes stand node.0.item own.0 own.1.0 in
      ⊎_elim
      (λ (group : has.group.slot ≡ b).
      ap depth_of (sym group) ∙ depth_of_group node.0.item own.0 has ∙ below_group a i node.0.item own.0 own.1.0 has (at ∙ ap Some (sym group)))
      (λ (rect : (j : ℕ) × (slice_get (rect_keys own.0.keys.rects) j ≡ Some (key_of b))).
      let child = child_wanted has b (rect_wanted p.items own.0 rect.0 b rect.1) in
      let same : a ≡ has.group.slot = forest.one_parent a has.group.slot i child.0 b at child.1 in
      depth_of_rect node.0.item own.0 has rect.0 b rect.1
      ∙ ap (λ (n : ℕ). n + 1) (sym (ap depth_of same ∙ depth_of_group node.0.item own.0 has)))
      (which_key has.group (rect_keys own.0.keys.rects) own.1.1.0 b (ap (λ o. slice_get (group_keys o ++ rect_keys own.0.keys.rects) own.1.1.0) (sym has.group_is) ∙ own.1.1.1))

  body_most : (body : NodeBody) (depth : ℕ) → depth ≤ 256 → body_depth body depth ≤ 257
  body_most (Group group) depth few = omega arith
  body_most (Rect rect) depth few = omega arith

  node_most : (slot : ℕ) (o : Option Node) → f.node slot ≡ o → node_depth stand.agree.tree.depth o ≤ 257
  node_most slot None is = omega arith
  node_most slot (Some node) is = let own = owner slot node is in body_most node.body (stand.agree.tree.depth node.item) (stand.agree.tree.most node.item (ap is_some own.1.0))

  steps_below : (n above below : ℕ) → Steps f n above below → depth_of below ≡ depth_of above + n
  steps_below zero above below same = ap depth_of (sym same) ∙ sym (add-zero (depth_of above))
  steps_below (suc n) above below steps =
      let rest = steps_below n steps.0 below steps.1.1 in
      let first = child_below above steps.1.0.0 steps.0 steps.1.0.1 in
      omega arith

  pub shallow : IsShallow f
  shallow n above below steps =
      let deep = steps_below n above below steps in
      let most = node_most below (f.node below) refl in
      omega arith
