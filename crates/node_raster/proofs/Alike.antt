-- Nodes that stand for a scene are painted as its items are.
use Rattle.std.proofs.Common.{◌≡◌, Bool, true, false, ℕ, zero, suc, ◌+◌, ◌-◌, ◌≤◌, List, [], ◌∷◌, ◌++◌, map as list_map, take, drop, Option, Some, None, IsSome, cond, refl, sym, ap, ◌∙◌, arith}
use Rattle.std.specs.Prelude.{option_map, slice_get, flat_map}
use Rattle.std.specs.Option.{option_and_then}
use Rattle.std.specs.FinMap as map
use Rattle.std.proofs.lemmas.Option.{none-some}
use Rattle.std.proofs.lemmas.Grind.{flat_map-append}
use Rattle.item_geometry.specs.declared.parts.RectPart.{RectPart}
use Rattle.item_geometry.specs.Rectangle.{parts_of}
use Rattle.links.specs.declared.node_key.NodeKey.{NodeKey}
use Rattle.scene.specs.Keys.{rect_keys}
use Rattle.scene.specs.Picture.{Item, Items, Picture}
use Rattle.sg_nodes.specs.declared.node.Node.{Node}
use Rattle.sg_nodes.specs.declared.node.NodeBody.TheVariants.{Rect}
use Rattle.sg_nodes.specs.Forest.{Forest, slot_of}
use Rattle.sg_standing.specs.Trees.{IsItem}
use Rattle.sg_standing.specs.Standing.{Stand, HasNodes, group_slot, rect_of, wanted}
use Rattle.painting.specs.declared.painted.Painted.{Painted}
use Rattle.painting.specs.declared.viewport.Viewport.{Viewport}
use Rattle.painting.specs.Painting.{painted_part, inside, content, painted_item, paint_within, paint, window}
use Rattle.painting.proofs.Levels.{get_in_take, get_in_drop, deeper}
use Rattle.node_raster.specs.Nodes.{painted_node, paint_node_within, painted_root, paint_of_nodes, records}
use Rattle.node_raster.proofs.Depth.{on_all_levels}

-- what is painted of a node's slot, if there is one
abbrev at_slot : (ℕ → List Painted) → Option ℕ → List Painted
at_slot g None = []
at_slot g (Some slot) = g slot

-- ---- lists
of_slots : (g : ℕ → List Painted) (xs : List ℕ) → flat_map g xs ≡ flat_map (at_slot g) (list_map Some xs)
of_slots g [] = refl
of_slots g (x ∷ xs) = ap (λ ys. g x ++ ys) (of_slots g xs)

of_groups : (items : Items) (g h : ℕ → List Painted) (xs : List ℕ) → ((place x : ℕ) → slice_get xs place ≡ Some x → at_slot g (group_slot items x) ≡ h x)
    → flat_map (at_slot g) (list_map (group_slot items) xs) ≡ flat_map h xs
of_groups items g h [] same = refl
of_groups items g h (x ∷ xs) same =
    (λ i. same zero x refl i ++ flat_map (at_slot g) (list_map (group_slot items) xs))
    ∙ ap (λ ys. h x ++ ys) (of_groups items g h xs (λ place y at. same (suc place) y at))

nothing_of : (f : Forest) (viewport : Viewport) (xs : List ℕ) → flat_map (paint_node_within zero f viewport) xs ≡ []
unfolding paint_node_within
nothing_of f viewport [] = refl
nothing_of f viewport (x ∷ xs) = nothing_of f viewport xs

-- ---- rectangles
abbrev rect_node : ℕ → RectPart → Option Node
rect_node serial part = Some (record { item = serial; body = Rect (rect_of part) })

first_same : {A : Type 0} (x y : A) (xs ys : List A) → x ∷ xs ≡ y ∷ ys → x ≡ y
first_same x y xs ys e = cc

rest_same : {A : Type 0} (x y : A) (xs ys : List A) → x ∷ xs ≡ y ∷ ys → xs ≡ ys
rest_same x y xs ys e = cc

rect_painted : (f : Forest) (n : ℕ) (viewport : Viewport) (serial slot : ℕ) (part : RectPart) → f.node slot ≡ rect_node serial part
    → paint_node_within (suc n) f viewport slot ≡ painted_part viewport part ∷ []
unfolding paint_node_within
rect_painted f n viewport serial slot part is = ap (painted_node (paint_node_within n f) viewport (f.children slot)) is

rects_painted : (f : Forest) (n : ℕ) (viewport : Viewport) (serial : ℕ) (keys : List NodeKey) (parts : List RectPart)
    → list_map (λ key. f.node (slot_of key)) keys ≡ list_map (rect_node serial) parts
    → flat_map (at_slot (paint_node_within (suc n) f viewport)) (list_map (λ key. Some (slot_of key)) keys) ≡ list_map (painted_part viewport) parts
rects_painted f n viewport serial [] [] are = refl
rects_painted f n viewport serial [] (p ∷ parts) are = cc
rects_painted f n viewport serial (k ∷ keys) [] are = cc
rects_painted f n viewport serial (k ∷ keys) (p ∷ parts) are =
    let here = rect_painted f n viewport serial (slot_of k) p (first_same (f.node (slot_of k)) (rect_node serial p) (list_map (λ key. f.node (slot_of key)) keys) (list_map (rect_node serial) parts) are) in
    let rest = rects_painted f n viewport serial keys parts (rest_same (f.node (slot_of k)) (rect_node serial p) (list_map (λ key. f.node (slot_of key)) keys) (list_map (rect_node serial) parts) are) in
    λ i. here i ++ rest i

-- ---- items
there : (o : Option Item) → IsSome o → (i : Item) × (o ≡ Some i)
there None is = cc
there (Some i) is = (i, refl)

pub item_nodes : {f : Forest} {p : Picture} (stand : Stand f p) (serial : ℕ) (item : Item) → map.get p.items serial ≡ Some item → HasNodes f p.items serial item
item_nodes stand serial item is =
    stand.agree.clean serial item is (λ dirty. none-some serial (ap (λ xs. slice_get xs dirty.0) (sym stand.none_dirty) ∙ dirty.1))

pub group_is : {f : Forest} {items : Items} {serial : ℕ} {item : Item} (has : HasNodes f items serial item) → map.get items serial ≡ Some item
    → group_slot items serial ≡ Some has.group.slot
group_is has is =
    ap (λ (o : Option Item). option_map slot_of (option_and_then (λ (i : Item). i.keys.group) o)) is
    ∙ ap (λ (o : Option NodeKey). option_map slot_of o) has.group_is

module _ {f : Forest} {p : Picture} (stand : Stand f p) where
  -- an item's group is painted as the item, on one level more
  abbrev IsAlike : ℕ → Type 0
  IsAlike n = (viewport : Viewport) (serial : ℕ) → IsItem p.items serial
      → at_slot (paint_node_within (suc n) f viewport) (group_slot p.items serial) ≡ paint_within n (records p.items) viewport serial

  wanted_painted : (n : ℕ) → IsAlike n → (viewport : Viewport) (serial : ℕ) (item : Item) → map.get p.items serial ≡ Some item → HasNodes f p.items serial item
      → flat_map (at_slot (paint_node_within (suc n) f viewport)) (wanted p.items item) ≡ content (paint_within n (records p.items) viewport) viewport item.paint
  wanted_painted n alike viewport serial item is has =
      let g = paint_node_within (suc n) f viewport in
      let h = paint_within n (records p.items) viewport in
      let lower = take item.paint.under item.paint.children in
      let upper = drop item.paint.under item.paint.children in
      let below : flat_map (at_slot g) (list_map (group_slot p.items) lower) ≡ flat_map h lower =
      of_groups p.items g h lower
      (λ place x at. alike viewport x (stand.agree.tree.named serial place x (item, (is, get_in_take item.paint.under place item.paint.children x at)))) in
      let above : flat_map (at_slot g) (list_map (group_slot p.items) upper) ≡ flat_map h upper =
      of_groups p.items g h upper
      (λ place x at. alike viewport x (stand.agree.tree.named serial (item.paint.under + place) x (item, (is, get_in_drop item.paint.under place item.paint.children x at)))) in
      let own = rects_painted f n viewport serial (rect_keys item.keys.rects) (parts_of item.paint.rects) has.rect_nodes in
      let rects = list_map (λ key. Some (slot_of key)) (rect_keys item.keys.rects) in
      flat_map-append (at_slot g) (list_map (group_slot p.items) lower) (rects ++ list_map (group_slot p.items) upper)
      ∙ ap (λ xs. flat_map (at_slot g) (list_map (group_slot p.items) lower) ++ xs) (flat_map-append (at_slot g) rects (list_map (group_slot p.items) upper))
      ∙ (λ i. below i ++ (own i ++ above i))

  -- what the children of an item's group are painted as
  inner : (n : ℕ) → IsAlike n → (viewport : Viewport) (serial : ℕ) (item : Item) → map.get p.items serial ≡ Some item → (has : HasNodes f p.items serial item)
      → flat_map (paint_node_within (suc n) f viewport) (f.children has.group.slot) ≡ content (paint_within n (records p.items) viewport) viewport item.paint
  inner n alike viewport serial item is has =
      let g = paint_node_within (suc n) f viewport in
      of_slots g (f.children has.group.slot) ∙ ap (flat_map (at_slot g)) has.children ∙ wanted_painted n alike viewport serial item is has

  -- a group of which the children are painted as the item's content
  group_painted : (n : ℕ) (viewport : Viewport) (serial : ℕ) (item : Item) → map.get p.items serial ≡ Some item → (has : HasNodes f p.items serial item)
      → at_slot (paint_node_within (suc n) f viewport) (group_slot p.items serial)
      ≡ cond item.paint.shown (flat_map (paint_node_within n f (inside viewport item.paint)) (f.children has.group.slot)) []
  unfolding paint_node_within
  group_painted n viewport serial item is has =
      ap (at_slot (paint_node_within (suc n) f viewport)) (group_is has is)
      ∙ ap (painted_node (paint_node_within n f) viewport (f.children has.group.slot)) has.group_node

  item_painted : (n : ℕ) (viewport : Viewport) (serial : ℕ) (item : Item) → map.get p.items serial ≡ Some item
      → paint_within (suc n) (records p.items) viewport serial
      ≡ cond item.paint.shown (content (paint_within n (records p.items) (inside viewport item.paint)) (inside viewport item.paint) item.paint) []
  unfolding paint_within
  item_painted n viewport serial item is =
      ap (λ (o : Option Item). painted_item (paint_within n (records p.items)) viewport (option_map (λ (i : Item). i.paint) o)) is

  nothing_painted : (viewport : Viewport) (serial : ℕ) → paint_within zero (records p.items) viewport serial ≡ []
  unfolding paint_within
  nothing_painted viewport serial = refl

  nothing_if : (shown : Bool) → cond {A = List Painted} shown [] [] ≡ []
  nothing_if true = refl
  nothing_if false = refl

  alike : (n : ℕ) → IsAlike n
  alike zero viewport serial is =
      let item = there (map.get p.items serial) is in
      let has = item_nodes stand serial item.0 item.1 in
      group_painted zero viewport serial item.0 item.1 has
      ∙ ap (λ xs. cond item.0.paint.shown xs []) (nothing_of f (inside viewport item.0.paint) (f.children has.group.slot))
      ∙ nothing_if item.0.paint.shown
      ∙ sym (nothing_painted viewport serial)
  alike (suc n) viewport serial is =
      let item = there (map.get p.items serial) is in
      let has = item_nodes stand serial item.0 item.1 in
      group_painted (suc n) viewport serial item.0 item.1 has
      ∙ ap (λ xs. cond item.0.paint.shown xs []) (inner n (λ v s i. alike n v s i) (inside viewport item.0.paint) serial item.0 item.1 has)
      ∙ sym (item_painted n viewport serial item.0 item.1)

  -- the nodes from the root on
  root_slot : f.root ≡ group_slot p.items p.root
  root_slot =
      let item = there (map.get p.items p.root) stand.agree.tree.rooted in
      let has = item_nodes stand p.root item.0 item.1 in
      stand.agree.root item.0 has.group item.1 has.group_is ∙ sym (group_is has item.1)

  of_root : (n : ℕ) (root : Option ℕ) → painted_root n f root ≡ at_slot (paint_node_within n f window) root
  of_root n None = refl
  of_root n (Some root) = refl

  pub nodes_painted : (levels : ℕ) → 258 ≤ levels → paint_of_nodes levels f ≡ paint (records p.items) p.root
  nodes_painted levels enough =
      let all : levels ≡ suc (257 + (levels - 258)) = omega arith in
      ap (λ (n : ℕ). painted_root n f f.root) all
      ∙ of_root (suc (257 + (levels - 258))) f.root
      ∙ ap (at_slot (paint_node_within (suc (257 + (levels - 258))) f window)) root_slot
      ∙ alike (257 + (levels - 258)) window p.root stand.agree.tree.rooted
      ∙ deeper 257 (levels - 258) (records p.items) window p.root (on_all_levels stand.agree.tree)
