-- When nodes agree with a scene, and when they stand for it.
use Rattle.std.specs.Prelude.{◌≡◌, ◌⊎◌, ℕ, List, [], ◌++◌, map as list_map, take, drop, Option, Some, option_map, slice_get}
use Rattle.std.specs.Option.{option_and_then}
use Rattle.std.specs.FinMap as map
use Rattle.links.specs.declared.node_key.NodeKey.{NodeKey}
use Rattle.item_geometry.specs.declared.parts.RectPart.{RectPart}
use Rattle.item_geometry.specs.Rectangle.{parts_of}
use Rattle.scene.specs.declared.paint.Paint.{Paint}
use Rattle.scene.specs.Keys.{rect_keys, keys_of}
use Rattle.scene.specs.Picture.{Item, Items, Picture, IsDirty, no_keys}
use Rattle.sg_nodes.specs.declared.node.Node.{Node}
use Rattle.sg_nodes.specs.declared.node.NodeKind.TheVariants.{Group, Rect}
use Rattle.sg_nodes.specs.declared.node.NodeBody.TheVariants.{Group as GroupBody, Rect as RectBody}
use Rattle.sg_nodes.specs.declared.node.GroupNode.{GroupNode}
use Rattle.sg_nodes.specs.declared.node.RectNode.{RectNode}
use Rattle.sg_nodes.specs.Bodies.{HasKind}
use Rattle.sg_nodes.specs.Forest.{Forest, IsLive, slot_of, key_of}
use Rattle.sg_standing.specs.Trees.{IsTree}

-- what an item's group is, and what one of its rectangles is
abbrev pub group_of : Paint → GroupNode
group_of paint = record { x = paint.x; y = paint.y; w = paint.w; h = paint.h; clip = paint.clip; shown = paint.shown }

abbrev pub rect_of : RectPart → RectNode
rect_of part = record { x = part.x; y = part.y; w = part.w; h = part.h; argb = part.argb }

-- the slot of an item's group, if there is such an item and it has one
abbrev pub group_slot : Items → ℕ → Option ℕ
group_slot items serial = option_map slot_of (option_and_then (λ (item : Item). item.keys.group) (map.get items serial))

-- what an item's group has as children: the groups of the children that come under its own rectangles,
-- these, and the groups of the other children
abbrev pub wanted : Items → Item → List (Option ℕ)
wanted items item =
    list_map (group_slot items) (take item.paint.under item.paint.children)
    ++ (list_map (λ key. Some (slot_of key)) (rect_keys item.keys.rects) ++ list_map (group_slot items) (drop item.paint.under item.paint.children))

-- the item has its nodes, made for it, as its record says
pub record HasNodes (f : Forest) (items : Items) (serial : ℕ) (item : Item) : Type 0 where
  pub group : NodeKey
  pub group_is : item.keys.group ≡ Some group
  pub group_node : f.node group.slot ≡ Some (record { item = serial; body = GroupBody (group_of item.paint) })
  pub rect_nodes : list_map (λ key. f.node (slot_of key)) (rect_keys item.keys.rects) ≡ list_map (λ part. Some (record { item = serial; body = RectBody (rect_of part) })) (parts_of item.paint.rects)
  pub children : list_map Some (f.children group.slot) ≡ wanted items item

-- the item has the key at this place of its keys
abbrev pub KeyAt : Item → ℕ → ℕ → Type 0
KeyAt item place slot = slice_get (keys_of item.keys) place ≡ Some (key_of slot)

-- the key is one of the item of that serial
abbrev pub IsOwned : Items → ℕ → ℕ → Type 0
IsOwned items serial slot = (item : Item) × ((map.get items serial ≡ Some item) × ((place : ℕ) × KeyAt item place slot))

-- the key is among those whose items are gone
abbrev pub ReleasedAt : Picture → ℕ → ℕ → Type 0
ReleasedAt p place slot = slice_get p.released place ≡ Some (key_of slot)

-- the item has the key of a group and those of its rectangles
abbrev pub HasKinds : Forest → Item → Type 0
HasKinds f item =
    ((key : NodeKey) × ((item.keys.group ≡ Some key) × HasKind f key.slot Group))
    × ((place : ℕ) (key : NodeKey) → slice_get (rect_keys item.keys.rects) place ≡ Some key → HasKind f key.slot Rect)

-- the scene's items are one tree; its items' keys and the released ones are those of the nodes, each once;
-- each item has no keys and is dirty, or has those of its nodes; the root is the content item's group; and
-- items that are not dirty have their nodes as their records say
pub record Agree (f : Forest) (p : Picture) : Type 0 where
  pub tree : IsTree p.items p.root
  pub one_item : (a b : ℕ) (item other : Item) (i j slot : ℕ) → map.get p.items a ≡ Some item → map.get p.items b ≡ Some other
      → KeyAt item i slot → KeyAt other j slot → (a ≡ b) × (i ≡ j)
  pub released_once : (i j slot : ℕ) → ReleasedAt p i slot → ReleasedAt p j slot → i ≡ j
  pub not_released : (serial i j slot : ℕ) (item : Item) → map.get p.items serial ≡ Some item → KeyAt item i slot → ¬ ReleasedAt p j slot
  pub of_nodes : (serial i slot : ℕ) (item : Item) → map.get p.items serial ≡ Some item → KeyAt item i slot → (node : Node) × ((f.node slot ≡ Some node) × (node.item ≡ serial))
  pub still_live : (i slot : ℕ) → ReleasedAt p i slot → IsLive f slot
  pub of_items : (slot : ℕ) (node : Node) → f.node slot ≡ Some node → IsOwned p.items node.item slot ⊎ ((i : ℕ) × ReleasedAt p i slot)
  pub keyed : (serial : ℕ) (item : Item) → map.get p.items serial ≡ Some item → ((item.keys ≡ no_keys) × IsDirty p serial) ⊎ HasKinds f item
  pub root : (item : Item) (key : NodeKey) → map.get p.items p.root ≡ Some item → item.keys.group ≡ Some key → f.root ≡ Some key.slot
  pub clean : (serial : ℕ) (item : Item) → map.get p.items serial ≡ Some item → ¬ IsDirty p serial → HasNodes f p.items serial item

-- they agree, nothing is dirty, and no key waits to be freed
pub record Stand (f : Forest) (p : Picture) : Type 0 where
  pub agree : Agree f p
  pub none_dirty : p.dirty ≡ []
  pub none_released : p.released ≡ []
