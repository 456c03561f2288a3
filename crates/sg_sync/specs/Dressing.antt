-- Items that have their nodes, whatever the nodes have as children.
use Rattle.std.specs.Prelude.{◌≡◌, ◌⊎◌, ℕ, List, map as list_map, Some, IsSome, option_map}
use Rattle.std.specs.FinMap as map
use Rattle.links.specs.declared.node_key.NodeKey.{NodeKey}
use Rattle.item_geometry.specs.Rectangle.{parts_of}
use Rattle.scene.specs.Keys.{rect_keys, keys_of}
use Rattle.scene.specs.Picture.{Item, Items, no_keys}
use Rattle.sg_nodes.specs.declared.node.Node.{Node}
use Rattle.sg_nodes.specs.declared.node.NodeBody.TheVariants.{Group as GroupBody, Rect as RectBody}
use Rattle.sg_nodes.specs.Forest.{Forest, IsChild, slot_of}
use Rattle.sg_standing.specs.Trees.{IsTree}
use Rattle.sg_standing.specs.Standing.{group_of, rect_of, group_slot, KeyAt, IsOwned, HasKinds}
use Rattle.sg_sync.specs.Own.{IsIn, own_slots}
use Rattle.sg_sync.specs.Linking.{HasSegment, Distinct}

-- the item has its group and its rectangles, made for it, as its record says
pub record IsDressed (f : Forest) (serial : ℕ) (item : Item) : Type 0 where
  pub group : NodeKey
  pub group_is : item.keys.group ≡ Some group
  pub group_node : f.node group.slot ≡ Some (record { item = serial; body = GroupBody (group_of item.paint) })
  pub rect_nodes : list_map (λ key. f.node (slot_of key)) (rect_keys item.keys.rects) ≡ list_map (λ part. Some (record { item = serial; body = RectBody (rect_of part) })) (parts_of item.paint.rects)

-- where the item has a group, its children are, one right after the other, among the group's, and each
-- child has a group
pub record IsLinked (f : Forest) (items : Items) (item : Item) : Type 0 where
  pub segment : (group : NodeKey) → item.keys.group ≡ Some group → HasSegment (f.children group.slot) (own_slots items item)
  pub grown : (child : ℕ) → IsIn item.paint.children child → IsSome (group_slot items child)

-- where an item isn't among the loose ones, its children are below its group
abbrev pub AreLinked : Forest → Items → List ℕ → Type 0
AreLinked f items loose = (serial : ℕ) (item : Item) → map.get items serial ≡ Some item → ¬ IsIn loose serial → IsLinked f items item

-- the item wants that slot among its group's children
abbrev pub Wants : Items → ℕ → ℕ → Type 0
Wants items serial slot = (item : Item) × ((map.get items serial ≡ Some item) × IsIn (own_slots items item) slot)

-- each child is below the group of the item that wants it, or below the root's
abbrev pub AreParked : Forest → Items → ℕ → Type 0
AreParked f items root = (parent child : ℕ) → IsChild f parent child
    → ((serial : ℕ) × (Wants items serial child × (group_slot items serial ≡ Some parent))) ⊎ (group_slot items root ≡ Some parent)

-- the group of the item, if it has one, has no parent
abbrev pub HasNoParent : Forest → Items → ℕ → Type 0
HasNoParent f items serial = (slot : ℕ) → group_slot items serial ≡ Some slot → (parent : ℕ) → ¬ IsChild f parent slot

-- the items are one tree, and their keys those of the nodes, each once. Items that are still to do have no
-- keys or keys of nodes of their kinds, and all others have their nodes as their records say.
pub record Dressing (f : Forest) (items : Items) (root : ℕ) (todo : List ℕ) : Type 0 where
  pub tree : IsTree items root
  pub one_item : (a b : ℕ) (item other : Item) (i j slot : ℕ) → map.get items a ≡ Some item → map.get items b ≡ Some other
      → KeyAt item i slot → KeyAt other j slot → (a ≡ b) × (i ≡ j)
  pub of_nodes : (serial i slot : ℕ) (item : Item) → map.get items serial ≡ Some item → KeyAt item i slot → (node : Node) × ((f.node slot ≡ Some node) × (node.item ≡ serial))
  pub of_items : (slot : ℕ) (node : Node) → f.node slot ≡ Some node → IsOwned items node.item slot
  pub kinds : (serial : ℕ) (item : Item) → map.get items serial ≡ Some item → IsIn todo serial → (item.keys ≡ no_keys) ⊎ HasKinds f item
  pub bodies : (serial : ℕ) (item : Item) → map.get items serial ≡ Some item → ¬ IsIn todo serial → IsDressed f serial item

-- each item is painted as before
abbrev pub SamePaints : Items → Items → Type 0
SamePaints old new = (serial : ℕ) → option_map (λ (item : Item). item.paint) (map.get new serial) ≡ option_map (λ (item : Item). item.paint) (map.get old serial)

-- what is known of an item whose nodes are to be brought up to date
pub record CanRenew (f : Forest) (serial : ℕ) (item : Item) : Type 0 where
  pub distinct : Distinct (keys_of item.keys)
  pub of_item : (i slot : ℕ) → KeyAt item i slot → (node : Node) × ((f.node slot ≡ Some node) × (node.item ≡ serial))
  pub kinds : (item.keys ≡ no_keys) ⊎ HasKinds f item
