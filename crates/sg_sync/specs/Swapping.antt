-- Nodes that are set, made and freed.
use Rattle.std.specs.Prelude.{◌≡◌, ℕ, List, map as list_map, Some, None}
use Rattle.links.specs.declared.node_key.NodeKey.{NodeKey}
use Rattle.sg_nodes.specs.declared.node.Node.{Node}
use Rattle.item_geometry.specs.declared.parts.RectPart.{RectPart}
use Rattle.scene.specs.declared.paint.Paint.{Paint}
use Rattle.sg_nodes.specs.declared.node.NodeKind.{NodeKind}
use Rattle.sg_nodes.specs.declared.node.NodeBody.TheVariants.{Group as GroupBody, Rect as RectBody}
use Rattle.sg_nodes.specs.Bodies.{kind_of}
use Rattle.sg_standing.specs.Standing.{group_of, rect_of}
use Rattle.sg_nodes.specs.Forest.{Forest, IsChild, slot_of, key_of}
use Rattle.sg_sync.specs.Own.{IsIn}
use Rattle.sg_sync.specs.Linking.{HasSegment, Distinct}

-- the slot is that of one of the keys
abbrev pub IsSlotOf : List NodeKey → ℕ → Type 0
IsSlotOf keys slot = IsIn keys (key_of slot)

-- an item's group, and one of its rectangles
abbrev pub group_node : ℕ → Paint → Node
group_node serial paint = record { item = serial; body = GroupBody (group_of paint) }

abbrev pub rect_node : ℕ → RectPart → Node
rect_node serial part = record { item = serial; body = RectBody (rect_of part) }

-- the key is that of a node of the kind, made for the item
abbrev pub IsOfItem : Forest → ℕ → NodeKind → NodeKey → Type 0
IsOfItem f serial kind key = (node : Node) × ((f.node key.slot ≡ Some node) × ((node.item ≡ serial) × (kind_of node.body ≡ kind)))

-- the new keys have these nodes in place of those of the old keys, and of the nodes that some keys had a child
-- or a parent may be gone
pub record Swapped (f g : Forest) (old new freed : List NodeKey) (nodes : List Node) : Type 0 where
  pub has : list_map (λ key. g.node (slot_of key)) new ≡ list_map Some nodes
  pub apart : Distinct new
  pub others : (slot : ℕ) → ¬ IsSlotOf old slot → ¬ IsSlotOf new slot → g.node slot ≡ f.node slot
  pub ended : (slot : ℕ) → IsSlotOf old slot → ¬ IsSlotOf new slot → g.node slot ≡ None
  pub fresh : (slot : ℕ) → IsSlotOf new slot → ¬ IsSlotOf old slot → f.node slot ≡ None
  pub fewer : (parent child : ℕ) → IsChild g parent child → IsChild f parent child
  pub kept : (parent : ℕ) (segment : List ℕ) → ¬ IsSlotOf freed parent → HasSegment (f.children parent) segment
      → ((slot : ℕ) → IsIn segment slot → ¬ IsSlotOf freed slot) → HasSegment (g.children parent) segment
