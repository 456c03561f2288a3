-- What the nodes of a scene graph are painted as.
use Rattle.std.specs.Prelude.{ℕ, zero, suc, ◌≤◌, if◌then◌else◌, Option, Some, None, option_map, List, [], ◌∷◌, flat_map}
use Rattle.std.specs.FinMap as map
use Rattle.item_geometry.specs.declared.parts.RectPart.{RectPart}
use Rattle.scene.specs.Picture.{Item, Items}
use Rattle.sg_nodes.specs.declared.node.GroupNode.{GroupNode}
use Rattle.sg_nodes.specs.declared.node.RectNode.{RectNode}
use Rattle.sg_nodes.specs.declared.node.NodeBody.{NodeBody}
use Rattle.sg_nodes.specs.declared.node.NodeBody.TheVariants.{Group, Rect}
use Rattle.sg_nodes.specs.declared.node.Node.{Node}
use Rattle.sg_nodes.specs.Forest.{Forest, Steps}
use Rattle.painting.specs.declared.painted.Painted.{Painted}
use Rattle.painting.specs.declared.viewport.Viewport.{Viewport}
use Rattle.painting.specs.Painting.{Tree, painted_part, within, window}

-- ---- nodes
-- a rectangle is one of the group round it, as an item's own rectangles are of the item
abbrev pub part_of : RectNode → RectPart
part_of rect = record { x = rect.x; y = rect.y; w = rect.w; h = rect.h; argb = rect.argb }

-- the viewport of a group in that of the group round it
abbrev pub inside_group : Viewport → GroupNode → Viewport
inside_group viewport group = within viewport group.x group.y group.w group.h group.clip

-- a rectangle is painted as itself. A group is painted as its children in order, each as `below` paints it in
-- the group's viewport, and where it isn't shown as nothing
abbrev pub painted_body : (Viewport → ℕ → List Painted) → Viewport → List ℕ → NodeBody → List Painted
painted_body below viewport children (Rect rect) = painted_part viewport (part_of rect) ∷ []
painted_body below viewport children (Group group) = if group.shown then flat_map (below (inside_group viewport group)) children else []

abbrev pub painted_node : (Viewport → ℕ → List Painted) → Viewport → List ℕ → Option Node → List Painted
painted_node below viewport children None = []
painted_node below viewport children (Some node) = painted_body below viewport children node.body

-- the node of this slot and what is in it, on so many levels from it on
unfoldable pub paint_node_within : ℕ → Forest → Viewport → ℕ → List Painted
paint_node_within zero f viewport slot = []
paint_node_within (suc levels) f viewport slot = painted_node (paint_node_within levels f) viewport (f.children slot) (f.node slot)

-- ---- the root
abbrev pub painted_root : ℕ → Forest → Option ℕ → List Painted
painted_root levels f None = []
painted_root levels f (Some root) = paint_node_within levels f window root

-- what the nodes from the root on are painted as, on so many levels; where there is no root, nothing
abbrev pub paint_of_nodes : ℕ → Forest → List Painted
paint_of_nodes levels f = painted_root levels f f.root

-- ---- depth
-- no node has more than 257 nodes above it
abbrev pub IsShallow : Forest → Type 0
IsShallow f = (n above below : ℕ) → Steps f n above below → n ≤ 257

-- ---- scenes
-- what the items of a scene are painted as, each under its serial
abbrev pub records : Items → Tree
records items serial = option_map (λ (item : Item). item.paint) (map.get items serial)
