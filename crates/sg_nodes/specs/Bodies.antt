-- What nodes are when they are made.
use Rattle.std.specs.Prelude.{◌≡◌, ℕ, pos, false, Some}
use Rattle.sg_nodes.specs.declared.node.NodeKind.{NodeKind}
use Rattle.sg_nodes.specs.declared.node.NodeKind.TheVariants.{Group, Rect}
use Rattle.sg_nodes.specs.declared.node.NodeBody.{NodeBody}
use Rattle.sg_nodes.specs.declared.node.NodeBody.TheVariants.{Group as GroupBody, Rect as RectBody}
use Rattle.sg_nodes.specs.declared.node.Node.{Node}
use Rattle.sg_nodes.specs.Forest.{Forest}

-- at 0, 0 with no size; a group that isn't shown and doesn't clip, or a rectangle of the colour 0
abbrev pub fresh_body : NodeKind → NodeBody
fresh_body Group = GroupBody (record { x = pos 0; y = pos 0; w = pos 0; h = pos 0; clip = false; shown = false })
fresh_body Rect = RectBody (record { x = pos 0; y = pos 0; w = pos 0; h = pos 0; argb = 0 })

-- of which kind it is
abbrev pub kind_of : NodeBody → NodeKind
kind_of (GroupBody group) = Group
kind_of (RectBody rect) = Rect

-- the slot has a node of the kind
abbrev pub HasKind : Forest → ℕ → NodeKind → Type 0
HasKind f slot kind = (node : Node) × ((f.node slot ≡ Some node) × (kind_of node.body ≡ kind))
