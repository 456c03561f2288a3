-- Nodes that stand on no more than so many levels.
use Rattle.std.proofs.Common.{◌≡◌, ℕ, zero, suc, ◌+◌, ◌-◌, ◌<◌, ◌≤◌, List, [], Option, Some, None, cond, refl, ap, ◌∙◌, suc-add, arith}
use Rattle.std.specs.Prelude.{slice_get}
use Rattle.sg_nodes.specs.declared.node.NodeBody.{NodeBody}
use Rattle.sg_nodes.specs.declared.node.NodeBody.TheVariants.{Group, Rect}
use Rattle.sg_nodes.specs.declared.node.Node.{Node}
use Rattle.sg_nodes.specs.Forest.{Forest, Steps}
use Rattle.painting.specs.declared.painted.Painted.{Painted}
use Rattle.painting.specs.declared.viewport.Viewport.{Viewport}
use Rattle.painting.specs.Painting.{window}
use Rattle.painting.proofs.Levels.{same_pieces}
use Rattle.node_raster.specs.Nodes.{inside_group, painted_body, painted_node, paint_node_within, painted_root, paint_of_nodes, IsShallow}

-- a node is painted alike where its children are
module _ (below other : Viewport → ℕ → List Painted) (viewport : Viewport) (children : List ℕ)
    (same : (v : Viewport) (place child : ℕ) → slice_get children place ≡ Some child → below v child ≡ other v child) where
  same_body : (body : NodeBody) → painted_body below viewport children body ≡ painted_body other viewport children body
  same_body (Rect rect) = refl
  same_body (Group group) =
      ap (λ painted. cond group.shown painted [])
      (same_pieces (below (inside_group viewport group)) (other (inside_group viewport group)) children (same (inside_group viewport group)))

  same_node : (node : Option Node) → painted_node below viewport children node ≡ painted_node other viewport children node
  same_node None = refl
  same_node (Some node) = same_body node.body

-- each way down from the node has fewer steps than there are levels
abbrev IsWithin : ℕ → Forest → ℕ → Type 0
IsWithin levels f slot = (n below : ℕ) → Steps f n slot below → n < levels

deeper : (levels more : ℕ) (f : Forest) (viewport : Viewport) (slot : ℕ) → IsWithin levels f slot
    → paint_node_within (levels + more) f viewport slot ≡ paint_node_within levels f viewport slot
unfolding paint_node_within
deeper zero more f viewport slot is = let never : 0 < 0 = is zero slot refl in absurd (omega arith)
deeper (suc levels) more f viewport slot is =
    rw suc-add
    (same_node (paint_node_within (levels + more) f) (paint_node_within levels f) viewport (f.children slot)
    (λ v place child at. deeper levels more f v child (λ n below steps. let less : suc n < suc levels = is (suc n) below (child, ((place, at), steps)) in omega arith))
    (f.node slot))

root_deeper : (f : Forest) → IsShallow f → (levels : ℕ) → 258 ≤ levels → (root : Option ℕ) → painted_root levels f root ≡ painted_root 258 f root
root_deeper f shallow levels enough None = refl
root_deeper f shallow levels enough (Some root) =
    let all : levels ≡ 258 + (levels - 258) = omega arith in
    ap (λ (n : ℕ). paint_node_within n f window root) all
    ∙ deeper 258 (levels - 258) f window root (λ n below steps. let few = shallow n root below steps in omega arith)

-- where no node has more than 257 above it, more levels than 258 change nothing
pub all_levels : (f : Forest) → IsShallow f → (levels : ℕ) → 258 ≤ levels → paint_of_nodes levels f ≡ paint_of_nodes 258 f
all_levels f shallow levels enough = root_deeper f shallow levels enough f.root
