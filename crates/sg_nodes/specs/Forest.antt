-- Nodes by the slots of their keys, each with its children in order.
use Rattle.std.specs.Prelude.{◌≡◌, ℕ, zero, suc, ◌==◌, not, if◌then◌else◌, List, [], ◌∷◌, ◌++◌, filter, Option, Some, None, IsSome, slice_get}
use Rattle.links.specs.declared.node_key.NodeKey.{NodeKey}
use Rattle.sg_nodes.specs.declared.node.Node.{Node}

-- the node that has a slot, if one has; the slots of its children; that of the root, if there is one; and
-- how many more nodes can be made
pub record Forest : Type 0 where
  pub node : ℕ → Option Node
  pub children : ℕ → List ℕ
  pub root : Option ℕ
  pub spare : ℕ

-- the slot has a node
abbrev pub IsLive : Forest → ℕ → Type 0
IsLive f slot = IsSome (f.node slot)

-- the second is a child of the first
abbrev pub IsChild : Forest → ℕ → ℕ → Type 0
IsChild f parent child = (place : ℕ) × (slice_get (f.children parent) place ≡ Some child)

-- so many steps from a node to a child lead from the first to the second
abbrev pub Steps : Forest → ℕ → ℕ → ℕ → Type 0
Steps f zero above below = above ≡ below
Steps f (suc n) above below = (child : ℕ) × (IsChild f above child × Steps f n child below)

-- the first is the second, or stands above it
abbrev pub IsFrom : Forest → ℕ → ℕ → Type 0
IsFrom f above below = (n : ℕ) × Steps f n above below

-- each child is a node, of one parent and at one place; the root is a node without a parent; and no node
-- stands above itself
pub record IsForest (f : Forest) : Type 0 where
  pub one_parent : (a b i j child : ℕ) → slice_get (f.children a) i ≡ Some child → slice_get (f.children b) j ≡ Some child → a ≡ b
  pub one_place : (a i j child : ℕ) → slice_get (f.children a) i ≡ Some child → slice_get (f.children a) j ≡ Some child → i ≡ j
  pub parent_live : (a i child : ℕ) → slice_get (f.children a) i ≡ Some child → IsLive f a
  pub child_live : (a i child : ℕ) → slice_get (f.children a) i ≡ Some child → IsLive f child
  pub root_live : (slot : ℕ) → f.root ≡ Some slot → IsLive f slot
  pub root_free : (slot : ℕ) → f.root ≡ Some slot → (parent : ℕ) → ¬ IsChild f parent slot
  pub no_cycle : (n slot : ℕ) → ¬ Steps f (suc n) slot slot

-- nothing at all
abbrev pub no_nodes : Forest
no_nodes = record { node = λ slot. None; children = λ slot. []; root = None; spare = 0 }

-- a function with another value at one number
abbrev pub put : {A : Type 0} → (ℕ → A) → ℕ → A → ℕ → A
put f at v slot = if slot == at then v else f slot

-- the list without a slot
abbrev pub without : ℕ → List ℕ → List ℕ
without slot slots = filter (λ s. not (s == slot)) slots

-- the list with a slot right before another one, or at the end where that isn't there
abbrev pub before : ℕ → ℕ → List ℕ → List ℕ
before slot at [] = slot ∷ []
before slot at (s ∷ slots) = if s == at then slot ∷ (s ∷ slots) else s ∷ before slot at slots

-- with a slot right before another one, or at the end where none is given
abbrev pub placed_before : ℕ → Option ℕ → List ℕ → List ℕ
placed_before slot None slots = slots ++ slot ∷ []
placed_before slot (Some at) slots = before slot at slots

-- the children once a node is among those of a parent, before another one or at the end, and nowhere else
abbrev pub moved : (ℕ → List ℕ) → ℕ → ℕ → Option ℕ → ℕ → List ℕ
moved children slot parent at p =
    if p == parent then placed_before slot at (without slot (children p)) else without slot (children p)

-- the root once a node is freed
abbrev pub root_without : ℕ → Option ℕ → Option ℕ
root_without slot None = None
root_without slot (Some root) = if root == slot then None else Some root

-- the nodes once one is freed: its children have no parent
abbrev pub freed : Forest → ℕ → Forest
freed f slot = record {
  node = put f.node slot None;
  children = λ p. if p == slot then [] else without slot (f.children p);
  root = root_without slot f.root;
  spare = f.spare;
}

abbrev pub slot_of : NodeKey → ℕ
slot_of key = key.slot

-- the key of a slot
abbrev pub key_of : ℕ → NodeKey
key_of slot = record { slot = slot }
