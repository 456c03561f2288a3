-- How nodes are stored: in a slab, each with a cell and a list under the number of its key.
use Rattle.std.specs.Prelude.{ℕ, ◌+◌, ◌<◌, ◌≤◌, List, Option, None, IsSome, slice_index_or, refl}
use Rattle.std.specs.Coded.{Coded, code_by, coded×, coded_ℕ, coded_list, coded_option}
use Rattle.slab.specs.Slab.{Slab, slab_len, get}
use Rattle.links.specs.Chains.{Chains, cells_in, AreDisjoint}
use Rattle.sg_nodes.specs.declared.node.Node.{Node}
use Rattle.sg_nodes.specs.contracts.node.Node as node_row
use Rattle.sg_nodes.specs.Forest.{Forest, IsForest}
use Rattle.sg_nodes.specs.Numbers.{IsFull}

-- by the slot the node, and its children
pub record StoredNodes : Type 0 where
  pub slots : List (Option Node)
  pub lists : List (Option (List ℕ))
  pub root : Option ℕ
  pub spare : ℕ

abbrev pub stored_code : Coded StoredNodes
stored_code =
    code_by (List (Option Node) × (List (Option (List ℕ)) × (Option ℕ × ℕ)))
    (coded× (coded_list (coded_option node_row.the_row.coded)) (coded× (coded_list (coded_option (coded_list coded_ℕ))) (coded× (coded_option coded_ℕ) coded_ℕ)))
    (λ s. (s.slots, (s.lists, (s.root, s.spare))))
    (λ p. record { slots = p.0; lists = p.1.0; root = p.1.1.0; spare = p.1.1.1 })
    (λ _. refl)

-- the nodes that are stored so
abbrev pub forest_of : StoredNodes → Forest
forest_of s = record {
  node = λ slot. slice_index_or s.slots slot None;
  children = λ slot. cells_in s.lists slot;
  root = s.root;
  spare = s.spare;
}

abbrev pub stored : Slab Node → Chains → Option ℕ → ℕ → StoredNodes
stored nodes links root spare = record { slots = nodes.slots; lists = links.lists; root = root; spare = spare }

-- they are a forest, and each node has a cell and a list. There is room for the spare ones, and for each
-- key that the slab may give a cell and a list.
pub record IsStored (nodes : Slab Node) (links : Chains) (root : Option ℕ) (spare count : ℕ) : Type 0 where
  pub forest : IsForest (forest_of (stored nodes links root spare))
  pub full : IsFull links count
  pub disjoint : AreDisjoint links
  pub within : (slot : ℕ) → IsSome (get nodes slot) → slot < count
  pub room : slab_len nodes + spare ≤ nodes.capacity
  pub keys : 0 < spare → nodes.capacity ≤ count
