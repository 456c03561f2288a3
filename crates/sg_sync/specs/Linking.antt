-- Nodes that move to the end of a parent's children, one after the other.
use Rattle.std.specs.Prelude.{◌≡◌, ◌≢◌, ℕ, Bool, true, false, List, [], ◌∷◌, ◌++◌, Some, None, ⊤, slice_get}
use Rattle.sg_nodes.specs.Forest.{Forest, IsLive, moved}
use Rattle.sg_sync.specs.Own.{IsIn}

-- the children once these have moved
abbrev pub linked : (ℕ → List ℕ) → List ℕ → ℕ → ℕ → List ℕ
linked children [] parent = children
linked children (slot ∷ slots) parent = linked (moved children slot parent None) slots parent

-- nodes that may move to a parent: there are nodes, closed upwards, that have the parent among them and none
-- of those that move
pub record CanMove (f : Forest) (parent : ℕ) (slots : List ℕ) : Type 0 where
  pub up : ℕ → Bool
  pub here : up parent ≡ true
  pub closed : (a place child : ℕ) → slice_get (f.children a) place ≡ Some child → up child ≡ true → up a ≡ true
  pub lower : (slot : ℕ) → IsIn slots slot → up slot ≡ false
  pub live : (slot : ℕ) → IsIn slots slot → IsLive f slot
  pub not_root : (slot : ℕ) → IsIn slots slot → f.root ≢ Some slot
  pub parent_live : IsLive f parent

-- the slots stand in the list, one right after the other
abbrev pub HasSegment : List ℕ → List ℕ → Type 0
HasSegment slots segment = (before : List ℕ) × ((after : List ℕ) × (slots ≡ before ++ (segment ++ after)))

-- no value stands twice
abbrev pub Distinct : {A : Type 0} → List A → Type 0
Distinct [] = ⊤
Distinct (x ∷ xs) = (¬ IsIn xs x) × Distinct xs
