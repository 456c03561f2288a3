-- A scene that the tests build, with its nodes.
use Rattle.std.specs.Prelude.{◌≡◌, ℕ, ◌≤◌, List, [], ◌∷◌, ◌++◌, Some, slice_get}
use Rattle.std.specs.FinMap as map
use Rattle.sg_sync.specs.Own.{IsIn}
use Rattle.scene.specs.Picture.{Item, Items, Picture}
use Rattle.sg_nodes.specs.Forest.{Forest}
use Rattle.sg_standing.specs.Trees.{IsItem}
use Rattle.sg_standing.specs.Standing.{Agree}

-- the nodes agree with the scene, of which no item stands deeper
pub record IsStaged (f : Forest) (p : Picture) (deepest : ℕ) : Type 0 where
  pub agree : Agree f p
  pub shallow : (serial : ℕ) → IsItem p.items serial → agree.tree.depth serial ≤ deepest

-- the same numbers, each as often as it was, where none stood twice
pub record IsReordered (old new : List ℕ) : Type 0 where
  pub on : (x : ℕ) → IsIn old x → IsIn new x
  pub back : (x : ℕ) → IsIn new x → IsIn old x
  pub once : ((i j x : ℕ) → slice_get old i ≡ Some x → slice_get old j ≡ Some x → i ≡ j) → (i j x : ℕ) → slice_get new i ≡ Some x → slice_get new j ≡ Some x → i ≡ j

-- the last child of the parent, which has no children itself
pub record IsLastLeaf (items : Items) (parent child : ℕ) : Type 0 where
  pub item : Item
  pub at : map.get items parent ≡ Some item
  pub leaf : Item
  pub leaf_at : map.get items child ≡ Some leaf
  pub bare : leaf.paint.children ≡ []
  pub others : List ℕ
  pub last : item.paint.children ≡ others ++ child ∷ []
