-- Items that are one tree.
use Rattle.std.specs.Prelude.{◌≡◌, ◌≢◌, ℕ, ◌+◌, ◌≤◌, length, Some, IsSome, slice_get}
use Rattle.std.specs.FinMap as map
use Rattle.scene.specs.Picture.{Item, Items}

-- there is an item of the serial
abbrev pub IsItem : Items → ℕ → Type 0
IsItem items serial = IsSome (map.get items serial)

-- the parent's record names the child at this place
abbrev pub Names : Items → ℕ → ℕ → ℕ → Type 0
Names items parent place child = (item : Item) × ((map.get items parent ≡ Some item) × (slice_get item.paint.children place ≡ Some child))

-- from the root, of a depth of at most 256 below it: each child is an item, of one parent and at one place,
-- and each item but the root is a child. The children that come under an item's own rectangles are children.
pub record IsTree (items : Items) (root : ℕ) : Type 0 where
  pub depth : ℕ → ℕ
  pub rooted : IsItem items root
  pub named : (parent place child : ℕ) → Names items parent place child → IsItem items child
  pub one_parent : (a b i j child : ℕ) → Names items a i child → Names items b j child → a ≡ b
  pub one_place : (parent i j child : ℕ) → Names items parent i child → Names items parent j child → i ≡ j
  pub reached : (serial : ℕ) → IsItem items serial → serial ≢ root → (parent place : ℕ) × Names items parent place serial
  pub at_root : depth root ≡ 0
  pub below : (parent place child : ℕ) → Names items parent place child → depth child ≡ depth parent + 1
  pub most : (serial : ℕ) → IsItem items serial → depth serial ≤ 256
  pub fits : (serial : ℕ) (item : Item) → map.get items serial ≡ Some item → item.paint.under ≤ length item.paint.children
