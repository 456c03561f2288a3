-- How the table of items, their marks and the room for released keys stand together.
use Rattle.std.specs.Prelude.{◌≡◌, ℕ, ◌+◌, ◌*◌, ◌≤◌, length, Some, IsSome, is_some, slice_get}
use Rattle.std.specs.FinMap as map
use Rattle.scene.specs.Marking.{Marking, owner}
use Rattle.scene.specs.Picture.{Item, StoredItems}

-- each item has a cell of its own, and no other cell is used; dirty ones are items; children that come
-- under an item's own rectangles are children; and there is room for the keys of all items
pub record IsHeld (stored : StoredItems) (marks : Marking) (released capacity : ℕ) : Type 0 where
  pub owned : (serial cell : ℕ) → map.get stored.cells serial ≡ Some cell → owner marks cell ≡ Some serial
  pub celled : (serial cell : ℕ) → owner marks cell ≡ Some serial → map.get stored.cells serial ≡ Some cell
  pub alike : (serial : ℕ) → is_some (map.get stored.items serial) ≡ is_some (map.get stored.cells serial)
  pub known : (place serial : ℕ) → slice_get marks.dirty place ≡ Some serial → IsSome (map.get stored.items serial)
  pub fits : (serial : ℕ) (item : Item) → map.get stored.items serial ≡ Some item → item.paint.under ≤ length item.paint.children
  pub room : released + 6 * stored.count ≤ capacity
