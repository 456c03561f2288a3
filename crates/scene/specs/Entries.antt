-- The items and the cells that entries stand for.
use Rattle.std.specs.Prelude.{ℕ, List, map as list_map}
use Rattle.std.specs.Ordering.{nat_cmp}
use Rattle.std.specs.FinMap as map
use Rattle.scene.specs.declared.items.Entry.{Entry}
use Rattle.scene.specs.Picture.{Items, item_of}

abbrev pub items_of : List (ℕ × Entry) → Items
items_of entries = map.from_entries (list_map (λ e. (e.0, item_of e.1)) entries)

abbrev pub cells_of : List (ℕ × Entry) → map.FinMap nat_cmp ℕ
cells_of entries = map.from_entries (list_map (λ e. (e.0, e.1.cell)) entries)
