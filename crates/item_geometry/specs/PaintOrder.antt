-- The order in which items are painted.
use Rattle.std.specs.Prelude.{ℕ, ℤ, pos, int_lt, if◌then◌else◌, List, [], ◌∷◌, length, slice_index_or}
use Rattle.std.specs.List.{range_with_len}
use Rattle.std.specs.Ordering.{int_cmp, nat_cmp, ordering_then}
use Rattle.std.specs.declared.cmp.Ordering.{Ordering}

-- the z of an item
abbrev pub z_of : List ℤ → ℕ → ℤ
z_of z item = slice_index_or z item (pos 0)

-- which of two items is painted first: that of the lesser z, and of one z that which appears first
abbrev pub paint_cmp : List ℤ → ℕ → ℕ → Ordering
paint_cmp z item other = ordering_then (int_cmp (z_of z item) (z_of z other)) (nat_cmp item other)

-- the items in the order of their appearance
abbrev pub items_of : List ℤ → List ℕ
items_of z = range_with_len 0 (length z)

-- an item among those that appear after it: it goes before the first whose z is not below its own
unfoldable pub placed : List ℤ → ℕ → List ℕ → List ℕ
placed z item [] = item ∷ []
placed z item (next ∷ rest) = if int_lt (z_of z next) (z_of z item) then next ∷ placed z item rest else item ∷ next ∷ rest

-- items by rising z, and those of one z in the order of their appearance
unfoldable pub by_z : List ℤ → List ℕ → List ℕ
by_z z [] = []
by_z z (item ∷ items) = placed z item (by_z z items)

-- the order in which the items that have these z are painted
abbrev pub painting_order : List ℤ → List ℕ
painting_order z = by_z z (items_of z)
