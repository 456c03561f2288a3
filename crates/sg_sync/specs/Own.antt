-- What an item's group is to have as children, by the slots of keys.
use Rattle.std.specs.Prelude.{◌≡◌, ℕ, List, [], ◌++◌, map as list_map, flat_map, take, drop, Option, Some, None, unwrap_or, slice_get}
use Rattle.std.specs.FinMap as map
use Rattle.scene.specs.Keys.{rect_keys}
use Rattle.scene.specs.Picture.{Item, Items}
use Rattle.sg_nodes.specs.Forest.{slot_of}
use Rattle.sg_standing.specs.Standing.{group_slot}

-- the value is in the list
abbrev pub IsIn : {A : Type 0} → List A → A → Type 0
IsIn xs x = (place : ℕ) × (slice_get xs place ≡ Some x)

-- the slot of an item's group, and 0 where it has none
abbrev pub slot_or : Items → ℕ → ℕ
slot_or items serial = unwrap_or (group_slot items serial) 0

-- the groups of the children that come under the item's rectangles, these, and the groups of the others
abbrev pub own_slots : Items → Item → List ℕ
own_slots items item =
    list_map (slot_or items) (take item.paint.under item.paint.children)
    ++ (list_map slot_of (rect_keys item.keys.rects) ++ list_map (slot_or items) (drop item.paint.under item.paint.children))

abbrev pub slots_or_none : Items → Option Item → List ℕ
slots_or_none items None = []
slots_or_none items (Some item) = own_slots items item

-- those of the item of a serial, and none where there is no such item
abbrev pub slots_of : Items → ℕ → List ℕ
slots_of items serial = slots_or_none items (map.get items serial)

-- those of one item after the other
abbrev pub all_slots : Items → List ℕ → List ℕ
all_slots items serials = flat_map (slots_of items) serials
