-- Which keys items keep, and how many nodes are made and freed for them.
use Rattle.std.specs.Prelude.{◌≡◌, ℕ, ◌+◌, ◌==◌, if◌then◌else◌, List, [], ◌∷◌, length, Option, Some, None, is_some}
use Rattle.std.specs.FinMap as map
use Rattle.links.specs.declared.node_key.NodeKey.{NodeKey}
use Rattle.item_geometry.specs.declared.parts.Rects.{Rects}
use Rattle.item_geometry.specs.Rectangle.{parts_of}
use Rattle.scene.specs.declared.keys.ItemKeys.{ItemKeys}
use Rattle.scene.specs.Keys.{rect_keys}
use Rattle.scene.specs.Picture.{Item, Items}

-- a group where it has none, and all its rectangles where it had another number of them
abbrev pub made_by : ItemKeys → Rects → ℕ
made_by keys rects = (if is_some keys.group then 0 else 1) + (if length (rect_keys keys.rects) == length (parts_of rects) then 0 else length (parts_of rects))

-- all that its rectangles had, where it had another number of them
abbrev pub freed_by : ItemKeys → Rects → ℕ
freed_by keys rects = if length (rect_keys keys.rects) == length (parts_of rects) then 0 else length (rect_keys keys.rects)

abbrev pub made_for : Option Item → ℕ
made_for None = 0
made_for (Some item) = made_by item.keys item.paint.rects

abbrev pub freed_for : Option Item → ℕ
freed_for None = 0
freed_for (Some item) = freed_by item.keys item.paint.rects

-- of all items of these serials together
abbrev pub total : (Option Item → ℕ) → Items → List ℕ → ℕ
total count items [] = 0
total count items (serial ∷ serials) = count (map.get items serial) + total count items serials

-- an item keeps its group, and its rectangles where it has as many as before
pub record KeepsKeys (old new : Item) : Type 0 where
  pub group : (key : NodeKey) → old.keys.group ≡ Some key → new.keys.group ≡ Some key
  pub rects : length (rect_keys old.keys.rects) ≡ length (parts_of old.paint.rects) → new.keys.rects ≡ old.keys.rects

-- so does each item, and none is gone
abbrev pub AllKeep : Items → Items → Type 0
AllKeep old new = (serial : ℕ) (item : Item) → map.get old serial ≡ Some item → (now : Item) × ((map.get new serial ≡ Some now) × KeepsKeys item now)
