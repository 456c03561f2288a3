-- How a scene may change while nodes agree with it.
use Rattle.std.specs.Prelude.{◌≡◌, ◌⊎◌, ℕ, Some, None}
use Rattle.std.specs.FinMap as map
use Rattle.scene.specs.Picture.{Item, Items, Picture, IsDirty, no_keys}
use Rattle.sg_standing.specs.Trees.{IsTree}
use Rattle.sg_standing.specs.Standing.{KeyAt, ReleasedAt}

-- the key is that of an item that is gone
abbrev pub IsGone : Items → Items → ℕ → Type 0
IsGone old new slot = (serial : ℕ) × ((item : Item) × ((place : ℕ) × ((map.get old serial ≡ Some item) × ((map.get new serial ≡ None) × KeyAt item place slot))))

-- the items are one tree below the same content item. Items that both have keep their keys, and new ones have
-- none. The released keys are those that were and those of items that are gone, each once. Each item is dirty
-- that is new, that was dirty, or that is painted otherwise.
pub record IsChanged (old new : Picture) : Type 0 where
  pub tree : IsTree new.items new.root
  pub same_root : new.root ≡ old.root
  pub same_keys : (serial : ℕ) (was item : Item) → map.get old.items serial ≡ Some was → map.get new.items serial ≡ Some item → item.keys ≡ was.keys
  pub new_keys : (serial : ℕ) (item : Item) → map.get old.items serial ≡ None → map.get new.items serial ≡ Some item → item.keys ≡ no_keys
  pub still_released : (i slot : ℕ) → ReleasedAt old i slot → (j : ℕ) × ReleasedAt new j slot
  pub now_released : (slot : ℕ) → IsGone old.items new.items slot → (j : ℕ) × ReleasedAt new j slot
  pub released : (j slot : ℕ) → ReleasedAt new j slot → ((i : ℕ) × ReleasedAt old i slot) ⊎ IsGone old.items new.items slot
  pub released_once : (i j slot : ℕ) → ReleasedAt new i slot → ReleasedAt new j slot → i ≡ j
  pub clean : (serial : ℕ) (item : Item) → map.get new.items serial ≡ Some item → ¬ IsDirty new serial
      → (¬ IsDirty old serial) × ((was : Item) × ((map.get old.items serial ≡ Some was) × (was.paint ≡ item.paint)))
