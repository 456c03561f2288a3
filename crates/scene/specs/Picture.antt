-- What contracts see of a scene: its items by serial, which of them are dirty, and the keys that wait
-- to be freed.
use Rattle.std.specs.Prelude.{◌≡◌, ℕ, List, [], Option, Some, None, option_map, slice_get, refl}
use Rattle.std.specs.Ordering.{nat_cmp}
use Rattle.std.specs.FinMap as map
use Rattle.std.specs.Coded.{Coded, code_by, coded×, coded_ℕ, coded_list}
use Rattle.links.specs.declared.node_key.NodeKey.{NodeKey}
use Rattle.scene.specs.declared.paint.Paint.{Paint}
use Rattle.scene.specs.declared.keys.ItemKeys.{ItemKeys}
use Rattle.scene.specs.declared.keys.RectKeys.TheVariants.{Zero}
use Rattle.scene.specs.declared.items.Entry.{Entry}
use Rattle.scene.specs.Keys.{keys_of}
use Rattle.scene.specs.contracts.paint.Paint as paint_row
use Rattle.links.specs.contracts.node_key.NodeKey as key_row
use Rattle.scene.specs.contracts.keys.ItemKeys as keys_row

-- what an item is painted as, and the keys of its nodes
pub record Item : Type 0 where
  pub paint : Paint
  pub keys : ItemKeys

abbrev pub item_of : Entry → Item
item_of entry = record { paint = entry.paint; keys = entry.keys }

-- items by serial
abbrev pub Items : Type 0
Items = map.FinMap nat_cmp Item

abbrev pub item_code : Coded Item
item_code =
    code_by (Paint × ItemKeys) (coded× paint_row.the_row.coded keys_row.the_row.coded) (λ i. (i.paint, i.keys)) (λ p. record { paint = p.0; keys = p.1 }) (λ _. refl)

-- the items and their cells by serial, and how many they are
pub record StoredItems : Type 0 where
  pub items : Items
  pub cells : map.FinMap nat_cmp ℕ
  pub count : ℕ

abbrev pub stored_code : Coded StoredItems
stored_code =
    code_by (Items × (map.FinMap nat_cmp ℕ × ℕ))
    (coded× (map.code coded_ℕ item_code) (coded× (map.code coded_ℕ coded_ℕ) coded_ℕ))
    (λ s. (s.items, (s.cells, s.count)))
    (λ p. record { items = p.0; cells = p.1.0; count = p.1.1 })
    (λ _. refl)

-- the items by serial; the dirty ones, each once; the keys of nodes of items that are gone; the content
-- item; and the size in pixels
pub record Picture : Type 0 where
  pub items : Items
  pub dirty : List ℕ
  pub released : List NodeKey
  pub root : ℕ
  pub width : ℕ
  pub height : ℕ

abbrev pub picture_code : Coded Picture
picture_code =
    code_by (Items × (List ℕ × (List NodeKey × (ℕ × (ℕ × ℕ)))))
    (coded× (map.code coded_ℕ item_code) (coded× (coded_list coded_ℕ) (coded× (coded_list key_row.the_row.coded) (coded× coded_ℕ (coded× coded_ℕ coded_ℕ)))))
    (λ p. (p.items, (p.dirty, (p.released, (p.root, (p.width, p.height))))))
    (λ t. record { items = t.0; dirty = t.1.0; released = t.1.1.0; root = t.1.1.1.0; width = t.1.1.1.1.0; height = t.1.1.1.1.1 })
    (λ _. refl)

-- the item is dirty
abbrev pub IsDirty : Picture → ℕ → Type 0
IsDirty picture serial = (place : ℕ) × (slice_get picture.dirty place ≡ Some serial)

-- the keys of an item without nodes
abbrev pub no_keys : ItemKeys
no_keys = record { group = None; rects = Zero }

abbrev pub keys_or_none : Option Item → ItemKeys
keys_or_none None = no_keys
keys_or_none (Some item) = item.keys

-- the items where one is painted so: it has the keys that it had, and none where it is new
abbrev pub with_paint : ℕ → Paint → Items → Items
with_paint serial paint items = map.insert items serial (record { paint = paint; keys = keys_or_none (map.get items serial) })

abbrev pub changed_to : Items → ℕ → Option Item → Items
changed_to items serial None = items
changed_to items serial (Some item) = map.insert items serial item

-- the items where one has these keys
abbrev pub with_keys : ℕ → ItemKeys → Items → Items
with_keys serial keys items = changed_to items serial (option_map (λ (item : Item). record item { keys = keys }) (map.get items serial))

abbrev pub node_keys_of : Option Item → List NodeKey
node_keys_of None = []
node_keys_of (Some item) = keys_of item.keys

-- the keys of the item's nodes
abbrev pub node_keys : Items → ℕ → List NodeKey
node_keys items serial = node_keys_of (map.get items serial)
