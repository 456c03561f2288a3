-- What the table of items holds after each call.
use Rattle.std.proofs.Common.{◌≡◌, ◌≢◌, ℕ, Option, None, Some, IsSome, is_some, option_map, nat_cmp, btree_map_len, ap, sym, subst, ◌∙◌}
use Rattle.std.specs.Prelude.{IfSome}
use Rattle.std.specs.BTreeMap as tree
use Rattle.std.specs.BTreeMap.{BTreeMap}
use Rattle.std.specs.FinMap as map
use Rattle.scene.specs.declared.items.Entry.{Entry}
use Rattle.scene.specs.Picture.{Item, StoredItems, item_of}
use Rattle.scene.specs.Entries.{items_of, cells_of}
use Rattle.scene.proofs.Maps.{get_shown, shown-insert, shown-remove, shown-same, has_value, has_none}

-- two that are none have a value at once
pub both_none : {A B : Type 0} (a : Option A) (b : Option B) → a ≡ None → b ≡ None → (IsSome a → IsSome b) × (IsSome b → IsSome a)
both_none a b e f = (λ some. ap is_some f ∙ (sym (ap is_some e) ∙ some), λ some. ap is_some e ∙ (sym (ap is_some f) ∙ some))

module _ (m : BTreeMap ℕ Entry) (was : StoredItems) where
  abbrev seen : StoredItems
  seen = record { items = items_of m.entries; cells = cells_of m.entries; count = btree_map_len m }

  pub item_is : seen ≡ was → (k : ℕ) (o : Option Entry) → tree.get nat_cmp m k ≡ o → map.get was.items k ≡ option_map item_of o
  item_is e k o is = subst (λ (s : StoredItems). map.get s.items k ≡ option_map item_of o) e (get_shown item_of m k o is)

  pub cell_is : seen ≡ was → (k : ℕ) (o : Option Entry) → tree.get nat_cmp m k ≡ o → map.get was.cells k ≡ option_map (λ (x : Entry). x.cell) o
  cell_is e k o is = subst (λ (s : StoredItems). map.get s.cells k ≡ option_map (λ (x : Entry). x.cell) o) e (get_shown (λ (x : Entry). x.cell) m k o is)

  pub has : seen ≡ was → (k : ℕ) → IsSome (map.get was.items k) → tree.get nat_cmp m k ≢ None
  has e k = subst (λ (s : StoredItems). IsSome (map.get s.items k) → tree.get nat_cmp m k ≢ None) e (has_value item_of m k)

  pub none : seen ≡ was → (k : ℕ) → map.get was.items k ≡ None → tree.get nat_cmp m k ≡ None
  none e k = subst (λ (s : StoredItems). map.get s.items k ≡ None → tree.get nat_cmp m k ≡ None) e (has_none item_of m k)

  pub items_inserted : seen ≡ was → (n : BTreeMap ℕ Entry) (k : ℕ) (v : Entry) → tree.Updates nat_cmp m n k (Some v) → items_of n.entries ≡ map.insert was.items k (item_of v)
  items_inserted e n k v up = subst (λ (s : StoredItems). items_of n.entries ≡ map.insert s.items k (item_of v)) e (shown-insert item_of m n k v up)

  pub cells_inserted : seen ≡ was → (n : BTreeMap ℕ Entry) (k : ℕ) (v : Entry) → tree.Updates nat_cmp m n k (Some v) → cells_of n.entries ≡ map.insert was.cells k v.cell
  cells_inserted e n k v up = subst (λ (s : StoredItems). cells_of n.entries ≡ map.insert s.cells k v.cell) e (shown-insert (λ (x : Entry). x.cell) m n k v up)

  pub items_removed : seen ≡ was → (n : BTreeMap ℕ Entry) (k : ℕ) → tree.Updates nat_cmp m n k None → items_of n.entries ≡ map.remove was.items k
  items_removed e n k up = subst (λ (s : StoredItems). items_of n.entries ≡ map.remove s.items k) e (shown-remove item_of m n k up)

  pub cells_removed : seen ≡ was → (n : BTreeMap ℕ Entry) (k : ℕ) → tree.Updates nat_cmp m n k None → cells_of n.entries ≡ map.remove was.cells k
  cells_removed e n k up = subst (λ (s : StoredItems). cells_of n.entries ≡ map.remove s.cells k) e (shown-remove (λ (x : Entry). x.cell) m n k up)

  -- an entry in place of another one of that cell
  pub cells_kept : seen ≡ was → (n : BTreeMap ℕ Entry) (k : ℕ) (u v : Entry) → tree.Updates nat_cmp m n k (Some v) → tree.get nat_cmp m k ≡ Some u → u.cell ≡ v.cell → cells_of n.entries ≡ was.cells
  cells_kept e n k u v up had same =
      subst (λ (s : StoredItems). cells_of n.entries ≡ s.cells) e (shown-same (λ (x : Entry). x.cell) m n k u v up had same)

  pub item_changed : seen ≡ was → (n : BTreeMap ℕ Entry) (k : ℕ) (u v : Entry) (change : Item → Item) → tree.Updates nat_cmp m n k (Some v) → tree.get nat_cmp m k ≡ Some u → item_of v ≡ change (item_of u)
      → IfSome (map.get was.items k) (λ item. items_of n.entries ≡ map.insert was.items k (change item))
  item_changed e n k u v change up had changed =
      subst (λ (o : Option Item). IfSome o (λ item. items_of n.entries ≡ map.insert was.items k (change item))) (sym (item_is e k (Some u) had))
      (items_inserted e n k v up ∙ ap (map.insert was.items k) changed)
