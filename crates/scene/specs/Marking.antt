-- The cells that stand for items, and the list of those of dirty items.
use Rattle.std.specs.Prelude.{◌≡◌, ℕ, Bool, false, if◌then◌else◌, List, map, length, Option, Some, None, ◌⊎◌, slice_get, slice_set, remove, unwrap_or}
use Rattle.links.specs.Chains.{Chains, cells_in, HasList, StandsAt, IsLoose, AreDisjoint}

-- by the cell's number whether it is used, and for which item; and the dirty items, in order
pub record Marking : Type 0 where
  pub used : List Bool
  pub serials : List ℕ
  pub dirty : List ℕ

-- the item that has the cell, if one does
abbrev pub owner_in : List Bool → List ℕ → ℕ → Option ℕ
owner_in used serials cell = if unwrap_or (slice_get used cell) false then slice_get serials cell else None

abbrev pub owner : Marking → ℕ → Option ℕ
owner marking cell = owner_in marking.used marking.serials cell

-- the items of cells
abbrev pub dirty_in : List ℕ → List ℕ → List ℕ
dirty_in serials cells = map (λ cell. unwrap_or (slice_get serials cell) 0) cells

-- there is one list, of which each cell is an item's, and no item has two cells
pub record IsMarking (links : Chains) (list : ℕ) (serials : List ℕ) : Type 0 where
  pub has_list : HasList links list
  pub only_list : (other place cell : ℕ) → StandsAt links other place cell → other ≡ list
  pub sized : length serials ≡ length links.cells
  pub one_cell : (a b serial : ℕ) → owner_in links.cells serials a ≡ Some serial → owner_in links.cells serials b ≡ Some serial → a ≡ b
  pub disjoint : AreDisjoint links

-- the cell was in no list, or has left the one that had it
abbrev pub IsLoosened : Chains → Chains → ℕ → Type 0
IsLoosened old new cell =
    (IsLoose old cell × (new ≡ old))
    ⊎ ((list place : ℕ) × (StandsAt old list place cell × (new ≡ record old { lists = slice_set old.lists list (Some (remove (cells_in old.lists list) place)) })))
