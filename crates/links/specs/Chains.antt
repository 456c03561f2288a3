-- Lists of cells, and what cells and lists there are.
use Rattle.std.specs.Prelude.{◌≡◌, ℕ, Bool, true, not, List, [], Option, Some, None, IsSome, count_by, slice_get, unwrap_or}
use Rattle.links.specs.Slots.{empty_count}

-- the cells of each list in order, by the list's number, and nothing for a number that no list has;
-- which cell numbers are used; and how many lists and cells may be added
pub record Chains : Type 0 where
  pub lists : List (Option (List ℕ))
  pub cells : List Bool
  pub spare_lists : ℕ
  pub spare_cells : ℕ

-- the cells in order of the list of that number, none where there is no such list
abbrev pub cells_in : List (Option (List ℕ)) → ℕ → List ℕ
cells_in lists list = unwrap_or (unwrap_or (slice_get lists list) None) []

-- there is a list of that number
abbrev pub HasList : Chains → ℕ → Type 0
HasList chains list = IsSome (unwrap_or (slice_get chains.lists list) None)

-- there is a cell of that number
abbrev pub HasCell : Chains → ℕ → Type 0
HasCell chains cell = slice_get chains.cells cell ≡ Some true

-- how many lists and cells were freed whose numbers are not used again
abbrev pub freed_lists : Chains → ℕ
freed_lists chains = empty_count chains.lists

abbrev pub freed_cells : Chains → ℕ
freed_cells chains = count_by not chains.cells

-- the list has the cell at this place, where its first is at place 0
abbrev pub StandsAt : Chains → ℕ → ℕ → ℕ → Type 0
StandsAt chains list place cell = slice_get (cells_in chains.lists list) place ≡ Some cell

-- the cell is in a list
abbrev pub IsLinked : Chains → ℕ → Type 0
IsLinked chains cell = (list : ℕ) × ((place : ℕ) × StandsAt chains list place cell)

-- the cell is in no list
abbrev pub IsLoose : Chains → ℕ → Type 0
IsLoose chains cell = (list place : ℕ) → ¬ StandsAt chains list place cell

-- no cell stands at two places, and each that is in a list is there
pub record AreDisjoint (chains : Chains) : Type 0 where
  pub same_list : (list place other_list other_place cell : ℕ)
      → StandsAt chains list place cell → StandsAt chains other_list other_place cell → list ≡ other_list
  pub same_place : (list place other_list other_place cell : ℕ)
      → StandsAt chains list place cell → StandsAt chains other_list other_place cell → place ≡ other_place
  pub used : (list place cell : ℕ) → StandsAt chains list place cell → HasCell chains cell
