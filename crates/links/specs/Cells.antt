-- How cells that know their neighbours stand for lists. No public clause cites this module.
use Rattle.std.specs.Prelude.{◌≡◌, ℕ, zero, suc, ◌-◌, List, [], ◌∷◌, map, length, Option, Some, None, is_some, option_map, option_and_then, slice_get, slice_set, unwrap_or}
use Rattle.links.specs.Slots.{Slots}
use Rattle.links.specs.Chains.{Chains, cells_in}
use Rattle.links.specs.declared.cell.Link.{Link}
use Rattle.links.specs.declared.cell.Ends.{Ends}
use Rattle.links.specs.declared.cell.Cell.{Cell}
use Rattle.links.specs.declared.cell.Cell.TheVariants.{Loose, Linked}

-- the cell with another next one, if it is in a list
abbrev pub next_changed : Option ℕ → Cell → Cell
next_changed next Loose = Loose
next_changed next (Linked link) = Linked (record link { next = next })

-- the cell with another previous one, if it is in a list
abbrev pub previous_changed : Option ℕ → Cell → Cell
previous_changed previous Loose = Loose
previous_changed previous (Linked link) = Linked (record link { previous = previous })

abbrev pub with_next : List (Option Cell) → ℕ → Option ℕ → List (Option Cell)
with_next cells cell next =
    slice_set cells cell (option_map (next_changed next) (unwrap_or (slice_get cells cell) None))

abbrev pub with_previous : List (Option Cell) → ℕ → Option ℕ → List (Option Cell)
with_previous cells cell previous =
    slice_set cells cell (option_map (previous_changed previous) (unwrap_or (slice_get cells cell) None))

abbrev pub with_first : List (Option Ends) → ℕ → Option ℕ → List (Option Ends)
with_first lists list first =
    slice_set lists list (option_map (λ (ends : Ends). record ends { first = first }) (unwrap_or (slice_get lists list) None))

abbrev pub with_last : List (Option Ends) → ℕ → Option ℕ → List (Option Ends)
with_last lists list last =
    slice_set lists list (option_map (λ (ends : Ends). record ends { last = last }) (unwrap_or (slice_get lists list) None))

-- the cells with another next one after the cell, if one is given
abbrev pub with_next_after : List (Option Cell) → Option ℕ → Option ℕ → List (Option Cell)
with_next_after cells None next = cells
with_next_after cells (Some cell) next = with_next cells cell next

-- the cells with another previous one before the cell, if one is given
abbrev pub with_previous_before : List (Option Cell) → Option ℕ → Option ℕ → List (Option Cell)
with_previous_before cells None previous = cells
with_previous_before cells (Some cell) previous = with_previous cells cell previous

-- the lists with another first cell of the list, if none is before it
abbrev pub with_first_after : List (Option Ends) → ℕ → Option ℕ → Option ℕ → List (Option Ends)
with_first_after lists list None first = with_first lists list first
with_first_after lists list (Some _) first = lists

-- the lists with another last cell of the list, if none is after it
abbrev pub with_last_before : List (Option Ends) → ℕ → Option ℕ → Option ℕ → List (Option Ends)
with_last_before lists list None last = with_last lists list last
with_last_before lists list (Some _) last = lists

-- the cells after the neighbours of a place got these as the next and the previous one
abbrev pub with_neighbours : List (Option Cell) → Link → Option ℕ → Option ℕ → List (Option Cell)
with_neighbours cells place next previous =
    with_previous_before (with_next_after cells place.previous next) place.next previous

-- the lists after a place without such a neighbour got these as the first and the last one
abbrev pub with_ends : List (Option Ends) → Link → Option ℕ → Option ℕ → List (Option Ends)
with_ends lists place next previous =
    with_last_before (with_first_after lists place.list place.previous next) place.list place.next previous

-- where a cell stands, if it is in a list
abbrev pub place_in : Option Cell → Option Link
place_in None = None
place_in (Some Loose) = None
place_in (Some (Linked link)) = Some link

abbrev pub link_in : List (Option Cell) → ℕ → Option Link
link_in cells cell = place_in (unwrap_or (slice_get cells cell) None)

-- the last cell of a list, if there is one
abbrev pub last_in : List (Option Ends) → ℕ → Option ℕ
last_in lists list = option_and_then (λ (ends : Ends). ends.last) (unwrap_or (slice_get lists list) None)

-- the cell after it
abbrev pub next_in : Option Link → Option ℕ
next_in None = None
next_in (Some link) = link.next

-- the cells from a first one on, as each knows the next, and so many at most
unfoldable pub walk : ℕ → List (Option Cell) → Option ℕ → List ℕ
walk zero cells first = []
walk (suc most) cells None = []
walk (suc most) cells (Some cell) = cell ∷ walk most cells (next_in (link_in cells cell))

-- the cells of each list, from its first one on
unfoldable pub lists_from : List (Option Cell) → List (Option Ends) → List (Option (List ℕ))
lists_from cells lists = map (option_map (λ (ends : Ends). walk (length cells) cells ends.first)) lists

-- what the cells and the lists' ends stand for
abbrev pub chains_of : Slots Cell → Slots Ends → Chains
chains_of cells lists = record {
  lists = lists_from cells.slots lists.slots;
  cells = map is_some cells.slots;
  spare_lists = lists.spare;
  spare_cells = cells.spare;
}

-- the first and the last cell of a list
abbrev pub ends_of : List ℕ → Ends
ends_of cells = record { first = slice_get cells 0; last = slice_get cells (length cells - 1) }

-- the cell before a place
abbrev pub previous_at : List ℕ → ℕ → Option ℕ
previous_at cells zero = None
previous_at cells (suc place) = slice_get cells place

-- what the cell at a place knows
abbrev pub link_at : ℕ → List ℕ → ℕ → Link
link_at list cells place =
    record { list = list; previous = previous_at cells place; next = slice_get cells (suc place) }

-- each cell of a list knows its neighbours, each that claims a place in a list has one there, and each
-- list knows its ends
pub record Represents (cells : List (Option Cell)) (ends : List (Option Ends)) (lists : List (Option (List ℕ))) : Type 0 where
  pub ends_known : ends ≡ map (option_map ends_of) lists
  pub linked : (list place cell : ℕ) → slice_get (cells_in lists list) place ≡ Some cell
      → link_in cells cell ≡ Some (link_at list (cells_in lists list) place)
  pub stands : (cell : ℕ) (link : Link) → link_in cells cell ≡ Some link
      → (place : ℕ) × (slice_get (cells_in lists link.list) place ≡ Some cell)
