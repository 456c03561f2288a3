-- What cells stand for after a cell or a list was added or freed.
use Rattle.std.proofs.Common.{◌≡◌, ◌≢◌, ℕ, ◌+◌, ◌-◌, ◌<◌, ◌≤◌, ⊎_elim, true, false, List, [], length, set, map, Option, Some, None, option_map, unwrap_or, is_some, IsSome, refl, ap, sym, ◌∙◌, arith}
use Rattle.std.specs.List.{slice_get}
use Rattle.std.proofs.lemmas.List.{length-map, map-set}
use Rattle.std.proofs.lemmas.Option.{none-some, same_Some, slice_get-map}
use Rattle.std.proofs.lemmas.Bool.{cases_eq}
use Rattle.links.specs.Slots.{Slots, placed, empty_count}
use Rattle.links.specs.Chains.{cells_in, HasList, HasCell, freed_lists, freed_cells, IsLoose}
use Rattle.links.specs.declared.cell.Link.{Link}
use Rattle.links.specs.declared.cell.Ends.{Ends}
use Rattle.links.specs.declared.cell.Cell.{Cell}
use Rattle.links.specs.declared.cell.Cell.TheVariants.{Loose}
use Rattle.links.specs.Cells.{place_in, link_in, lists_from, chains_of, ends_of, link_at, Represents}
use Rattle.links.proofs.Places.{slice_get-placed_same, slice_get-placed_other, slice_get-set_same, map-placed}
use Rattle.links.proofs.Counts.{empty-shown, empty-marked}
use Rattle.links.proofs.Pools.{occupied, occupied_within}
use Rattle.links.proofs.Linking.{link_in-set_same, link_in-set_other}
use Rattle.links.proofs.Relinking.{cells_in-set_other}
use Rattle.links.proofs.Moves.{StandFor, StandFor-Represents, is_there, is_linked_there}

-- the ends of a list without cells
abbrev pub no_ends : Ends
no_ends = record { first = None; last = None }

-- where cells know what they knew, and each list has the cells that it had
Represents-same : {cells new_cells : List (Option Cell)} {ends new_ends : List (Option Ends)} {lists : List (Option (List ℕ))} (new_lists : List (Option (List ℕ)))
    → Represents cells ends lists → new_ends ≡ map (option_map ends_of) new_lists
    → ((cell : ℕ) (link : Link) → link_in cells cell ≡ Some link → link_in new_cells cell ≡ Some link)
    → ((cell : ℕ) (link : Link) → link_in new_cells cell ≡ Some link → link_in cells cell ≡ Some link)
    → ((list : ℕ) → cells_in new_lists list ≡ cells_in lists list)
    → Represents new_cells new_ends new_lists
Represents-same {new_cells} new_lists holds known keeps kept same = record {
  ends_known = known;
  linked = λ list place cell e.
      keeps cell _ (holds.linked list place cell (sym (ap (λ ys. slice_get ys place) (same list)) ∙ e))
      ∙ ap (λ ys. Some (link_at list ys place)) (sym (same list));
  stands = λ cell link e.
      let found = holds.stands cell link (kept cell link e) in
      (found.0, ap (λ ys. slice_get ys found.0) (same link.list) ∙ found.1);
}

module _ (cells : Slots Cell) (ends : Slots Ends) (holds : Represents cells.slots ends.slots (lists_from cells.slots ends.slots)) where
  pub length_ends : length ends.slots ≡ length (lists_from cells.slots ends.slots)
  length_ends = ap length holds.ends_known ∙ length-map (lists_from cells.slots ends.slots) (option_map ends_of)

  -- a cell that isn't there knows of no list
  vacant_other : (number cell : ℕ) (link : Link) → ((other : Cell) → slice_get cells.slots number ≢ Some (Some other)) → link_in cells.slots cell ≡ Some link → cell ≢ number
  vacant_other number cell link vacant e same =
      let found = occupied cells.slots cell (is_linked_there cells.slots cell link e) in
      vacant found.0 (ap (slice_get cells.slots) (sym same) ∙ found.1)

  link_in-placed_other : (number cell : ℕ) (slot : Option Cell) → number ≤ length cells.slots → cell ≢ number → link_in (placed cells.slots number slot) cell ≡ link_in cells.slots cell
  link_in-placed_other number cell slot within h = ap (λ s. place_in (unwrap_or s None)) (slice_get-placed_other cells.slots number cell slot within h)

  placed_kept : (number cell : ℕ) (link : Link) → number ≤ length cells.slots → link_in (placed cells.slots number (Some Loose)) cell ≡ Some link → link_in cells.slots cell ≡ Some link
  placed_kept number cell link within e =
      ⊎_elim
      (λ (same : cell ≡ number).
      let now : link_in (placed cells.slots number (Some Loose)) cell ≡ None =
      ap (link_in (placed cells.slots number (Some Loose))) same ∙ ap (λ s. place_in (unwrap_or s None)) (slice_get-placed_same cells.slots number (Some Loose) within) in
      absurd (none-some link (sym now ∙ e)))
      (λ (apart : cell ≢ number). sym (link_in-placed_other number cell (Some Loose) within apart) ∙ e)
      (cases_eq cell number)

  pub StandFor-add_cell : (number : ℕ) (new_cells : Slots Cell) → number ≤ length cells.slots → ((other : Cell) → slice_get cells.slots number ≢ Some (Some other))
      → new_cells ≡ record { slots = placed cells.slots number (Some Loose); spare = cells.spare - 1 }
      → StandFor new_cells ends (record (chains_of cells ends) { cells = placed (map is_some cells.slots) number true; spare_cells = cells.spare - 1 })
  StandFor-add_cell number new_cells within vacant cells_are =
      rw cells_are
      (StandFor-Represents _ _ _ _
      (Represents-same (lists_from cells.slots ends.slots) holds holds.ends_known
      (λ cell link e. link_in-placed_other number cell (Some Loose) within (vacant_other number cell link vacant e) ∙ e)
      (λ cell link e. placed_kept number cell link within e)
      (λ list. refl))
      (map-placed is_some cells.slots number (Some Loose)))

  -- no cell of that number is there
  pub unused_cell : (number : ℕ) → ((other : Cell) → slice_get cells.slots number ≢ Some (Some other)) → ¬ HasCell (chains_of cells ends) number
  unused_cell number vacant e = let found = occupied cells.slots number (is_there cells.slots number e) in vacant found.0 found.1

  -- a number without a cell
  pub vacant_cell : (number : ℕ) → ¬ HasCell (chains_of cells ends) number → (other : Cell) → slice_get cells.slots number ≢ Some (Some other)
  vacant_cell number unused other e = unused (slice_get-map is_some cells.slots number ∙ ap (option_map is_some) e)

  pub fits_cell : (number : ℕ) → number ≤ length (map is_some cells.slots) → number ≤ length cells.slots
  fits_cell number within = omega (arith, within, length-map cells.slots is_some)

  pub room_cell : (number : ℕ) → (number ≡ length (map is_some cells.slots) → freed_cells (chains_of cells ends) < cells.spare) → number ≡ length cells.slots → empty_count cells.slots < cells.spare
  room_cell number room end = let some = room (end ∙ sym (length-map cells.slots is_some)) in omega (arith, some, empty-marked cells.slots)

  pub freed_cell : (number : ℕ) → slice_get cells.slots number ≡ Some None → slice_get (map is_some cells.slots) number ≡ Some false
  freed_cell number e = slice_get-map is_some cells.slots number ∙ ap (option_map is_some) e

  -- a cell in no list knows of none
  knows_none : (cell : ℕ) (link : Link) → IsLoose (chains_of cells ends) cell → link_in cells.slots cell ≢ Some link
  knows_none cell link loose e = let found = holds.stands cell link e in loose link.list found.0 found.1

  freed_kept : (number cell : ℕ) (link : Link) → number < length cells.slots → link_in (set cells.slots number None) cell ≡ Some link → link_in cells.slots cell ≡ Some link
  freed_kept number cell link within e =
      ⊎_elim
      (λ (same : cell ≡ number).
      let now : link_in (set cells.slots number None) cell ≡ None =
      ap (link_in (set cells.slots number None)) same ∙ link_in-set_same cells.slots number None within in
      absurd (none-some link (sym now ∙ e)))
      (λ (apart : cell ≢ number). sym (link_in-set_other cells.slots number cell None apart) ∙ e)
      (cases_eq cell number)

  pub StandFor-free_cell : (number : ℕ) (new_cells : Slots Cell) → HasCell (chains_of cells ends) number → IsLoose (chains_of cells ends) number
      → new_cells ≡ record { slots = set cells.slots number None; spare = cells.spare + 1 }
      → StandFor new_cells ends (record (chains_of cells ends) { cells = set (map is_some cells.slots) number false; spare_cells = cells.spare + 1 })
  StandFor-free_cell number new_cells there loose cells_are =
      let within = occupied_within cells.slots number (is_there cells.slots number there) in
      rw cells_are
      (StandFor-Represents _ _ _ _
      (Represents-same (lists_from cells.slots ends.slots) holds holds.ends_known
      (λ cell link e.
      let apart : cell ≢ number = λ same. knows_none number link loose (ap (link_in cells.slots) (sym same) ∙ e) in
      link_in-set_other cells.slots number cell None apart ∙ e)
      (λ cell link e. freed_kept number cell link within e)
      (λ list. refl))
      (map-set is_some cells.slots number None))

  -- no list of that number is there
  pub unused_list : (number : ℕ) → ((other : Ends) → slice_get ends.slots number ≢ Some (Some other)) → ¬ HasList (chains_of cells ends) number
  unused_list number vacant has =
      let found = occupied (lists_from cells.slots ends.slots) number has in
      vacant (ends_of found.0) (ap (λ es. slice_get es number) holds.ends_known
      ∙ (slice_get-map (option_map ends_of) (lists_from cells.slots ends.slots) number ∙ ap (option_map (option_map ends_of)) found.1))

  -- a number without a list
  used_slot_list : (slot : Option (Option (List ℕ))) (other : Ends) → option_map (option_map ends_of) slot ≡ Some (Some other) → IsSome (unwrap_or slot None)
  used_slot_list None other e = absurd (none-some (Some other) e)
  used_slot_list (Some None) other e = absurd (none-some other (same_Some _ _ e))
  used_slot_list (Some (Some xs)) other e = refl

  pub vacant_list : (number : ℕ) → ¬ HasList (chains_of cells ends) number → (other : Ends) → slice_get ends.slots number ≢ Some (Some other)
  vacant_list number unused other e =
      unused (used_slot_list (slice_get (lists_from cells.slots ends.slots) number) other
      (sym (ap (λ es. slice_get es number) holds.ends_known ∙ slice_get-map (option_map ends_of) (lists_from cells.slots ends.slots) number) ∙ e))

  pub fits_list : (number : ℕ) → number ≤ length (lists_from cells.slots ends.slots) → number ≤ length ends.slots
  fits_list number within = omega (arith, within, length_ends)

  pub room_list : (number : ℕ) → (number ≡ length (lists_from cells.slots ends.slots) → freed_lists (chains_of cells ends) < ends.spare) → number ≡ length ends.slots → empty_count ends.slots < ends.spare
  room_list number room end =
      let some = room (end ∙ length_ends) in
      let same : empty_count ends.slots ≡ empty_count (lists_from cells.slots ends.slots) = ap empty_count holds.ends_known ∙ empty-shown ends_of (lists_from cells.slots ends.slots) in
      omega (arith, some, same)

  freed_slot_list : (slot : Option (Option (List ℕ))) → option_map (option_map ends_of) slot ≡ Some None → slot ≡ Some None
  freed_slot_list None e = absurd (none-some None e)
  freed_slot_list (Some None) e = refl
  freed_slot_list (Some (Some xs)) e = absurd (none-some (ends_of xs) (sym (same_Some _ _ e)))

  pub freed_list : (number : ℕ) → slice_get ends.slots number ≡ Some None → slice_get (lists_from cells.slots ends.slots) number ≡ Some None
  freed_list number e =
      freed_slot_list (slice_get (lists_from cells.slots ends.slots) number)
      (sym (ap (λ es. slice_get es number) holds.ends_known ∙ slice_get-map (option_map ends_of) (lists_from cells.slots ends.slots) number) ∙ e)

  -- a number that no list has shows no cells
  no_cells : (slot : Option (List ℕ)) → ¬ IsSome slot → unwrap_or slot [] ≡ []
  no_cells None h = refl
  no_cells (Some xs) h = absurd (h refl)

  pub StandFor-add_list : (number : ℕ) (new_ends : Slots Ends) → number ≤ length ends.slots → ((other : Ends) → slice_get ends.slots number ≢ Some (Some other))
      → new_ends ≡ record { slots = placed ends.slots number (Some no_ends); spare = ends.spare - 1 }
      → StandFor cells new_ends (record (chains_of cells ends) { lists = placed (lists_from cells.slots ends.slots) number (Some []); spare_lists = ends.spare - 1 })
  StandFor-add_list number new_ends within vacant ends_are =
      let lists = lists_from cells.slots ends.slots in
      let fits : number ≤ length lists = let same = length_ends in omega arith in
      rw ends_are
      (StandFor-Represents _ _ _ _
      (Represents-same (placed lists number (Some [])) holds
      (ap (λ es. placed es number (Some no_ends)) holds.ends_known ∙ sym (map-placed (option_map ends_of) lists number (Some [])))
      (λ cell link e. e) (λ cell link e. e)
      (λ list.
      ⊎_elim
      (λ (same : list ≡ number).
      let empty : cells_in lists number ≡ [] = no_cells (unwrap_or (slice_get lists number) None) (unused_list number vacant) in
      ap (cells_in (placed lists number (Some []))) same
      ∙ (ap (λ slot. unwrap_or (unwrap_or slot None) []) (slice_get-placed_same lists number (Some []) fits) ∙ (sym empty ∙ ap (cells_in lists) (sym same))))
      (λ (apart : list ≢ number). ap (λ slot. unwrap_or (unwrap_or slot None) []) (slice_get-placed_other lists number list (Some []) fits apart))
      (cases_eq list number)))
      refl)

  pub StandFor-free_list : (number : ℕ) (new_ends : Slots Ends) → HasList (chains_of cells ends) number → cells_in (lists_from cells.slots ends.slots) number ≡ []
      → new_ends ≡ record { slots = set ends.slots number None; spare = ends.spare + 1 }
      → StandFor cells new_ends (record (chains_of cells ends) { lists = set (lists_from cells.slots ends.slots) number None; spare_lists = ends.spare + 1 })
  StandFor-free_list number new_ends has empty ends_are =
      let lists = lists_from cells.slots ends.slots in
      let within = occupied_within lists number has in
      rw ends_are
      (StandFor-Represents _ _ _ _
      (Represents-same (set lists number None) holds
      (ap (λ es. set es number None) holds.ends_known ∙ sym (map-set (option_map ends_of) lists number None))
      (λ cell link e. e) (λ cell link e. e)
      (λ list.
      ⊎_elim
      (λ (same : list ≡ number).
      ap (cells_in (set lists number None)) same
      ∙ (ap (λ slot. unwrap_or (unwrap_or slot None) []) (slice_get-set_same lists number None within) ∙ (sym empty ∙ ap (cells_in lists) (sym same))))
      (λ (apart : list ≢ number). cells_in-set_other lists number list None apart)
      (cases_eq list number)))
      refl)

  -- a cell that is added knows of no list
  pub loose_cell : (number : ℕ) (new_cells : Slots Cell) → number ≤ length cells.slots → new_cells ≡ record { slots = placed cells.slots number (Some Loose); spare = cells.spare - 1 } → link_in new_cells.slots number ≡ None
  loose_cell number new_cells within cells_are =
      ap (λ (s : Slots Cell). link_in s.slots number) cells_are ∙ ap (λ s. place_in (unwrap_or s None)) (slice_get-placed_same cells.slots number (Some Loose) within)
