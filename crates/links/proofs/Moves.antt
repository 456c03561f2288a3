-- What each call leaves.
use Rattle.std.proofs.Common.{◌≡◌, ℕ, zero, suc, ◌<◌, ◌≤◌, Bool, true, List, [], ◌∷◌, length, set, map, Option, Some, None, option_map, unwrap_or, is_some, IsSome, get_or, refl, ap, sym, subst, ◌∙◌, arith}
use Rattle.std.proofs.Math.Seq.{map-set_same}
use Rattle.std.proofs.lemmas.List.{length-map}
use Rattle.std.specs.List.{slice_get, insert, remove}
use Rattle.std.proofs.lemmas.Option.{slice_get_within, none-some, same_Some, unwrap_or-slice_get}
use Rattle.links.specs.Slots.{Slots}
use Rattle.links.specs.Chains.{Chains, cells_in, HasList, HasCell, StandsAt, IsLoose, AreDisjoint}
use Rattle.links.specs.declared.cell.Link.{Link}
use Rattle.links.specs.declared.cell.Ends.{Ends}
use Rattle.links.specs.declared.cell.Cell.{Cell}
use Rattle.links.specs.declared.cell.Cell.TheVariants.{Loose, Linked}
use Rattle.links.specs.Cells.{next_changed, previous_changed, with_next_after, with_previous_before, with_neighbours, with_ends, link_in, lists_from, chains_of, ends_of, previous_at, link_at, Represents}
use Rattle.links.proofs.Pools.{occupied, occupied_within}
use Rattle.links.proofs.Walking.{lists_from-Represents, AreDisjoint-Represents}
use Rattle.links.proofs.Relinking.{Represents-Relinks}
use Rattle.links.proofs.Putting.{gap_at, Relinks-put}
use Rattle.links.proofs.Taking.{Relinks-take}
use Rattle.links.proofs.Ending.{ends_at, with_ends-insert, with_ends-remove}

-- cells and ends that stand for these chains
pub record StandFor (cells : Slots Cell) (ends : Slots Ends) (chains : Chains) : Type 0 where
  pub holds : Represents cells.slots ends.slots (lists_from cells.slots ends.slots)
  pub shown : chains_of cells ends ≡ chains

pub AreDisjoint-StandFor : {cells : Slots Cell} {ends : Slots Ends} {chains : Chains} → StandFor cells ends chains → AreDisjoint (chains_of cells ends)
AreDisjoint-StandFor {cells} {ends} leads = AreDisjoint-Represents leads.holds ends.spare cells.spare

-- a cell that knows of no list is in none
pub IsLoose-StandFor : {cells : Slots Cell} {ends : Slots Ends} {chains : Chains} → StandFor cells ends chains → (cell : ℕ) → link_in cells.slots cell ≡ None → IsLoose (chains_of cells ends) cell
IsLoose-StandFor leads cell none list place stands = none-some _ (sym none ∙ leads.holds.linked list place cell stands)

-- where the cells and ends represent lists, they stand for them
pub StandFor-Represents : (cells : Slots Cell) (ends : Slots Ends) (lists : List (Option (List ℕ))) (used : List Bool) → Represents cells.slots ends.slots lists → map is_some cells.slots ≡ used
    → StandFor cells ends (record { lists = lists; cells = used; spare_lists = ends.spare; spare_cells = cells.spare })
StandFor-Represents cells ends lists used holds same =
    let found = lists_from-Represents holds in
    record {
      holds = subst (λ (ls : List (Option (List ℕ))). Represents cells.slots ends.slots ls) (sym found) holds;
      shown = ap (λ ls. record { lists = ls; cells = map is_some cells.slots; spare_lists = ends.spare; spare_cells = cells.spare }) found
          ∙ ap (λ us. record { lists = lists; cells = us; spare_lists = ends.spare; spare_cells = cells.spare }) same;
    }

-- a change of a slot's value leaves which slots have one
is_some-option_map : {A B : Type 0} (f : A → B) (slot : Option A) → is_some (option_map f slot) ≡ is_some slot
is_some-option_map f None = refl
is_some-option_map f (Some x) = refl

used-changed : (cells : List (Option Cell)) (f : Cell → Cell) (at : ℕ) → map is_some (set cells at (option_map f (unwrap_or (slice_get cells at) None))) ≡ map is_some cells
used-changed cells f at =
    map-set_same is_some cells at (option_map f (unwrap_or (slice_get cells at) None)) None
    (is_some-option_map f (unwrap_or (slice_get cells at) None) ∙ ap is_some (unwrap_or-slice_get cells at None))

used-next_after : (cells : List (Option Cell)) (at next : Option ℕ) → map is_some (with_next_after cells at next) ≡ map is_some cells
used-next_after cells None next = refl
used-next_after cells (Some at) next = used-changed cells (next_changed next) at

used-previous_before : (cells : List (Option Cell)) (at previous : Option ℕ) → map is_some (with_previous_before cells at previous) ≡ map is_some cells
used-previous_before cells None previous = refl
used-previous_before cells (Some at) previous = used-changed cells (previous_changed previous) at

used-neighbours : (cells : List (Option Cell)) (place : Link) (next previous : Option ℕ) → map is_some (with_neighbours cells place next previous) ≡ map is_some cells
used-neighbours cells place next previous = used-previous_before (with_next_after cells place.previous next) place.next previous ∙ used-next_after cells place.previous next

-- a cell that is there
pub is_there : (cells : List (Option Cell)) (cell : ℕ) → slice_get (map is_some cells) cell ≡ Some true → IsSome (unwrap_or (slice_get cells cell) None)
is_there [] cell e = absurd (none-some true e)
is_there (None ∷ cells) zero e = let same = same_Some _ _ e in absurd (cc)
is_there (Some cell ∷ cells) zero e = refl
is_there (slot ∷ cells) (suc cell) e = is_there cells cell e

-- as is one that is in a list
pub is_linked_there : (cells : List (Option Cell)) (cell : ℕ) (link : Link) → link_in cells cell ≡ Some link → IsSome (unwrap_or (slice_get cells cell) None)
is_linked_there [] cell link e = absurd (none-some link e)
is_linked_there (None ∷ cells) zero link e = absurd (none-some link e)
is_linked_there (Some cell ∷ cells) zero link e = refl
is_linked_there (slot ∷ cells) (suc cell) link e = is_linked_there cells cell link e

used-set : (cells : List (Option Cell)) (at : ℕ) (cell : Cell) → IsSome (unwrap_or (slice_get cells at) None) → map is_some (set cells at (Some cell)) ≡ map is_some cells
used-set cells at cell there =
    map-set_same is_some cells at (Some cell) None (let own : IsSome (get_or cells at None) = rw unwrap_or-slice_get at there in sym own)

module _ (cells : Slots Cell) (ends : Slots Ends) (holds : Represents cells.slots ends.slots (lists_from cells.slots ends.slots)) (list : ℕ) (has : HasList (chains_of cells ends) list) where
  abbrev lists : List (Option (List ℕ))
  lists = lists_from cells.slots ends.slots

  fits : list < length lists
  fits = occupied_within lists list has

  ends_fit : list < length ends.slots
  ends_fit = let inside = fits in let same = ap length holds.ends_known in let count = length-map lists (option_map ends_of) in omega arith

  pub own_ends : unwrap_or (slice_get ends.slots list) None ≡ Some (ends_of (cells_in lists list))
  own_ends =
      let found = occupied lists list has in
      let slot : unwrap_or (slice_get lists list) None ≡ Some found.0 = ap (λ s. unwrap_or s None) found.1 in
      ends_at holds list ∙ (ap (option_map ends_of) slot ∙ ap (λ s. Some (ends_of (unwrap_or s []))) (sym slot))

  pub StandFor-put : (i cell : ℕ) (place : Link) (new_cells : Slots Cell) (new_ends : Slots Ends) → i ≤ length (cells_in lists list)
      → HasCell (chains_of cells ends) cell → IsLoose (chains_of cells ends) cell → place ≡ gap_at list (cells_in lists list) i
      → new_cells ≡ record cells { slots = with_neighbours (set cells.slots cell (Some (Linked place))) place (Some cell) (Some cell) }
      → new_ends ≡ record ends { slots = with_ends ends.slots place (Some cell) (Some cell) }
      → StandFor new_cells new_ends (record (chains_of cells ends) { lists = set lists list (Some (insert (cells_in lists list) i cell)) })
  StandFor-put i cell place new_cells new_ends within used loose place_is cells_are ends_are =
      let there = is_there cells.slots cell used in
      rw (cells_are, ends_are, place_is)
      (StandFor-Represents _ _ _ _
      (Represents-Relinks _ _ list (insert (cells_in lists list) i cell) holds fits
      (Relinks-put list i cell (cells_in lists list) holds refl within (occupied_within cells.slots cell there) loose)
      (with_ends-insert ends.slots list i cell (cells_in lists list) within ends_fit own_ends))
      (used-neighbours _ (gap_at list (cells_in lists list) i) (Some cell) (Some cell) ∙ used-set cells.slots cell _ there))

  pub StandFor-take : (i cell : ℕ) (place : Link) (new_cells : Slots Cell) (new_ends : Slots Ends)
      → StandsAt (chains_of cells ends) list i cell → place ≡ link_at list (cells_in lists list) i
      → new_cells ≡ record cells { slots = with_neighbours (set cells.slots cell (Some Loose)) place place.next place.previous }
      → new_ends ≡ record ends { slots = with_ends ends.slots place place.next place.previous }
      → StandFor new_cells new_ends (record (chains_of cells ends) { lists = set lists list (Some (remove (cells_in lists list) i)) })
  StandFor-take i cell place new_cells new_ends stands place_is cells_are ends_are =
      let within : i < length (cells_in lists list) = slice_get_within (cells_in lists list) i cell stands in
      let known = holds.linked list i cell stands in
      let there = is_linked_there cells.slots cell _ known in
      rw (cells_are, ends_are, place_is)
      (StandFor-Represents _ _ _ _
      (Represents-Relinks _ _ list (remove (cells_in lists list) i) holds fits
      (Relinks-take list i cell (cells_in lists list) holds refl stands)
      (with_ends-remove ends.slots list i (cells_in lists list) within ends_fit own_ends))
      (used-neighbours _ (link_at list (cells_in lists list) i) (slice_get (cells_in lists list) (suc i)) (previous_at (cells_in lists list) i) ∙ used-set cells.slots cell _ there))
