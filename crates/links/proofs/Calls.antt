-- What the calls that move cells between lists leave, from what they know.
use Rattle.std.proofs.Common.{◌≡◌, ℕ, zero, suc, ◌+◌, ◌-◌, ◌<◌, List, [], ◌∷◌, ◌++◌, length, set, Option, Some, None, unwrap_or, IsSome, is_some, Bool, true, option_and_then, refl, ap, sym, subst, ◌∙◌, arith}
use Rattle.std.specs.Bool.{IsTrue}
use Rattle.std.specs.Prelude.{◌↔◌}
use Rattle.std.specs.List.{slice_get, insert, remove}
use Rattle.std.proofs.lemmas.List.Edits.{insert_end}
use Rattle.std.proofs.lemmas.Option.{slice_get_past, slice_get_within, none-some, same_Some}
use Rattle.links.specs.Slots.{Slots}
use Rattle.links.specs.Chains.{cells_in, HasList, HasCell, StandsAt, IsLinked, IsLoose, AreDisjoint}
use Rattle.links.specs.declared.cell.Link.{Link}
use Rattle.links.specs.declared.cell.Ends.{Ends}
use Rattle.links.specs.declared.cell.Cell.{Cell}
use Rattle.links.specs.declared.cell.Cell.TheVariants.{Loose, Linked}
use Rattle.links.specs.Cells.{with_neighbours, with_ends, link_in, last_in, lists_from, chains_of, previous_at, link_at, Represents}
use Rattle.links.proofs.Putting.{same_link}
use Rattle.links.proofs.Walking.{AreDisjoint-Represents}
use Rattle.links.proofs.Taking.{at_cell}
use Rattle.links.proofs.Moves.{StandFor, StandFor-put, StandFor-take, own_ends}

-- the last cell stands before the end
last_before : (xs : List ℕ) (n : ℕ) → n ≡ length xs → slice_get xs (n - 1) ≡ previous_at xs n
last_before xs zero e = slice_get_past xs (zero - 1) (omega arith)
last_before xs (suc n) e = let place : suc n - 1 ≡ n = omega arith in ap (slice_get xs) place

-- a list with a cell is there
has_list : (slot : Option (List ℕ)) (place cell : ℕ) → slice_get (unwrap_or slot []) place ≡ Some cell → IsSome slot
has_list None place cell e = absurd (none-some cell e)
has_list (Some xs) place cell e = refl

-- a link that is there
linked_some : (o : Option Link) → is_some o ≡ true → (link : Link) × (o ≡ Some link)
linked_some None e = absurd (cc)
linked_some (Some link) e = (link, refl)

module _ (cells : Slots Cell) (ends : Slots Ends) (holds : Represents cells.slots ends.slots (lists_from cells.slots ends.slots)) where
  -- what a cell of a list knows
  pub known : (list i cell : ℕ) → StandsAt (chains_of cells ends) list i cell → link_in cells.slots cell ≡ Some (link_at list (cells_in (lists_from cells.slots ends.slots) list) i)
  known list i cell stands = holds.linked list i cell stands

  -- a cell that knows of no list is in none
  pub not_linked : (cell : ℕ) → IsLinked (chains_of cells ends) cell → link_in cells.slots cell ≡ None → ⊥
  not_linked cell linked e = none-some _ (sym e ∙ known linked.0 linked.1.0 cell linked.1.1)

  -- and one that knows of a list stands there
  pub is_linked_where : (cell : ℕ) (answer : Bool) → answer ≡ is_some (link_in cells.slots cell) → IsTrue answer ↔ IsLinked (chains_of cells ends) cell
  is_linked_where cell answer answer_is = (
    λ yes. let found = linked_some (link_in cells.slots cell) (sym answer_is ∙ yes) in let stands = holds.stands cell found.0 found.1 in (found.0.list, (stands.0, stands.1)),
    λ linked. answer_is ∙ ap is_some (known linked.0 linked.1.0 cell linked.1.1),
  )

  pub StandFor-push_back : (list cell : ℕ) (previous : Option ℕ) (new_cells : Slots Cell) (new_ends : Slots Ends) → HasList (chains_of cells ends) list
      → HasCell (chains_of cells ends) cell → IsLoose (chains_of cells ends) cell → previous ≡ last_in ends.slots list
      → new_cells ≡ record cells { slots = with_neighbours (set cells.slots cell (Some (Linked (record { list = list; previous = previous; next = None })))) (record { list = list; previous = previous; next = None }) (Some cell) (Some cell) }
      → new_ends ≡ record ends { slots = with_ends ends.slots (record { list = list; previous = previous; next = None }) (Some cell) (Some cell) }
      → StandFor new_cells new_ends (record (chains_of cells ends) { lists = set (lists_from cells.slots ends.slots) list (Some (cells_in (lists_from cells.slots ends.slots) list ++ cell ∷ [])) })
  StandFor-push_back list cell previous new_cells new_ends has used loose previous_is cells_are ends_are =
      let xs : List ℕ = cells_in (lists_from cells.slots ends.slots) list in
      let last : previous ≡ previous_at xs (length xs) =
      previous_is ∙ (ap (option_and_then (λ (es : Ends). es.last)) (own_ends cells ends holds list has) ∙ last_before xs (length xs) refl) in
      let place_is = same_link list _ _ _ _ last (sym (slice_get_past xs (length xs) (omega arith))) in
      subst (λ (ys : List ℕ). StandFor new_cells new_ends (record (chains_of cells ends) { lists = set (lists_from cells.slots ends.slots) list (Some ys) }))
      (insert_end xs cell)
      (StandFor-put cells ends holds list has (length xs) cell _ new_cells new_ends (omega arith) used loose place_is cells_are ends_are)

  pub StandFor-insert_before : (cell at : ℕ) (link : Link) (new_cells : Slots Cell) (new_ends : Slots Ends)
      → HasCell (chains_of cells ends) cell → IsLoose (chains_of cells ends) cell → link_in cells.slots at ≡ Some link
      → new_cells ≡ record cells { slots = with_neighbours (set cells.slots cell (Some (Linked (record link { next = Some at })))) (record link { next = Some at }) (Some cell) (Some cell) }
      → new_ends ≡ record ends { slots = with_ends ends.slots (record link { next = Some at }) (Some cell) (Some cell) }
      → (list i : ℕ) → StandsAt (chains_of cells ends) list i at
      → StandFor new_cells new_ends (record (chains_of cells ends) { lists = set (lists_from cells.slots ends.slots) list (Some (insert (cells_in (lists_from cells.slots ends.slots) list) i cell)) })
  StandFor-insert_before cell at link new_cells new_ends used loose linked cells_are ends_are list i stands =
      let xs : List ℕ = cells_in (lists_from cells.slots ends.slots) list in
      let within : i < length xs = slice_get_within xs i at stands in
      let same : link ≡ link_at list xs i = same_Some _ _ (sym linked ∙ known list i at stands) in
      let place_is = ap (λ (l : Link). record l { next = Some at }) same ∙ same_link list _ _ _ _ refl (sym stands) in
      StandFor-put cells ends holds list (has_list _ i at stands) i cell _ new_cells new_ends (omega arith) used loose place_is cells_are ends_are

  pub StandFor-unlink : (cell : ℕ) (link : Link) (new_cells : Slots Cell) (new_ends : Slots Ends) → link_in cells.slots cell ≡ Some link
      → new_cells ≡ record cells { slots = with_neighbours (set cells.slots cell (Some Loose)) link link.next link.previous }
      → new_ends ≡ record ends { slots = with_ends ends.slots link link.next link.previous }
      → (list i : ℕ) → StandsAt (chains_of cells ends) list i cell
      → StandFor new_cells new_ends (record (chains_of cells ends) { lists = set (lists_from cells.slots ends.slots) list (Some (remove (cells_in (lists_from cells.slots ends.slots) list) i)) })
  StandFor-unlink cell link new_cells new_ends linked cells_are ends_are list i stands =
      let same : link ≡ link_at list (cells_in (lists_from cells.slots ends.slots) list) i = same_Some _ _ (sym linked ∙ known list i cell stands) in
      StandFor-take cells ends holds list (has_list _ i cell stands) i cell link new_cells new_ends stands same cells_are ends_are

  -- the cell that is taken knows of no list
  pub loose_taken : (cell : ℕ) (link : Link) (new_cells : Slots Cell) → link_in cells.slots cell ≡ Some link
      → new_cells ≡ record cells { slots = with_neighbours (set cells.slots cell (Some Loose)) link link.next link.previous }
      → (list i : ℕ) → StandsAt (chains_of cells ends) list i cell → link_in new_cells.slots cell ≡ None
  loose_taken cell link new_cells linked cells_are list i stands =
      let xs : List ℕ = cells_in (lists_from cells.slots ends.slots) list in
      let same : link ≡ link_at list xs i = same_Some _ _ (sym linked ∙ known list i cell stands) in
      ap (λ (s : Slots Cell). link_in s.slots cell) cells_are
      ∙ (ap (λ (l : Link). link_in (with_neighbours (set cells.slots cell (Some Loose)) l l.next l.previous) cell) same
      ∙ at_cell list i cell xs holds refl stands)

  -- the next cell that a cell of a list knows
  pub next_is : (cell : ℕ) (link : Link) → link_in cells.slots cell ≡ Some link → (list i : ℕ) → StandsAt (chains_of cells ends) list i cell
      → link.next ≡ slice_get (cells_in (lists_from cells.slots ends.slots) list) (i + 1)
  next_is cell link linked list i stands =
      let same : link ≡ link_at list (cells_in (lists_from cells.slots ends.slots) list) i = same_Some _ _ (sym linked ∙ known list i cell stands) in
      let place : suc i ≡ i + 1 = omega arith in
      ap (λ (l : Link). l.next) same ∙ ap (slice_get (cells_in (lists_from cells.slots ends.slots) list)) place

  -- with other numbers to spare
  pub AreDisjoint-same : (new_cells : Slots Cell) (new_ends : Slots Ends) → new_cells.slots ≡ cells.slots → new_ends.slots ≡ ends.slots → AreDisjoint (chains_of new_cells new_ends)
  AreDisjoint-same new_cells new_ends cells_are ends_are =
      rw (cells_are, ends_are) (AreDisjoint-Represents holds new_ends.spare new_cells.spare)

-- no list and no cell
pub Represents-nil : Represents [] [] (lists_from [] [])
unfolding lists_from
Represents-nil = record {
  ends_known = refl;
  linked = λ list place cell e. absurd (none-some cell e);
  stands = λ cell link e. absurd (none-some link e);
}

pub lists_from-nil : lists_from [] [] ≡ []
unfolding lists_from
lists_from-nil = refl
