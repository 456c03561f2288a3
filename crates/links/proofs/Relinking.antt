-- What cells stand for once one list has other cells.
use Rattle.std.proofs.Common.{◌≡◌, ◌≢◌, ◌⊎◌, ⊎_elim, inl, inr, ℕ, ◌<◌, List, [], length, set, Option, Some, None, option_map, unwrap_or, ap, sym, ◌∙◌}
use Rattle.std.specs.List.{slice_get}
use Rattle.std.proofs.lemmas.Option.{none-some, same_Some}
use Rattle.std.proofs.lemmas.List.{map-set}
use Rattle.std.proofs.lemmas.Bool.{cases_eq}
use Rattle.links.specs.Chains.{cells_in}
use Rattle.links.specs.declared.cell.Link.{Link}
use Rattle.links.specs.declared.cell.Ends.{Ends}
use Rattle.links.specs.declared.cell.Cell.{Cell}
use Rattle.links.specs.Cells.{link_in, ends_of, link_at, Represents}
use Rattle.links.proofs.Places.{slice_get-set_same, slice_get-set_other}

-- the number may be there
pub decide : (o : Option ℕ) (x : ℕ) → (o ≡ Some x) ⊎ (o ≢ Some x)
decide None x = inr (λ e. none-some x e)
decide (Some y) x =
    ⊎_elim (λ (e : y ≡ x). inl (ap Some e)) (λ (ne : y ≢ x). inr (λ e. ne (same_Some y x e))) (cases_eq y x)

-- the cells of a list that is set, and of another
pub cells_in-set_same : (lists : List (Option (List ℕ))) (list : ℕ) (xs : List ℕ) → list < length lists → cells_in (set lists list (Some xs)) list ≡ xs
cells_in-set_same lists list xs h = ap (λ slot. unwrap_or (unwrap_or slot None) []) (slice_get-set_same lists list (Some xs) h)

pub cells_in-set_other : (lists : List (Option (List ℕ))) (list other : ℕ) (slot : Option (List ℕ)) → other ≢ list → cells_in (set lists list slot) other ≡ cells_in lists other
cells_in-set_other lists list other slot h = ap (λ s. unwrap_or (unwrap_or s None) []) (slice_get-set_other lists list other slot h)

-- the list has the cell at some place
abbrev pub Has : List ℕ → ℕ → Type 0
Has xs cell = (place : ℕ) × (slice_get xs place ≡ Some cell)

-- all that the cell knows of lists is this one
abbrev pub KnowsOnly : List (Option Cell) → ℕ → ℕ → Type 0
KnowsOnly cells list cell = (link : Link) → link_in cells cell ≡ Some link → link.list ≡ list

-- the cell has left the list
abbrev pub IsGone : List (Option Cell) → List (Option Cell) → ℕ → ℕ → Type 0
IsGone old new list cell = (link_in new cell ≡ None) × KnowsOnly old list cell

-- the cell is as it was, and still in the list if it was in it
abbrev pub IsKept : List (Option Cell) → List (Option Cell) → ℕ → List ℕ → ℕ → Type 0
IsKept old new list xs cell = (link_in new cell ≡ link_in old cell) × ((link : Link) → link_in old cell ≡ Some link → link.list ≡ list → Has xs cell)

-- one list gets these cells: each of them knows its neighbours, and each cell is one of them, is gone from the list, or is as it was
pub record Relinks (old new : List (Option Cell)) (list : ℕ) (xs : List ℕ) : Type 0 where
  pub own : (place cell : ℕ) → slice_get xs place ≡ Some cell → link_in new cell ≡ Some (link_at list xs place)
  pub came : (cell : ℕ) → Has xs cell → KnowsOnly old list cell
  pub each : (cell : ℕ) → Has xs cell ⊎ (IsGone old new list cell ⊎ IsKept old new list xs cell)

module _ {old : List (Option Cell)} {ends : List (Option Ends)} {lists : List (Option (List ℕ))} (new : List (Option Cell)) (new_ends : List (Option Ends)) (list : ℕ) (xs : List ℕ)
    (holds : Represents old ends lists) (fits : list < length lists) (changes : Relinks old new list xs) where
  -- a cell of another list is as it was
  other_kept : (cell : ℕ) (link : Link) → link_in old cell ≡ Some link → link.list ≢ list → link_in new cell ≡ link_in old cell
  other_kept cell link e apart =
      ⊎_elim (λ (has : Has xs cell). absurd (apart (changes.came cell has link e)))
      (λ (rest : IsGone old new list cell ⊎ IsKept old new list xs cell).
      ⊎_elim (λ (gone : IsGone old new list cell). absurd (apart (gone.1 link e)))
      (λ (kept : IsKept old new list xs cell). kept.0) rest)
      (changes.each cell)

  other_was : (cell : ℕ) (link : Link) → link_in new cell ≡ Some link → link.list ≢ list → link_in old cell ≡ link_in new cell
  other_was cell link e apart =
      ⊎_elim (λ (has : Has xs cell). absurd (apart (ap (λ (l : Link). l.list) (same_Some _ _ (sym e ∙ changes.own has.0 cell has.1)))))
      (λ (rest : IsGone old new list cell ⊎ IsKept old new list xs cell).
      ⊎_elim (λ (gone : IsGone old new list cell). absurd (none-some link (sym gone.0 ∙ e)))
      (λ (kept : IsKept old new list xs cell). sym kept.0) rest)
      (changes.each cell)

  own_stands : (cell : ℕ) (link : Link) → link_in new cell ≡ Some link → link.list ≡ list → Has xs cell
  own_stands cell link e same =
      ⊎_elim (λ (has : Has xs cell). has)
      (λ (rest : IsGone old new list cell ⊎ IsKept old new list xs cell).
      ⊎_elim (λ (gone : IsGone old new list cell). absurd (none-some link (sym gone.0 ∙ e)))
      (λ (kept : IsKept old new list xs cell). kept.1 link (sym kept.0 ∙ e) same) rest)
      (changes.each cell)

  linked_then : (other place cell : ℕ) → slice_get (cells_in (set lists list (Some xs)) other) place ≡ Some cell
      → link_in new cell ≡ Some (link_at other (cells_in (set lists list (Some xs)) other) place)
  linked_then other place cell e =
      ⊎_elim
      (λ (same : other ≡ list).
      let now : cells_in (set lists list (Some xs)) other ≡ xs = ap (cells_in (set lists list (Some xs))) same ∙ cells_in-set_same lists list xs fits in
      changes.own place cell (sym (ap (λ ys. slice_get ys place) now) ∙ e)
      ∙ (ap (λ l. Some (link_at l xs place)) (sym same) ∙ ap (λ ys. Some (link_at other ys place)) (sym now)))
      (λ (apart : other ≢ list).
      let now : cells_in (set lists list (Some xs)) other ≡ cells_in lists other = cells_in-set_other lists list other (Some xs) apart in
      let was = holds.linked other place cell (sym (ap (λ ys. slice_get ys place) now) ∙ e) in
      other_kept cell _ was apart ∙ (was ∙ ap (λ ys. Some (link_at other ys place)) (sym now)))
      (cases_eq other list)

  stands_then : (cell : ℕ) (link : Link) → link_in new cell ≡ Some link → Has (cells_in (set lists list (Some xs)) link.list) cell
  stands_then cell link e =
      ⊎_elim
      (λ (same : link.list ≡ list).
      let has = own_stands cell link e same in
      let now : cells_in (set lists list (Some xs)) link.list ≡ xs = ap (cells_in (set lists list (Some xs))) same ∙ cells_in-set_same lists list xs fits in
      (has.0, ap (λ ys. slice_get ys has.0) now ∙ has.1))
      (λ (apart : link.list ≢ list).
      let has = holds.stands cell link (other_was cell link e apart ∙ e) in
      let now : cells_in (set lists list (Some xs)) link.list ≡ cells_in lists link.list = cells_in-set_other lists list link.list (Some xs) apart in
      (has.0, ap (λ ys. slice_get ys has.0) now ∙ has.1))
      (cases_eq link.list list)

  pub Represents-Relinks : new_ends ≡ set ends list (Some (ends_of xs)) → Represents new new_ends (set lists list (Some xs))
  Represents-Relinks known = record {
    ends_known = known ∙ (ap (λ es. set es list (Some (ends_of xs))) holds.ends_known ∙ sym (map-set (option_map ends_of) lists list (Some xs)));
    linked = linked_then;
    stands = stands_then;
  }
