-- What a cell knows after it or another was changed.
use Rattle.std.proofs.Common.{◌≡◌, ◌≢◌, ℕ, ◌<◌, ◌≤◌, List, length, set, Option, Some, None, option_map, unwrap_or, refl, ap, sym, ◌∙◌}
use Rattle.std.specs.List.{slice_get}
use Rattle.std.proofs.lemmas.Option.{slice_get_past}
use Rattle.std.proofs.lemmas.Bool.{cases_lt}
use Rattle.std.proofs.Common.{⊎_elim}
use Rattle.links.specs.declared.cell.Link.{Link}
use Rattle.links.specs.declared.cell.Cell.{Cell}
use Rattle.links.specs.declared.cell.Cell.TheVariants.{Loose, Linked}
use Rattle.links.specs.Cells.{next_changed, previous_changed, with_next, with_previous, with_next_after, with_previous_before, with_neighbours, place_in, link_in}
use Rattle.links.proofs.Places.{slice_get-set_same, slice_get-set_other}

pub link_in_past : (cells : List (Option Cell)) (cell : ℕ) → length cells ≤ cell → link_in cells cell ≡ None
link_in_past cells cell h = ap (λ slot. place_in (unwrap_or slot None)) (slice_get_past cells cell h)

pub link_in_within : (cells : List (Option Cell)) (cell : ℕ) (link : Link) → link_in cells cell ≡ Some link → cell < length cells
link_in_within cells cell link e =
    ⊎_elim (λ (h : cell < length cells). h)
    (λ (h : length cells ≤ cell). let past = link_in_past cells cell h in absurd (cc))
    (cases_lt cell (length cells))

pub link_in-set_same : (cells : List (Option Cell)) (cell : ℕ) (slot : Option Cell) → cell < length cells → link_in (set cells cell slot) cell ≡ place_in slot
link_in-set_same cells cell slot h = ap (λ s. place_in (unwrap_or s None)) (slice_get-set_same cells cell slot h)

pub link_in-set_other : (cells : List (Option Cell)) (cell other : ℕ) (slot : Option Cell) → other ≢ cell → link_in (set cells cell slot) other ≡ link_in cells other
link_in-set_other cells cell other slot h = ap (λ s. place_in (unwrap_or s None)) (slice_get-set_other cells cell other slot h)

place_in-next_changed : (slot : Option Cell) (next : Option ℕ) (link : Link) → place_in slot ≡ Some link → place_in (option_map (next_changed next) slot) ≡ Some (record link { next = next })
place_in-next_changed None next link e = absurd (cc)
place_in-next_changed (Some Loose) next link e = absurd (cc)
place_in-next_changed (Some (Linked own)) next link e =
    let same : own ≡ link = cc in ap (λ (l : Link). Some (record l { next = next })) same

place_in-previous_changed : (slot : Option Cell) (previous : Option ℕ) (link : Link) → place_in slot ≡ Some link → place_in (option_map (previous_changed previous) slot) ≡ Some (record link { previous = previous })
place_in-previous_changed None previous link e = absurd (cc)
place_in-previous_changed (Some Loose) previous link e = absurd (cc)
place_in-previous_changed (Some (Linked own)) previous link e =
    let same : own ≡ link = cc in ap (λ (l : Link). Some (record l { previous = previous })) same

-- after a change of the next cell
next_after_other : (cells : List (Option Cell)) (at next : Option ℕ) (cell : ℕ) → at ≢ Some cell → link_in (with_next_after cells at next) cell ≡ link_in cells cell
next_after_other cells None next cell h = refl
next_after_other cells (Some at) next cell h = link_in-set_other cells at cell _ (λ e. h (ap Some (sym e)))

next_after_same : (cells : List (Option Cell)) (at next : Option ℕ) (cell : ℕ) (link : Link) → at ≡ Some cell → link_in cells cell ≡ Some link
    → link_in (with_next_after cells at next) cell ≡ Some (record link { next = next })
next_after_same cells None next cell link e f = absurd (cc)
next_after_same cells (Some at) next cell link e f =
    let same : cell ≡ at = cc in
    let own : link_in cells at ≡ Some link = ap (link_in cells) (sym same) ∙ f in
    ap (link_in (with_next cells at next)) same
    ∙ (link_in-set_same cells at _ (link_in_within cells at link own)
    ∙ place_in-next_changed (unwrap_or (slice_get cells at) None) next link own)

-- after a change of the previous cell
previous_before_other : (cells : List (Option Cell)) (at previous : Option ℕ) (cell : ℕ) → at ≢ Some cell → link_in (with_previous_before cells at previous) cell ≡ link_in cells cell
previous_before_other cells None previous cell h = refl
previous_before_other cells (Some at) previous cell h = link_in-set_other cells at cell _ (λ e. h (ap Some (sym e)))

previous_before_same : (cells : List (Option Cell)) (at previous : Option ℕ) (cell : ℕ) (link : Link) → at ≡ Some cell → link_in cells cell ≡ Some link
    → link_in (with_previous_before cells at previous) cell ≡ Some (record link { previous = previous })
previous_before_same cells None previous cell link e f = absurd (cc)
previous_before_same cells (Some at) previous cell link e f =
    let same : cell ≡ at = cc in
    let own : link_in cells at ≡ Some link = ap (link_in cells) (sym same) ∙ f in
    ap (link_in (with_previous cells at previous)) same
    ∙ (link_in-set_same cells at _ (link_in_within cells at link own)
    ∙ place_in-previous_changed (unwrap_or (slice_get cells at) None) previous link own)

module _ (cells : List (Option Cell)) (place : Link) (next previous : Option ℕ) (cell : ℕ) where
  -- a cell that is no neighbour
  pub neighbours_other : place.previous ≢ Some cell → place.next ≢ Some cell → link_in (with_neighbours cells place next previous) cell ≡ link_in cells cell
  neighbours_other before after =
      previous_before_other (with_next_after cells place.previous next) place.next previous cell after
      ∙ next_after_other cells place.previous next cell before

  -- the neighbour before the place
  pub neighbours_previous : (link : Link) → place.previous ≡ Some cell → place.next ≢ Some cell → link_in cells cell ≡ Some link
      → link_in (with_neighbours cells place next previous) cell ≡ Some (record link { next = next })
  neighbours_previous link before after e =
      previous_before_other (with_next_after cells place.previous next) place.next previous cell after
      ∙ next_after_same cells place.previous next cell link before e

  -- the neighbour after the place
  pub neighbours_next : (link : Link) → place.next ≡ Some cell → place.previous ≢ Some cell → link_in cells cell ≡ Some link
      → link_in (with_neighbours cells place next previous) cell ≡ Some (record link { previous = previous })
  neighbours_next link after before e =
      previous_before_same (with_next_after cells place.previous next) place.next previous cell link after
      (next_after_other cells place.previous next cell before ∙ e)
