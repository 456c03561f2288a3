-- A cell is taken out of a list.
use Rattle.std.proofs.Common.{◌≡◌, ◌≢◌, ◌⊎◌, ⊎_elim, inl, inr, ℕ, zero, suc, ◌<◌, ◌≤◌, List, length, set, Option, Some, None, ap, sym, ◌∙◌, arith}
use Rattle.std.specs.List.{slice_get, remove}
use Rattle.std.proofs.lemmas.Option.{slice_get_within, same_Some}
use Rattle.std.proofs.lemmas.Bool.{cases_eq, cases_lt}
use Rattle.links.specs.Chains.{cells_in}
use Rattle.links.specs.declared.cell.Link.{Link}
use Rattle.links.specs.declared.cell.Ends.{Ends}
use Rattle.links.specs.declared.cell.Cell.{Cell}
use Rattle.links.specs.declared.cell.Cell.TheVariants.{Loose}
use Rattle.links.specs.Cells.{link_in, with_neighbours, previous_at, link_at, Represents}
use Rattle.links.proofs.Places.{slice_get-remove_below, slice_get-remove_above}
use Rattle.links.proofs.Linking.{link_in_within, link_in-set_same, link_in-set_other, neighbours_other, neighbours_previous, neighbours_next}
use Rattle.links.proofs.Walking.{same_place}
use Rattle.links.proofs.Neighbours.{previous_at-remove_below, previous_at-remove_above}
use Rattle.links.proofs.Relinking.{decide, Has, KnowsOnly, IsGone, IsKept, Relinks}
use Rattle.links.proofs.Putting.{place_before, same_link}

module _ {cells : List (Option Cell)} {ends : List (Option Ends)} {lists : List (Option (List ℕ))} (list i cell : ℕ) (xs : List ℕ)
    (holds : Represents cells ends lists) (own_list : cells_in lists list ≡ xs) (here : slice_get xs i ≡ Some cell) where
  abbrev place : Link
  place = link_at list xs i

  abbrev taken : List (Option Cell)
  taken = set cells cell (Some Loose)

  abbrev after : List (Option Cell)
  after = with_neighbours taken place (slice_get xs (suc i)) (previous_at xs i)

  within : i < length xs
  within = slice_get_within xs i cell here

  -- what the cells of the list know
  pub known : (j x : ℕ) → slice_get xs j ≡ Some x → link_in cells x ≡ Some (link_at list xs j)
  known j x e =
      holds.linked list j x (ap (λ ys. slice_get ys j) own_list ∙ e) ∙ ap (λ ys. Some (link_at list ys j)) own_list

  one_place : (j k x : ℕ) → slice_get xs j ≡ Some x → slice_get xs k ≡ Some x → j ≡ k
  one_place j k x e f = same_place holds list j list k x (ap (λ ys. slice_get ys j) own_list ∙ e) (ap (λ ys. slice_get ys k) own_list ∙ f)

  apart : (j x : ℕ) → j ≢ i → slice_get xs j ≡ Some x → x ≢ cell
  apart j x ne e same = ne (one_place j i x e (here ∙ ap Some (sym same)))

  not_before : (j x : ℕ) → suc j ≢ i → slice_get xs j ≡ Some x → previous_at xs i ≢ Some x
  not_before j x ne e f = let found = place_before xs i x f in let same = one_place j found.0 x e found.1.1 in ne (ap suc same ∙ found.1.0)

  not_after : (j x : ℕ) → j ≢ suc i → slice_get xs j ≡ Some x → slice_get xs (suc i) ≢ Some x
  not_after j x ne e f = ne (one_place j (suc i) x e f)

  used : cell < length cells
  used = link_in_within cells cell _ (known i cell here)

  pub at_cell : link_in after cell ≡ None
  at_cell =
      neighbours_other taken place (slice_get xs (suc i)) (previous_at xs i) cell (not_before i cell (omega arith) here) (not_after i cell (omega arith) here)
      ∙ link_in-set_same cells cell (Some Loose) used

  at_other : (x : ℕ) → x ≢ cell → previous_at xs i ≢ Some x → slice_get xs (suc i) ≢ Some x → link_in after x ≡ link_in cells x
  at_other x differ before behind =
      neighbours_other taken place (slice_get xs (suc i)) (previous_at xs i) x before behind ∙ link_in-set_other cells cell x (Some Loose) differ

  -- a cell before the place
  own_below : (j x : ℕ) → j < i → slice_get xs j ≡ Some x → link_in after x ≡ Some (link_at list (remove xs i) j)
  own_below j x below e =
      let behind = not_after j x (omega arith) e in
      let was = link_in-set_other cells cell x (Some Loose) (apart j x (omega arith) e) ∙ known j x e in
      ⊎_elim
      (λ (inner : suc j < i).
      neighbours_other taken place (slice_get xs (suc i)) (previous_at xs i) x (not_before j x (omega arith) e) behind
      ∙ (was ∙ ap Some (same_link list _ _ _ _ (sym (previous_at-remove_below xs i within j (omega arith))) (sym (slice_get-remove_below xs i (suc j) inner within)))))
      (λ (last : i ≤ suc j).
      let next : suc j ≡ i = omega arith in
      let before : previous_at xs i ≡ Some x = ap (previous_at xs) (sym next) ∙ e in
      neighbours_previous taken place (slice_get xs (suc i)) (previous_at xs i) x (link_at list xs j) before behind was
      ∙ ap Some (same_link list _ _ _ _ (sym (previous_at-remove_below xs i within j (omega arith))) (sym (ap (slice_get (remove xs i)) next ∙ slice_get-remove_above xs i i (omega arith) within))))
      (cases_lt (suc j) i)

  -- a cell after the place
  own_above : (j x : ℕ) → i ≤ j → slice_get xs (suc j) ≡ Some x → link_in after x ≡ Some (link_at list (remove xs i) j)
  own_above j x above e =
      let before = not_before (suc j) x (omega arith) e in
      let was = link_in-set_other cells cell x (Some Loose) (apart (suc j) x (omega arith) e) ∙ known (suc j) x e in
      ⊎_elim
      (λ (inner : i < j).
      neighbours_other taken place (slice_get xs (suc i)) (previous_at xs i) x before (not_after (suc j) x (omega arith) e)
      ∙ (was ∙ ap Some (same_link list _ _ _ _ (sym (previous_at-remove_above xs i within j inner)) (sym (slice_get-remove_above xs i (suc j) (omega arith) within)))))
      (λ (first : j ≤ i).
      let same : i ≡ j = omega arith in
      let behind : slice_get xs (suc i) ≡ Some x = ap (λ k. slice_get xs (suc k)) same ∙ e in
      neighbours_next taken place (slice_get xs (suc i)) (previous_at xs i) x (link_at list xs (suc j)) behind before was
      ∙ ap Some (same_link list _ _ _ _ (sym (ap (previous_at (remove xs i)) (sym same) ∙ previous_at-remove_below xs i within i (omega arith))) (sym (slice_get-remove_above xs i (suc j) (omega arith) within))))
      (cases_lt i j)

  -- where a cell of the new list stood
  stood : (j x : ℕ) → slice_get (remove xs i) j ≡ Some x → ((j < i) × (slice_get xs j ≡ Some x)) ⊎ ((i ≤ j) × (slice_get xs (suc j) ≡ Some x))
  stood j x e =
      ⊎_elim (λ (below : j < i). inl (below, sym (slice_get-remove_below xs i j below within) ∙ e))
      (λ (above : i ≤ j). inr (above, sym (slice_get-remove_above xs i j above within) ∙ e))
      (cases_lt j i)

  own_then : (j x : ℕ) → slice_get (remove xs i) j ≡ Some x → link_in after x ≡ Some (link_at list (remove xs i) j)
  own_then j x e =
      ⊎_elim (λ (below : (j < i) × (slice_get xs j ≡ Some x)). own_below j x below.0 below.1)
      (λ (above : (i ≤ j) × (slice_get xs (suc j) ≡ Some x)). own_above j x above.0 above.1)
      (stood j x e)

  -- another cell that the list had is in it
  has_then : (j x : ℕ) → x ≢ cell → slice_get xs j ≡ Some x → Has (remove xs i) x
  has_then zero x differ e =
      ⊎_elim (λ (first : zero ≡ i). absurd (differ (same_Some x cell (sym e ∙ (ap (slice_get xs) first ∙ here)))))
      (λ (ne : zero ≢ i). (zero, slice_get-remove_below xs i zero (omega arith) within ∙ e))
      (cases_eq zero i)
  has_then (suc j) x differ e =
      ⊎_elim (λ (same : suc j ≡ i). absurd (differ (same_Some x cell (sym e ∙ (ap (slice_get xs) same ∙ here)))))
      (λ (ne : suc j ≢ i).
      ⊎_elim (λ (below : suc j < i). (suc j, slice_get-remove_below xs i (suc j) below within ∙ e))
      (λ (above : i ≤ suc j). (j, slice_get-remove_above xs i j (omega arith) within ∙ e))
      (cases_lt (suc j) i))
      (cases_eq (suc j) i)

  known_list : (j x : ℕ) → slice_get xs j ≡ Some x → KnowsOnly cells list x
  known_list j x e link f = ap (λ (l : Link). l.list) (same_Some _ _ (sym f ∙ known j x e))

  came_then : (x : ℕ) → Has (remove xs i) x → KnowsOnly cells list x
  came_then x has =
      ⊎_elim (λ (below : (has.0 < i) × (slice_get xs has.0 ≡ Some x)). known_list has.0 x below.1)
      (λ (above : (i ≤ has.0) × (slice_get xs (suc has.0) ≡ Some x)). known_list (suc has.0) x above.1)
      (stood has.0 x has.1)

  in_list : (x : ℕ) → x ≢ cell → (link : Link) → link_in cells x ≡ Some link → link.list ≡ list → Has (remove xs i) x
  in_list x differ link e same =
      let found = holds.stands x link e in
      has_then found.0 x differ (sym (ap (λ ys. slice_get ys found.0) (ap (cells_in lists) same ∙ own_list)) ∙ found.1)

  each_then : (x : ℕ) → Has (remove xs i) x ⊎ (IsGone cells after list x ⊎ IsKept cells after list (remove xs i) x)
  each_then x =
      ⊎_elim
      (λ (gone : x ≡ cell). inr (inl (ap (link_in after) gone ∙ at_cell, known_list i x (here ∙ ap Some (sym gone)))))
      (λ (differ : x ≢ cell).
      ⊎_elim
      (λ (before : previous_at xs i ≡ Some x). let found = place_before xs i x before in inl (has_then found.0 x differ found.1.1))
      (λ (not_previous : previous_at xs i ≢ Some x).
      ⊎_elim
      (λ (behind : slice_get xs (suc i) ≡ Some x). inl (has_then (suc i) x differ behind))
      (λ (not_next : slice_get xs (suc i) ≢ Some x). inr (inr (at_other x differ not_previous not_next, in_list x differ)))
      (decide (slice_get xs (suc i)) x))
      (decide (previous_at xs i) x))
      (cases_eq x cell)

  pub Relinks-take : Relinks cells after list (remove xs i)
  Relinks-take = record { own = own_then; came = came_then; each = each_then }
