-- A cell that was in no list is put before a place of a list.
use Rattle.std.proofs.Common.{◌≡◌, ◌≢◌, ◌⊎◌, ⊎_elim, inl, inr, ℕ, zero, suc, ◌<◌, ◌≤◌, List, length, set, Option, Some, refl, ap, sym, ◌∙◌, arith}
use Rattle.std.specs.List.{slice_get, insert}
use Rattle.std.proofs.lemmas.Option.{none-some, same_Some}
use Rattle.std.proofs.lemmas.Bool.{cases_eq, cases_lt}
use Rattle.links.specs.Chains.{cells_in}
use Rattle.links.specs.declared.cell.Link.{Link}
use Rattle.links.specs.declared.cell.Ends.{Ends}
use Rattle.links.specs.declared.cell.Cell.{Cell}
use Rattle.links.specs.declared.cell.Cell.TheVariants.{Linked}
use Rattle.links.specs.Cells.{link_in, with_neighbours, previous_at, link_at, Represents}
use Rattle.links.proofs.Places.{slice_get-insert_below, slice_get-insert_at, slice_get-insert_above}
use Rattle.links.proofs.Linking.{link_in-set_same, link_in-set_other, neighbours_other, neighbours_previous, neighbours_next}
use Rattle.links.proofs.Walking.{same_place}
use Rattle.links.proofs.Neighbours.{previous_at-insert_below, previous_at-insert_above}
use Rattle.links.proofs.Relinking.{decide, Has, KnowsOnly, IsGone, IsKept, Relinks}

-- the cell before a place stands one place before
pub place_before : (xs : List ℕ) (i x : ℕ) → previous_at xs i ≡ Some x → (j : ℕ) × ((suc j ≡ i) × (slice_get xs j ≡ Some x))
place_before xs zero x e = absurd (none-some x e)
place_before xs (suc j) x e = (j, (refl, e))

-- the place between the cells before i
abbrev pub gap_at : ℕ → List ℕ → ℕ → Link
gap_at list xs i = record { list = list; previous = previous_at xs i; next = slice_get xs i }

-- two places with the same neighbours
pub same_link : (list : ℕ) (previous next other_previous other_next : Option ℕ) → previous ≡ other_previous → next ≡ other_next
    → ◌≡◌ {A = Link} (record { list = list; previous = previous; next = next }) (record { list = list; previous = other_previous; next = other_next })
same_link list previous next other_previous other_next e f =
    ap (λ p. record { list = list; previous = p; next = next }) e ∙ ap (λ n. record { list = list; previous = other_previous; next = n }) f

module _ {cells : List (Option Cell)} {ends : List (Option Ends)} {lists : List (Option (List ℕ))} (list i cell : ℕ) (xs : List ℕ)
    (holds : Represents cells ends lists) (own_list : cells_in lists list ≡ xs) (within : i ≤ length xs) (used : cell < length cells)
    (loose : (other place : ℕ) → slice_get (cells_in lists other) place ≢ Some cell) where
  abbrev place : Link
  place = gap_at list xs i

  abbrev put : List (Option Cell)
  put = set cells cell (Some (Linked place))

  abbrev after : List (Option Cell)
  after = with_neighbours put place (Some cell) (Some cell)

  -- what the cells of the list know
  known : (j x : ℕ) → slice_get xs j ≡ Some x → link_in cells x ≡ Some (link_at list xs j)
  known j x e =
      holds.linked list j x (ap (λ ys. slice_get ys j) own_list ∙ e) ∙ ap (λ ys. Some (link_at list ys j)) own_list

  apart : (j x : ℕ) → slice_get xs j ≡ Some x → x ≢ cell
  apart j x e same = loose list j (ap (λ ys. slice_get ys j) own_list ∙ (e ∙ ap Some same))

  one_place : (j k x : ℕ) → slice_get xs j ≡ Some x → slice_get xs k ≡ Some x → j ≡ k
  one_place j k x e f = same_place holds list j list k x (ap (λ ys. slice_get ys j) own_list ∙ e) (ap (λ ys. slice_get ys k) own_list ∙ f)

  not_before : previous_at xs i ≢ Some cell
  not_before e = let found = place_before xs i cell e in apart found.0 cell found.1.1 refl

  not_after : slice_get xs i ≢ Some cell
  not_after e = apart i cell e refl

  at_cell : link_in after cell ≡ Some place
  at_cell = neighbours_other put place (Some cell) (Some cell) cell not_before not_after ∙ link_in-set_same cells cell (Some (Linked place)) used

  at_other : (x : ℕ) → x ≢ cell → previous_at xs i ≢ Some x → slice_get xs i ≢ Some x → link_in after x ≡ link_in cells x
  at_other x differ before behind =
      neighbours_other put place (Some cell) (Some cell) x before behind ∙ link_in-set_other cells cell x (Some (Linked place)) differ

  -- a cell before the place
  own_below : (j x : ℕ) → j < i → slice_get xs j ≡ Some x → link_in after x ≡ Some (link_at list (insert xs i cell) j)
  own_below j x below e =
      let behind : slice_get xs i ≢ Some x = λ f. let same = one_place j i x e f in omega arith in
      let was = link_in-set_other cells cell x (Some (Linked place)) (apart j x e) ∙ known j x e in
      ⊎_elim
      (λ (inner : suc j < i).
      let before : previous_at xs i ≢ Some x = λ f. let found = place_before xs i x f in let same = one_place j found.0 x e found.1.1 in omega arith in
      neighbours_other put place (Some cell) (Some cell) x before behind
      ∙ (was ∙ ap Some (same_link list _ _ _ _ (sym (previous_at-insert_below xs i cell within j (omega arith))) (sym (slice_get-insert_below xs i (suc j) cell inner within)))))
      (λ (last : i ≤ suc j).
      let here : suc j ≡ i = omega arith in
      let before : previous_at xs i ≡ Some x = ap (previous_at xs) (sym here) ∙ e in
      neighbours_previous put place (Some cell) (Some cell) x (link_at list xs j) before behind was
      ∙ ap Some (same_link list _ _ _ _ (sym (previous_at-insert_below xs i cell within j (omega arith))) (sym (ap (slice_get (insert xs i cell)) here ∙ slice_get-insert_at xs i cell within))))
      (cases_lt (suc j) i)

  -- a cell from the place on
  own_above : (j x : ℕ) → i ≤ j → slice_get xs j ≡ Some x → link_in after x ≡ Some (link_at list (insert xs i cell) (suc j))
  own_above j x above e =
      let before : previous_at xs i ≢ Some x = λ f. let found = place_before xs i x f in let same = one_place j found.0 x e found.1.1 in omega arith in
      let was = link_in-set_other cells cell x (Some (Linked place)) (apart j x e) ∙ known j x e in
      ⊎_elim
      (λ (inner : i < j).
      let behind : slice_get xs i ≢ Some x = λ f. let same = one_place j i x e f in omega arith in
      neighbours_other put place (Some cell) (Some cell) x before behind
      ∙ (was ∙ ap Some (same_link list _ _ _ _ (sym (previous_at-insert_above xs i cell within j inner)) (sym (slice_get-insert_above xs i (suc j) cell (omega arith) within)))))
      (λ (first : j ≤ i).
      let here : i ≡ j = omega arith in
      let behind : slice_get xs i ≡ Some x = ap (slice_get xs) here ∙ e in
      neighbours_next put place (Some cell) (Some cell) x (link_at list xs j) behind before was
      ∙ ap Some (same_link list _ _ _ _ (sym (ap (slice_get (insert xs i cell)) (sym here) ∙ slice_get-insert_at xs i cell within)) (sym (slice_get-insert_above xs i (suc j) cell (omega arith) within))))
      (cases_lt i j)

  -- where a cell of the new list stood
  stood : (j x : ℕ) → slice_get (insert xs i cell) j ≡ Some x → ((j ≡ i) × (x ≡ cell)) ⊎ (((j < i) × (slice_get xs j ≡ Some x)) ⊎ ((k : ℕ) × ((j ≡ suc k) × ((i ≤ k) × (slice_get xs k ≡ Some x)))))
  stood zero x e =
      ⊎_elim (λ (here : zero ≡ i). inl (here, same_Some x cell (sym e ∙ (ap (slice_get (insert xs i cell)) here ∙ slice_get-insert_at xs i cell within))))
      (λ (later : zero ≢ i). let below : zero < i = omega arith in inr (inl (below, sym (slice_get-insert_below xs i zero cell below within) ∙ e)))
      (cases_eq zero i)
  stood (suc k) x e =
      ⊎_elim (λ (here : suc k ≡ i). inl (here, same_Some x cell (sym e ∙ (ap (slice_get (insert xs i cell)) here ∙ slice_get-insert_at xs i cell within))))
      (λ (differ : suc k ≢ i).
      ⊎_elim (λ (below : suc k < i). inr (inl (below, sym (slice_get-insert_below xs i (suc k) cell below within) ∙ e)))
      (λ (above : i ≤ suc k). let from : i ≤ k = omega arith in inr (inr (k, (refl, (from, sym (slice_get-insert_above xs i k cell from within) ∙ e)))))
      (cases_lt (suc k) i))
      (cases_eq (suc k) i)

  own_then : (j x : ℕ) → slice_get (insert xs i cell) j ≡ Some x → link_in after x ≡ Some (link_at list (insert xs i cell) j)
  own_then j x e =
      ⊎_elim
      (λ (new : (j ≡ i) × (x ≡ cell)).
      ap (link_in after) new.1 ∙ (at_cell
      ∙ (ap Some (same_link list _ _ _ _ (sym (previous_at-insert_below xs i cell within i (omega arith))) (sym (slice_get-insert_above xs i i cell (omega arith) within)))
      ∙ ap (λ k. Some (link_at list (insert xs i cell) k)) (sym new.0))))
      (λ (old : ((j < i) × (slice_get xs j ≡ Some x)) ⊎ ((k : ℕ) × ((j ≡ suc k) × ((i ≤ k) × (slice_get xs k ≡ Some x))))).
      ⊎_elim
      (λ (below : (j < i) × (slice_get xs j ≡ Some x)). own_below j x below.0 below.1)
      (λ (above : (k : ℕ) × ((j ≡ suc k) × ((i ≤ k) × (slice_get xs k ≡ Some x)))).
      own_above above.0 x above.1.1.0 above.1.1.1 ∙ ap (λ k. Some (link_at list (insert xs i cell) k)) (sym above.1.0))
      old)
      (stood j x e)

  -- a cell that the list had is in it
  has_then : (j x : ℕ) → slice_get xs j ≡ Some x → Has (insert xs i cell) x
  has_then j x e =
      ⊎_elim (λ (below : j < i). (j, slice_get-insert_below xs i j cell below within ∙ e))
      (λ (above : i ≤ j). (suc j, slice_get-insert_above xs i j cell above within ∙ e))
      (cases_lt j i)

  known_list : (j x : ℕ) → slice_get xs j ≡ Some x → KnowsOnly cells list x
  known_list j x e link f = ap (λ (l : Link). l.list) (same_Some _ _ (sym f ∙ known j x e))

  -- the cell that is put knew of no list
  knew_none : KnowsOnly cells list cell
  knew_none link e = let found = holds.stands cell link e in absurd (loose link.list found.0 found.1)

  came_then : (x : ℕ) → Has (insert xs i cell) x → KnowsOnly cells list x
  came_then x has =
      ⊎_elim
      (λ (new : (has.0 ≡ i) × (x ≡ cell)). λ link e. knew_none link (ap (link_in cells) (sym new.1) ∙ e))
      (λ (old : ((has.0 < i) × (slice_get xs has.0 ≡ Some x)) ⊎ ((k : ℕ) × ((has.0 ≡ suc k) × ((i ≤ k) × (slice_get xs k ≡ Some x))))).
      ⊎_elim
      (λ (below : (has.0 < i) × (slice_get xs has.0 ≡ Some x)). known_list has.0 x below.1)
      (λ (above : (k : ℕ) × ((has.0 ≡ suc k) × ((i ≤ k) × (slice_get xs k ≡ Some x)))). known_list above.0 x above.1.1.1)
      old)
      (stood has.0 x has.1)

  in_list : (x : ℕ) (link : Link) → link_in cells x ≡ Some link → link.list ≡ list → Has (insert xs i cell) x
  in_list x link e same =
      let found = holds.stands x link e in
      has_then found.0 x (sym (ap (λ ys. slice_get ys found.0) (ap (cells_in lists) same ∙ own_list)) ∙ found.1)

  each_then : (x : ℕ) → Has (insert xs i cell) x ⊎ (IsGone cells after list x ⊎ IsKept cells after list (insert xs i cell) x)
  each_then x =
      ⊎_elim
      (λ (new : x ≡ cell). inl (i, slice_get-insert_at xs i cell within ∙ ap Some (sym new)))
      (λ (differ : x ≢ cell).
      ⊎_elim
      (λ (before : previous_at xs i ≡ Some x). let found = place_before xs i x before in inl (has_then found.0 x found.1.1))
      (λ (not_previous : previous_at xs i ≢ Some x).
      ⊎_elim
      (λ (behind : slice_get xs i ≡ Some x). inl (has_then i x behind))
      (λ (not_next : slice_get xs i ≢ Some x). inr (inr (at_other x differ not_previous not_next, in_list x)))
      (decide (slice_get xs i) x))
      (decide (previous_at xs i) x))
      (cases_eq x cell)

  pub Relinks-put : Relinks cells after list (insert xs i cell)
  Relinks-put = record { own = own_then; came = came_then; each = each_then }
