-- What cells stand in which lists after each change of one.
use Rattle.std.proofs.Common.{◌≡◌, ◌≢◌, ⊎_elim, ℕ, zero, suc, ◌<◌, ◌≤◌, true, cond, eqb, List, [], ◌∷◌, length, set, Option, Some, None, IsSome, is_some, get_or, unwrap_or, refl, ap, sym, ◌∙◌, arith, eq-eqb, length-set}
use Rattle.std.specs.List.{slice_get, insert, remove}
use Rattle.std.specs.Prelude.{replicate}
use Rattle.std.proofs.lemmas.Option.{none-some, same_Some, slice_get_within, slice_get_past, slice_get-get_or}
use Rattle.std.proofs.lemmas.Bool.{cases_eq, cases_lt, ne_eqb}
use Rattle.std.proofs.lemmas.List.Edits.{length-remove}
use Rattle.links.specs.Chains.{Chains, cells_in, HasList, HasCell, StandsAt, IsLoose, AreDisjoint}
use Rattle.links.proofs.Places.{slice_get-set_same, slice_get-set_other}
use Rattle.sg_nodes.specs.Forest.{without, placed_before, moved}
use Rattle.sg_nodes.specs.Numbers.{IsFull, KeepsNumbers}
use Rattle.links.proofs.Lists.{without_absent, without_there, kept}
use Rattle.sg_nodes.proofs.Slots.{insert-before}

module _ (links new : Chains) (list : ℕ) (xs : List ℕ) (within : list < length links.lists) (after : new ≡ record links { lists = set links.lists list (Some xs) }) where
  lists_are : new.lists ≡ set links.lists list (Some xs)
  lists_are = ap (λ (c : Chains). c.lists) after

  pub cells_here : cells_in new.lists list ≡ xs
  cells_here = ap (λ ls. cells_in ls list) lists_are ∙ ap (λ o. unwrap_or (unwrap_or o None) []) (slice_get-set_same links.lists list (Some xs) within)

  pub cells_else : (other : ℕ) → other ≢ list → cells_in new.lists other ≡ cells_in links.lists other
  cells_else other ne = ap (λ ls. cells_in ls other) lists_are ∙ ap (λ o. unwrap_or (unwrap_or o None) []) (slice_get-set_other links.lists list other (Some xs) ne)

  pub numbers_kept : KeepsNumbers links new
  numbers_kept count full = record {
    cells = ap (λ (c : Chains). c.cells) after ∙ full.cells;
    lists = ap length lists_are ∙ (length-set links.lists list (Some xs) ∙ full.lists);
    no_gap = λ other gap.
        ⊎_elim
        (λ (is : other ≡ list).
        let e : Some (Some xs) ≡ Some None = sym (slice_get-set_same links.lists list (Some xs) within) ∙ (ap (slice_get (set links.lists list (Some xs))) (sym is) ∙ (ap (λ ls. slice_get ls other) (sym lists_are) ∙ gap)) in
        none-some xs (sym (same_Some (Some xs) None e)))
        (λ (ne : other ≢ list).
        full.no_gap other (sym (slice_get-set_other links.lists list other (Some xs) ne) ∙ (ap (λ ls. slice_get ls other) (sym lists_are) ∙ gap)))
        (cases_eq other list);
  }

-- a list with a cell is there
pub stands_within : (links : Chains) (list place cell : ℕ) → StandsAt links list place cell → list < length links.lists
stands_within links list place cell stands =
    ⊎_elim (λ (h : list < length links.lists). h)
    (λ (h : length links.lists ≤ list).
    absurd (none-some cell (ap (λ o. slice_get (unwrap_or (unwrap_or o None) []) place) (sym (slice_get_past links.lists list h)) ∙ stands)))
    (cases_lt list (length links.lists))

module _ {links : Chains} (apart : AreDisjoint links) (cell : ℕ) where
  -- a cell that is in no list is not missed
  pub none_lost : IsLoose links cell → (list : ℕ) → cells_in links.lists list ≡ without cell (cells_in links.lists list)
  none_lost loose list = sym (without_absent (cells_in links.lists list) cell (loose list))

  -- one that leaves its list
  module _ (new : Chains) (home place : ℕ) (stands : StandsAt links home place cell)
      (after : new ≡ record links { lists = set links.lists home (Some (remove (cells_in links.lists home) place)) }) where
    pub one_lost : (list : ℕ) → cells_in new.lists list ≡ without cell (cells_in links.lists list)
    one_lost list =
        ⊎_elim
        (λ (is : list ≡ home).
        ap (cells_in new.lists) is
        ∙ (cells_here links new home _ (stands_within links home place cell stands) after
        ∙ (sym (without_there (cells_in links.lists home) place cell stands (λ j f. apart.same_place home j home place cell f stands))
        ∙ ap (λ l. without cell (cells_in links.lists l)) (sym is))))
        (λ (ne : list ≢ home).
        cells_else links new home _ (stands_within links home place cell stands) after list ne
        ∙ sym (without_absent (cells_in links.lists list) cell (λ j f. ne (apart.same_list list j home place cell f stands))))
        (cases_eq list home)

    pub lost_numbers : KeepsNumbers links new
    lost_numbers = numbers_kept links new home _ (stands_within links home place cell stands) after

    -- a first cell that leaves makes its list shorter
    pub shorter : place ≡ 0 → length (cells_in new.lists home) < length (cells_in links.lists home)
    shorter first =
        let within = slice_get_within (cells_in links.lists home) place cell stands in
        let len = ap length (cells_here links new home _ (stands_within links home place cell stands) after) in
        let less = length-remove (cells_in links.lists home) place within in
        omega arith

-- a list that has no first cell any more is empty
pub no_first : (xs : List ℕ) → None ≡ slice_get xs 0 → xs ≡ []
no_first [] e = refl
no_first (x ∷ xs) e = absurd (none-some x e)

pub cleared : (old now : Chains) (list : ℕ) → ((other : ℕ) → other ≢ list → cells_in now.lists other ≡ cells_in old.lists other) → None ≡ slice_get (cells_in now.lists list) 0
    → (other : ℕ) → cells_in now.lists other ≡ cond (eqb other list) [] (cells_in old.lists other)
cleared old now list kept none other =
    ⊎_elim
    (λ (is : other ≡ list).
    ap (cells_in now.lists) is ∙ (no_first (cells_in now.lists list) none ∙ ap (λ b. cond b [] (cells_in old.lists other)) (sym (eq-eqb other list is))))
    (λ (ne : other ≢ list). kept other ne ∙ ap (λ b. cond b [] (cells_in old.lists other)) (sym (ne_eqb other list ne)))
    (cases_eq other list)

-- below the count there is each cell and each list
true_below : (n i : ℕ) → i < n → slice_get (replicate n true) i ≡ Some true
true_below zero i h = absurd (omega arith)
true_below (suc n) zero h = refl
true_below (suc n) (suc i) h = true_below n i (omega arith)

pub full_cell : {links : Chains} {count : ℕ} → IsFull links count → (cell : ℕ) → cell < count → HasCell links cell
full_cell full cell h = ap (λ cs. slice_get cs cell) full.cells ∙ true_below _ cell h

some_list : (o : Option (Option (List ℕ))) (d : Option (List ℕ)) → o ≡ Some d → o ≢ Some None → IsSome (unwrap_or o None)
some_list o None e gap = absurd (gap e)
some_list o (Some xs) e gap = ap (λ p. is_some (unwrap_or p None)) e

pub full_list : {links : Chains} {count : ℕ} → IsFull links count → (list : ℕ) → list < count → HasList links list
full_list {links} full list h =
    let within : list < length links.lists = let e = full.lists in omega arith in
    some_list (slice_get links.lists list) (get_or links.lists list None) (slice_get-get_or links.lists list None within) (full.no_gap list)

-- a cell that has left its list is put into another one
pub placed_cells : (links mid new : Chains) (slot parent : ℕ) (at : Option ℕ) (xs : List ℕ) → ((list : ℕ) → cells_in mid.lists list ≡ without slot (cells_in links.lists list)) → parent < length mid.lists
    → new ≡ record mid { lists = set mid.lists parent (Some xs) } → xs ≡ placed_before slot at (cells_in mid.lists parent) → (list : ℕ) → cells_in new.lists list ≡ moved (λ l. cells_in links.lists l) slot parent at list
placed_cells links mid new slot parent at xs left within after is list =
    ⊎_elim
    (λ (same : list ≡ parent).
    ap (cells_in new.lists) same
    ∙ (cells_here mid new parent xs within after
    ∙ (is
    ∙ (ap (placed_before slot at) (left parent)
    ∙ (ap (λ l. placed_before slot at (without slot (cells_in links.lists l))) (sym same)
    ∙ ap (λ b. cond b (placed_before slot at (without slot (cells_in links.lists list))) (without slot (cells_in links.lists list))) (sym (eq-eqb list parent same)))))))
    (λ (ne : list ≢ parent).
    cells_else mid new parent xs within after list ne
    ∙ (left list
    ∙ ap (λ b. cond b (placed_before slot at (without slot (cells_in links.lists list))) (without slot (cells_in links.lists list))) (sym (ne_eqb list parent ne))))
    (cases_eq list parent)

-- where a child still stands once another cell has left its list
pub spot : (links mid : Chains) (slot parent at : ℕ) → ((list : ℕ) → cells_in mid.lists list ≡ without slot (cells_in links.lists list)) → (i : ℕ) → slice_get (cells_in links.lists parent) i ≡ Some at → at ≢ slot
    → (j : ℕ) × StandsAt mid parent j at
spot links mid slot parent at left i e ne =
    let there = kept (cells_in links.lists parent) slot i at e ne in
    (there.0, ap (λ xs. slice_get xs there.0) (left parent) ∙ there.1)

pub moved_before : (links mid new : Chains) (slot parent at place : ℕ) → ((list : ℕ) → cells_in mid.lists list ≡ without slot (cells_in links.lists list)) → AreDisjoint mid → StandsAt mid parent place at
    → new ≡ record mid { lists = set mid.lists parent (Some (insert (cells_in mid.lists parent) place slot)) } → (list : ℕ) → cells_in new.lists list ≡ moved (λ l. cells_in links.lists l) slot parent (Some at) list
moved_before links mid new slot parent at place left apart stands after =
    placed_cells links mid new slot parent (Some at) _ left (stands_within mid parent place at stands) after
    (insert-before (cells_in mid.lists parent) place slot at stands (λ j f. apart.same_place parent j parent place at f stands))
