-- Cells that know their neighbours stand for one thing only: what a walk along them finds.
use Rattle.std.proofs.Common.{◌≡◌, ℕ, zero, suc, ◌≤◌, true, List, [], ◌∷◌, length, map, Option, Some, None, is_some, option_map, unwrap_or, refl, ap, subst, sym, ◌∙◌, arith}
use Rattle.std.specs.List.{slice_get}
use Rattle.std.proofs.lemmas.Option.{none-some, same_Some}
use Rattle.links.specs.Chains.{cells_in, AreDisjoint}
use Rattle.links.specs.declared.cell.Link.{Link}
use Rattle.links.specs.declared.cell.Ends.{Ends}
use Rattle.links.specs.declared.cell.Cell.{Cell}
use Rattle.links.specs.Cells.{link_in, next_in, walk, lists_from, ends_of, Represents}
use Rattle.links.proofs.Linking.{link_in_within}
use Rattle.links.proofs.Pools.{length-le_from_IsApart}

-- a walk along a list whose cells know the next one
walk_is : (cells : List (Option Cell)) (most : ℕ) (xs : List ℕ) → length xs ≤ most
    → ((place cell : ℕ) → slice_get xs place ≡ Some cell → next_in (link_in cells cell) ≡ slice_get xs (suc place))
    → walk most cells (slice_get xs zero) ≡ xs
unfolding walk
walk_is cells zero [] h known = refl
walk_is cells (suc most) [] h known = refl
walk_is cells zero (x ∷ xs) h known = absurd (omega arith)
walk_is cells (suc most) (x ∷ xs) h known =
    ap (λ ys. x ∷ ys)
    (ap (walk most cells) (known zero x refl) ∙ walk_is cells most xs (omega arith) (λ place cell e. known (suc place) cell e))

-- there and back, where each list comes back
map_back : {A B : Type 0} (f : B → A) (g : A → B) (xs : List (Option A)) → ((i : ℕ) (x : A) → slice_get xs i ≡ Some (Some x) → f (g x) ≡ x)
    → map (option_map f) (map (option_map g) xs) ≡ xs
map_back f g [] back = refl
map_back f g (None ∷ xs) back = ap (λ ys. None ∷ ys) (map_back f g xs (λ i x e. back (suc i) x e))
map_back f g (Some y ∷ xs) back =
    ap (λ z. Some z ∷ map (option_map f) (map (option_map g) xs)) (back zero y refl)
    ∙ ap (λ ys. Some y ∷ ys) (map_back f g xs (λ i x e. back (suc i) x e))

-- where there is no cell at a place, there is none after it
some_before : (xs : List ℕ) (place cell : ℕ) → slice_get xs (suc place) ≡ Some cell → (before : ℕ) × (slice_get xs place ≡ Some before)
some_before [] place cell e = absurd (cc)
some_before (x ∷ xs) zero cell e = (x, refl)
some_before (x ∷ xs) (suc place) cell e = some_before xs place cell e

-- a cell that is in a list is there
used_from_link_in : (cells : List (Option Cell)) (cell : ℕ) (link : Link) → link_in cells cell ≡ Some link → slice_get (map is_some cells) cell ≡ Some true
used_from_link_in [] cell link e = absurd (cc)
used_from_link_in (None ∷ cells) zero link e = absurd (cc)
used_from_link_in (Some cell ∷ cells) zero link e = refl
used_from_link_in (slot ∷ cells) (suc cell) link e = used_from_link_in cells cell link e

module _ {cells : List (Option Cell)} {ends : List (Option Ends)} {lists : List (Option (List ℕ))} (holds : Represents cells ends lists) where
  -- no cell stands in two lists
  pub same_list : (list place other_list other_place cell : ℕ)
      → slice_get (cells_in lists list) place ≡ Some cell → slice_get (cells_in lists other_list) other_place ≡ Some cell → list ≡ other_list
  same_list list place other_list other_place cell e f =
      let one = holds.linked list place cell e in
      let other = holds.linked other_list other_place cell f in
      ap (λ (link : Link). link.list) (same_Some _ _ (sym one ∙ other))

  -- nor at two places of one
  same_place_of : (list place other_place cell : ℕ)
      → slice_get (cells_in lists list) place ≡ Some cell → slice_get (cells_in lists list) other_place ≡ Some cell → place ≡ other_place
  same_place_of list zero zero cell e f = refl
  same_place_of list zero (suc other) cell e f =
      let before = some_before (cells_in lists list) other cell f in
      let same = ap (λ (link : Link). link.previous) (same_Some _ _ (sym (holds.linked list zero cell e) ∙ holds.linked list (suc other) cell f)) in
      absurd (none-some before.0 (same ∙ before.1))
  same_place_of list (suc place) zero cell e f =
      let before = some_before (cells_in lists list) place cell e in
      let same = ap (λ (link : Link). link.previous) (same_Some _ _ (sym (holds.linked list zero cell f) ∙ holds.linked list (suc place) cell e)) in
      absurd (none-some before.0 (same ∙ before.1))
  same_place_of list (suc place) (suc other) cell e f =
      let before = some_before (cells_in lists list) place cell e in
      let same = ap (λ (link : Link). link.previous) (same_Some _ _ (sym (holds.linked list (suc place) cell e) ∙ holds.linked list (suc other) cell f)) in
      ap suc (same_place_of list place other before.0 before.1 (sym same ∙ before.1))

  pub same_place : (list place other_list other_place cell : ℕ)
      → slice_get (cells_in lists list) place ≡ Some cell → slice_get (cells_in lists other_list) other_place ≡ Some cell → place ≡ other_place
  same_place list place other_list other_place cell e f =
      let same = same_list list place other_list other_place cell e f in
      same_place_of list place other_place cell e (ap (λ l. slice_get (cells_in lists l) other_place) same ∙ f)

  pub AreDisjoint-Represents : (spare_lists spare_cells : ℕ) → AreDisjoint (record { lists = lists; cells = map is_some cells; spare_lists = spare_lists; spare_cells = spare_cells })
  AreDisjoint-Represents spare_lists spare_cells = record {
    same_list = same_list;
    same_place = same_place;
    used = λ list place cell e. used_from_link_in cells cell _ (holds.linked list place cell e);
  }

  pub length-cells_in : (list : ℕ) → length (cells_in lists list) ≤ length cells
  length-cells_in list =
      length-le_from_IsApart (cells_in lists list) (length cells) (record { place = λ i j x e f. same_place_of list i j x e f })
      (λ i x e. link_in_within cells x _ (holds.linked list i x e))

  -- the lists that a walk finds
  pub lists_from-Represents : lists_from cells ends ≡ lists
  unfolding lists_from
  lists_from-Represents =
      ap (map (option_map (λ (e : Ends). walk (length cells) cells e.first))) holds.ends_known
      ∙ map_back (λ (e : Ends). walk (length cells) cells e.first) ends_of lists
      (λ list xs e.
      let own : cells_in lists list ≡ xs = ap (λ slot. unwrap_or (unwrap_or slot None) []) e in
      walk_is cells (length cells) xs (subst (λ (ys : List ℕ). length ys ≤ length cells) own (length-cells_in list))
      (λ place cell f.
      let held = holds.linked list place cell (ap (λ ys. slice_get ys place) own ∙ f) in
      ap next_in held ∙ ap (λ ys. slice_get ys (suc place)) own))
