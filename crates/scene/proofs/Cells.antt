-- What becomes of the dirty items where a cell is added, marked, unmarked or freed.
use Rattle.std.proofs.Common.{◌≡◌, ◌≢◌, ⊎_elim, ℕ, zero, suc, ◌+◌, ◌<◌, ◌≤◌, Bool, true, false, cond, eqb, List, [], ◌∷◌, ◌++◌, length, set, get_or, Option, Some, None, IsSome, is_some, option_map, unwrap_or, refl, ap, sym, subst, ◌∙◌, arith, eq-eqb, length-set}
use Rattle.std.proofs.lemmas.List.{map-append}
use Rattle.std.specs.List.{slice_get, remove}
use Rattle.std.proofs.lemmas.Option.{none-some, same_Some, slice_get-map, slice_get_within, slice_get_past, slice_get-get_or}
use Rattle.std.proofs.lemmas.Bool.{cases_eq, cases_lt, ne_eqb}
use Rattle.links.specs.Slots.{placed, IsApart}
use Rattle.links.specs.Chains.{Chains, cells_in, HasCell, StandsAt, IsLinked, IsLoose, AreDisjoint}
use Rattle.links.proofs.Places.{slice_get-set_same, slice_get-set_other, slice_get-placed_same, slice_get-placed_other}
use Rattle.scene.specs.Dirty.{marked, without}
use Rattle.scene.specs.Marking.{Marking, owner, owner_in, dirty_in, IsMarking, IsLoosened}
use Rattle.links.proofs.Lists.{without_absent, without_there}
use Rattle.scene.proofs.Lists.{list_any_there, list_any_absent, map-remove, map_agree, from_mapped}

-- a cell with an owner is used, and has the owner's serial
owner_facts : (used : Option Bool) (serial : Option ℕ) (s : ℕ) → cond (unwrap_or used false) serial None ≡ Some s → (used ≡ Some true) × (serial ≡ Some s)
owner_facts None serial s e = absurd (none-some s e)
owner_facts (Some true) serial s e = (refl, e)
owner_facts (Some false) serial s e = absurd (none-some s e)

no_owner : (used : Option Bool) (serial : Option ℕ) → (used ≡ Some true → ⊥) → cond (unwrap_or used false) serial None ≡ None
no_owner None serial unused = refl
no_owner (Some true) serial unused = absurd (unused refl)
no_owner (Some false) serial unused = refl

pub the_owner : (o : Option ℕ) → IsSome o → (s : ℕ) × (o ≡ Some s)
the_owner None some = let e : ◌≡◌ {A = Bool} false true = some in cc
the_owner (Some s) some = (s, refl)

has_within : (slots : List (Option (List ℕ))) (list : ℕ) → IsSome (unwrap_or (slice_get slots list) None) → list < length slots
has_within slots list has =
    ⊎_elim (λ (h : list < length slots). h)
    (λ (h : length slots ≤ list). let none : IsSome {T = List ℕ} None = subst (λ (o : Option (Option (List ℕ))). IsSome (unwrap_or o None)) (slice_get_past slots list h) has in let e : ◌≡◌ {A = Bool} false true = none in cc)
    (cases_lt list (length slots))

-- the owners once a cell is used for another item, or not any more
pub owner-placed : (used : List Bool) (serials : List ℕ) (cell s other : ℕ) → cell ≤ length used → length serials ≡ length used
    → owner_in (placed used cell true) (placed serials cell s) other ≡ cond (eqb other cell) (Some s) (owner_in used serials other)
owner-placed used serials cell s other within sized =
    ⊎_elim
    (λ (e : other ≡ cell).
    ap (owner_in (placed used cell true) (placed serials cell s)) e
    ∙ (ap (λ o. cond (unwrap_or o false) (slice_get (placed serials cell s) cell) None) (slice_get-placed_same used cell true within)
    ∙ (slice_get-placed_same serials cell s (omega arith)
    ∙ ap (λ b. cond b (Some s) (owner_in used serials other)) (sym (eq-eqb other cell e)))))
    (λ (ne : other ≢ cell).
    let differ : eqb other cell ≡ false = ne_eqb other cell ne in
    ap (λ o. cond (unwrap_or o false) (slice_get (placed serials cell s) other) None) (slice_get-placed_other used cell other true within ne)
    ∙ (ap (λ v. cond (unwrap_or (slice_get used other) false) v None) (slice_get-placed_other serials cell other s (omega arith) ne)
    ∙ ap (λ b. cond b (Some s) (owner_in used serials other)) (sym differ)))
    (cases_eq other cell)

pub owner-freed : (used : List Bool) (serials : List ℕ) (cell other : ℕ) → cell < length used
    → owner_in (set used cell false) serials other ≡ cond (eqb other cell) None (owner_in used serials other)
owner-freed used serials cell other within =
    ⊎_elim
    (λ (e : other ≡ cell).
    ap (owner_in (set used cell false) serials) e
    ∙ (ap (λ o. cond (unwrap_or o false) (slice_get serials cell) None) (slice_get-set_same used cell false within)
    ∙ ap (λ b. cond b None (owner_in used serials other)) (sym (eq-eqb other cell e))))
    (λ (ne : other ≢ cell).
    let differ : eqb other cell ≡ false = ne_eqb other cell ne in
    ap (λ o. cond (unwrap_or o false) (slice_get serials other) None) (slice_get-set_other used cell other false ne)
    ∙ ap (λ b. cond b None (owner_in used serials other)) (sym differ))
    (cases_eq other cell)

pub placed_alike : {A B : Type 0} (xs : List A) (ys : List B) (i : ℕ) (x : A) (y : B) → length xs ≡ length ys → length (placed xs i x) ≡ length (placed ys i y)
placed_alike [] [] i x y e = refl
placed_alike [] (z ∷ ys) i x y e = absurd (omega arith)
placed_alike (w ∷ xs) [] i x y e = absurd (omega arith)
placed_alike (w ∷ xs) (z ∷ ys) zero x y e = e
placed_alike (w ∷ xs) (z ∷ ys) (suc i) x y e = let rest = placed_alike xs ys i x y (omega arith) in omega arith

-- what is owned after a cell is freed was owned
was_owned : (b : Bool) (o : Option ℕ) (s : ℕ) → cond b None o ≡ Some s → o ≡ Some s
was_owned true o s e = absurd (none-some s e)
was_owned false o s e = e

-- one more owner that was none, of a cell
one_more : (a b cell item s : ℕ) → {owned : ℕ → Option ℕ} → ((c : ℕ) → owned c ≢ Some item) → (owned a ≡ Some s → owned b ≡ Some s → a ≡ b)
    → cond (eqb a cell) (Some item) (owned a) ≡ Some s → cond (eqb b cell) (Some item) (owned b) ≡ Some s → a ≡ b
one_more a b cell item s {owned} fresh one f g =
    ⊎_elim
    (λ (e : a ≡ cell).
    let same : item ≡ s = same_Some item s (ap (λ t. cond t (Some item) (owned a)) (sym (eq-eqb a cell e)) ∙ f) in
    ⊎_elim (λ (d : b ≡ cell). e ∙ sym d)
    (λ (ne : b ≢ cell). absurd (fresh b ((ap (λ t. cond t (Some item) (owned b)) (sym (ne_eqb b cell ne)) ∙ g) ∙ ap Some (sym same))))
    (cases_eq b cell))
    (λ (ne : a ≢ cell).
    let was : owned a ≡ Some s = ap (λ t. cond t (Some item) (owned a)) (sym (ne_eqb a cell ne)) ∙ f in
    ⊎_elim
    (λ (d : b ≡ cell). let same : item ≡ s = same_Some item s (ap (λ t. cond t (Some item) (owned b)) (sym (eq-eqb b cell d)) ∙ g) in absurd (fresh a (was ∙ ap Some (sym same))))
    (λ (nd : b ≢ cell). one was (ap (λ t. cond t (Some item) (owned b)) (sym (ne_eqb b cell nd)) ∙ g))
    (cases_eq b cell))
    (cases_eq a cell)

module _ {links : Chains} {list : ℕ} {serials : List ℕ} (holds : IsMarking links list serials) where
  abbrev cells : List ℕ
  cells = cells_in links.lists list

  abbrev owned : ℕ → Option ℕ
  owned cell = owner_in links.cells serials cell

  abbrev dirty : List ℕ
  dirty = dirty_in serials cells

  abbrev serial_of : ℕ → ℕ
  serial_of cell = unwrap_or (slice_get serials cell) 0

  -- the item of a cell
  facts : (cell s : ℕ) → owned cell ≡ Some s → (slice_get links.cells cell ≡ Some true) × (slice_get serials cell ≡ Some s)
  facts cell s own = owner_facts (slice_get links.cells cell) (slice_get serials cell) s own

  pub serial_is : (cell s : ℕ) → owned cell ≡ Some s → serial_of cell ≡ s
  serial_is cell s own = ap (λ o. unwrap_or o 0) (facts cell s own).1

  pub has_cell : (cell s : ℕ) → owned cell ≡ Some s → HasCell links cell
  has_cell cell s own = (facts cell s own).0

  pub cell_within : (place cell : ℕ) → slice_get cells place ≡ Some cell → cell < length serials
  cell_within place cell e =
      let within : cell < length links.cells = slice_get_within links.cells cell true (holds.disjoint.used list place cell e) in
      let sized = holds.sized in omega arith

  -- a cell of the list is an item's
  owned_there : (place cell : ℕ) → slice_get cells place ≡ Some cell → owned cell ≡ Some (serial_of cell)
  owned_there place cell e =
      let stored : slice_get serials cell ≡ Some (get_or serials cell 0) = slice_get-get_or serials cell 0 (cell_within place cell e) in
      ap (λ o. cond (unwrap_or o false) (slice_get serials cell) None) (holds.disjoint.used list place cell e)
      ∙ (stored ∙ ap Some (sym (ap (λ o. unwrap_or o 0) stored)))

  pub dirty_at : (place : ℕ) → slice_get dirty place ≡ option_map serial_of (slice_get cells place)
  dirty_at place = slice_get-map serial_of cells place

  -- an item's cell has its place
  place_of : (place cell s : ℕ) → owned cell ≡ Some s → slice_get cells place ≡ Some cell → slice_get dirty place ≡ Some s
  place_of place cell s own e = dirty_at place ∙ (ap (option_map serial_of) e ∙ ap Some (serial_is cell s own))

  pub cell_of : (place cell s : ℕ) → owned cell ≡ Some s → slice_get dirty place ≡ Some s → slice_get cells place ≡ Some cell
  cell_of place cell s own e =
      let found = from_mapped serial_of (slice_get cells place) s (sym (dirty_at place) ∙ e) in
      let same : found.0 ≡ cell = holds.one_cell found.0 cell s (owned_there place found.0 found.1.0 ∙ ap Some found.1.1) own in
      found.1.0 ∙ ap Some same

  pub dirty_apart : IsApart dirty
  dirty_apart = record {
    place = λ i j s e f.
        let found = from_mapped serial_of (slice_get cells i) s (sym (dirty_at i) ∙ e) in
        let own : owned found.0 ≡ Some s = owned_there i found.0 found.1.0 ∙ ap Some found.1.1 in
        holds.disjoint.same_place list i list j found.0 found.1.0 (cell_of j found.0 s own f);
  }

  pub dirty_owned : (place s : ℕ) → slice_get dirty place ≡ Some s → (cell : ℕ) × (owned cell ≡ Some s)
  dirty_owned place s e =
      let found = from_mapped serial_of (slice_get cells place) s (sym (dirty_at place) ∙ e) in
      (found.0, owned_there place found.0 found.1.0 ∙ ap Some found.1.1)

  -- the one list has other cells
  record Relists (new : Chains) (xs : List ℕ) : Type 0 where
    pub marking : IsMarking new list serials
    pub cells_are : cells_in new.lists list ≡ xs
    pub same_cells : new.cells ≡ links.cells

  relists : (new : Chains) (xs : List ℕ) → new ≡ record links { lists = set links.lists list (Some xs) } → AreDisjoint new → Relists new xs
  relists new xs e apart =
      let within = has_within links.lists list holds.has_list in
      let lists : new.lists ≡ set links.lists list (Some xs) = ap (λ (c : Chains). c.lists) e in
      let same : new.cells ≡ links.cells = ap (λ (c : Chains). c.cells) e in
      let own : slice_get new.lists list ≡ Some (Some xs) = ap (λ ls. slice_get ls list) lists ∙ slice_get-set_same links.lists list (Some xs) within in
      record {
        marking = record {
          has_list = ap (λ o. is_some (unwrap_or o None)) own;
          only_list = λ other place cell stands.
              ⊎_elim (λ (is : other ≡ list). is)
              (λ (ne : other ≢ list).
              holds.only_list other place cell
              (ap (λ o. slice_get (unwrap_or (unwrap_or o None) []) place) (sym (ap (λ ls. slice_get ls other) lists ∙ slice_get-set_other links.lists list other (Some xs) ne)) ∙ stands))
              (cases_eq other list);
          sized = holds.sized ∙ ap length (sym same);
          one_cell = λ a b s f g. holds.one_cell a b s (ap (λ used. owner_in used serials a) (sym same) ∙ f) (ap (λ used. owner_in used serials b) (sym same) ∙ g);
          disjoint = apart;
        };
        cells_are = ap (λ o. unwrap_or (unwrap_or o None) []) own;
        same_cells = same;
      }

  -- a cell in a list is in the one
  there : (cell : ℕ) → IsLinked links cell → (place : ℕ) × (slice_get cells place ≡ Some cell)
  there cell linked =
      (linked.1.0, ap (λ l. slice_get (cells_in links.lists l) linked.1.0) (sym (holds.only_list linked.0 linked.1.0 cell linked.1.1)) ∙ linked.1.1)

  absent : (cell s : ℕ) → owned cell ≡ Some s → IsLoose links cell → (place : ℕ) → slice_get dirty place ≢ Some s
  absent cell s own loose place e = loose list place (cell_of place cell s own e)

  -- an item that is marked already, and one that is marked now
  pub mark_again : (cell s : ℕ) → owned cell ≡ Some s → IsLinked links cell → dirty ≡ marked s dirty
  mark_again cell s own linked =
      let at = there cell linked in
      ap (λ b. cond b dirty (dirty ++ s ∷ [])) (sym (list_any_there dirty at.0 s (place_of at.0 cell s own at.1)))

  pub record Marks (new : Chains) (cell : ℕ) : Type 0 where
    pub marking : IsMarking new list serials
    pub same_cells : new.cells ≡ links.cells
    pub dirty_is : (s : ℕ) → owned cell ≡ Some s → dirty_in serials (cells_in new.lists list) ≡ marked s dirty

  pub mark_first : (new : Chains) (cell : ℕ) → IsLoose links cell → new ≡ record links { lists = set links.lists list (Some (cells ++ cell ∷ [])) } → AreDisjoint new → Marks new cell
  mark_first new cell loose e apart =
      let after = relists new (cells ++ cell ∷ []) e apart in
      record {
        marking = after.marking;
        same_cells = after.same_cells;
        dirty_is = λ s own.
            ap (dirty_in serials) after.cells_are
            ∙ (map-append serial_of cells (cell ∷ [])
            ∙ (ap (λ x. dirty ++ x ∷ []) (serial_is cell s own)
            ∙ ap (λ b. cond b dirty (dirty ++ s ∷ [])) (sym (list_any_absent dirty s (absent cell s own loose)))));
      }

  -- an item that is unmarked
  pub record Unmarks (new : Chains) (cell : ℕ) : Type 0 where
    pub marking : IsMarking new list serials
    pub same_cells : new.cells ≡ links.cells
    pub dirty_is : (s : ℕ) → owned cell ≡ Some s → dirty_in serials (cells_in new.lists list) ≡ without s dirty

  unmark_there : (new : Chains) (cell place : ℕ) → slice_get cells place ≡ Some cell → new ≡ record links { lists = set links.lists list (Some (remove cells place)) } → AreDisjoint new → Unmarks new cell
  unmark_there new cell place at e apart =
      let after = relists new (remove cells place) e apart in
      record {
        marking = after.marking;
        same_cells = after.same_cells;
        dirty_is = λ s own.
            ap (dirty_in serials) after.cells_are
            ∙ (map-remove serial_of cells place
            ∙ sym (without_there dirty place s (place_of place cell s own at) (λ j f. dirty_apart.place j place s f (place_of place cell s own at))));
      }

  unmark_absent : (new : Chains) (cell : ℕ) → IsLoose links cell → new ≡ links → Unmarks new cell
  unmark_absent new cell loose e =
      subst (λ (c : Chains). Unmarks c cell) (sym e)
      (record {
        marking = holds;
        same_cells = refl;
        dirty_is = λ s own. sym (without_absent dirty s (absent cell s own loose));
      })

  pub unmark : (new : Chains) (cell : ℕ) → IsLoosened links new cell → AreDisjoint new → Unmarks new cell
  unmark new cell loosened apart =
      ⊎_elim
      (λ (left : IsLoose links cell × (new ≡ links)). unmark_absent new cell left.0 left.1)
      (λ (taken : (other place : ℕ) × (StandsAt links other place cell × (new ≡ record links { lists = set links.lists other (Some (remove (cells_in links.lists other) place)) }))).
      let own_list = holds.only_list taken.0 taken.1 cell taken.2.0 in
      unmark_there new cell taken.1
      (ap (λ l. slice_get (cells_in links.lists l) taken.1) (sym own_list) ∙ taken.2.0)
      (taken.2.1 ∙ ap (λ (l : ℕ). record links { lists = set links.lists l (Some (remove (cells_in links.lists l) taken.1)) }) own_list)
      apart)
      loosened

  -- a cell that is freed
  pub free : (new : Chains) (cell : ℕ) → HasCell links cell → new.lists ≡ links.lists → new.cells ≡ set links.cells cell false → AreDisjoint new → IsMarking new list serials
  free new cell used lists freed apart =
      let within : cell < length links.cells = slice_get_within links.cells cell true used in
      let owner_now : (a s : ℕ) → owner_in new.cells serials a ≡ Some s → owned a ≡ Some s =
      λ a s f. was_owned (eqb a cell) (owned a) s (sym (ap (λ u. owner_in u serials a) freed ∙ owner-freed links.cells serials cell a within) ∙ f) in
      record {
        has_list = ap (λ (ls : List (Option (List ℕ))). is_some (unwrap_or (slice_get ls list) None)) lists ∙ holds.has_list;
        only_list = λ other place c stands. holds.only_list other place c (ap (λ (ls : List (Option (List ℕ))). slice_get (cells_in ls other) place) (sym lists) ∙ stands);
        sized = holds.sized ∙ sym (ap length freed ∙ length-set links.cells cell false);
        one_cell = λ a b s f g. holds.one_cell a b s (owner_now a s f) (owner_now b s g);
        disjoint = apart;
      }

  -- a cell that is added for an item without one
  pub add : (new : Chains) (more : List ℕ) (cell item : ℕ) → ¬ HasCell links cell → cell ≤ length links.cells → new.lists ≡ links.lists → new.cells ≡ placed links.cells cell true
      → more ≡ placed serials cell item → AreDisjoint new → ((c : ℕ) → owned c ≢ Some item) → IsMarking new list more
  add new more cell item unused within lists added stored apart fresh =
      let owner_now : (a s : ℕ) → owner_in new.cells more a ≡ Some s → cond (eqb a cell) (Some item) (owned a) ≡ Some s =
      λ a s f. sym (ap (λ u. owner_in u more a) added ∙ (ap (λ ss. owner_in (placed links.cells cell true) ss a) stored ∙ owner-placed links.cells serials cell item a within holds.sized)) ∙ f in
      record {
        has_list = ap (λ (ls : List (Option (List ℕ))). is_some (unwrap_or (slice_get ls list) None)) lists ∙ holds.has_list;
        only_list = λ other place c stands. holds.only_list other place c (ap (λ (ls : List (Option (List ℕ))). slice_get (cells_in ls other) place) (sym lists) ∙ stands);
        sized = ap length stored ∙ (placed_alike serials links.cells cell item true holds.sized ∙ sym (ap length added));
        one_cell = λ a b s f g. one_more a b cell item s (λ c h. fresh c h) (holds.one_cell a b s) (owner_now a s f) (owner_now b s g);
        disjoint = apart;
      }

  pub dirty_kept : (new : Chains) (more : List ℕ) (cell item : ℕ) → ¬ HasCell links cell → cell ≤ length links.cells → new.lists ≡ links.lists
      → more ≡ placed serials cell item → dirty_in more (cells_in new.lists list) ≡ dirty
  dirty_kept new more cell item unused within lists stored =
      ap (λ (ls : List (Option (List ℕ))). dirty_in more (cells_in ls list)) lists
      ∙ (ap (λ ss. dirty_in ss cells) stored
      ∙ map_agree (λ c. unwrap_or (slice_get (placed serials cell item) c) 0) serial_of cells (λ place c e.
      let ne : c ≢ cell = λ is. unused (subst (λ n. HasCell links n) is (holds.disjoint.used list place c e)) in
      let sized = holds.sized in
      ap (λ o. unwrap_or o 0) (slice_get-placed_other serials cell c item (omega arith) ne)))

  -- what contracts see after each call
  abbrev seen : Marking
  seen = record { used = links.cells; serials = serials; dirty = dirty }

  abbrev seen_after : Chains → Marking
  seen_after new = record { used = new.cells; serials = serials; dirty = dirty_in serials (cells_in new.lists list) }

  seen_changed : (new : Chains) (xs : List ℕ) → new.cells ≡ links.cells → dirty_in serials (cells_in new.lists list) ≡ xs → seen_after new ≡ record { used = links.cells; serials = serials; dirty = xs }
  seen_changed new xs same e =
      ap (λ (u : List Bool). record { used = u; serials = serials; dirty = dirty_in serials (cells_in new.lists list) }) same
      ∙ ap (λ (d : List ℕ). record { used = links.cells; serials = serials; dirty = d }) e

  pub seen_marked : (was : Marking) → seen ≡ was → (new : Chains) (cell : ℕ) → Marks new cell → (s : ℕ) → owner was cell ≡ Some s → seen_after new ≡ record was { dirty = marked s was.dirty }
  seen_marked was e new cell after s own =
      subst (λ (m : Marking). owner m cell ≡ Some s → seen_after new ≡ record m { dirty = marked s m.dirty }) e
      (λ o. seen_changed new (marked s dirty) after.same_cells (after.dirty_is s o)) own

  pub seen_again : (was : Marking) → seen ≡ was → (cell : ℕ) → IsLinked links cell → (s : ℕ) → owner was cell ≡ Some s → was ≡ record was { dirty = marked s was.dirty }
  seen_again was e cell linked s own =
      subst (λ (m : Marking). owner m cell ≡ Some s → m ≡ record m { dirty = marked s m.dirty }) e
      (λ o. ap (λ (d : List ℕ). record { used = links.cells; serials = serials; dirty = d }) (mark_again cell s o linked)) own

  pub seen_unmarked : (was : Marking) → seen ≡ was → (new : Chains) (cell : ℕ) → Unmarks new cell → (s : ℕ) → owner was cell ≡ Some s → seen_after new ≡ record was { dirty = without s was.dirty }
  seen_unmarked was e new cell after s own =
      subst (λ (m : Marking). owner m cell ≡ Some s → seen_after new ≡ record m { dirty = without s m.dirty }) e
      (λ o. seen_changed new (without s dirty) after.same_cells (after.dirty_is s o)) own

  pub seen_dirty : (was : Marking) → seen ≡ was → (new : Chains) (cell : ℕ) → Unmarks new cell → (s : ℕ) → owner was cell ≡ Some s → dirty_in serials (cells_in new.lists list) ≡ without s was.dirty
  seen_dirty was e new cell after s own =
      subst (λ (m : Marking). owner m cell ≡ Some s → dirty_in serials (cells_in new.lists list) ≡ without s m.dirty) e (λ o. after.dirty_is s o) own

  pub seen_freed : (was : Marking) → seen ≡ was → (new : Chains) (cell s : ℕ) → owner was cell ≡ Some s → new.cells ≡ set links.cells cell false → (other : ℕ)
      → owner_in new.cells serials other ≡ cond (eqb other cell) None (owner was other)
  seen_freed was e new cell s own freed other =
      subst (λ (m : Marking). owner m cell ≡ Some s → owner_in new.cells serials other ≡ cond (eqb other cell) None (owner m other)) e
      (λ o.
      let used = has_cell cell s o in
      ap (λ u. owner_in u serials other) freed ∙ owner-freed links.cells serials cell other (slice_get_within links.cells cell true used))
      own

  pub seen_apart : (was : Marking) → seen ≡ was → IsApart was.dirty
  seen_apart was e = subst (λ (m : Marking). IsApart m.dirty) e dirty_apart

  -- the item at a place
  pub read_at : (was : Marking) → seen ≡ was → (place cell v : ℕ) → slice_get cells place ≡ Some cell → v ≡ get_or serials cell v → Some v ≡ slice_get was.dirty place
  read_at was e place cell v at is =
      subst (λ (m : Marking). Some v ≡ slice_get m.dirty place) e
      (let stored : slice_get serials cell ≡ Some v = slice_get-get_or serials cell v (cell_within place cell at) ∙ ap Some (sym is) in
      sym (dirty_at place ∙ (ap (option_map serial_of) at ∙ ap (λ o. Some (unwrap_or o 0)) stored)))

  pub no_more : (was : Marking) → seen ≡ was → (cell : ℕ) → ((other place : ℕ) → StandsAt links other place cell → None ≡ slice_get (cells_in links.lists other) (place + 1))
      → (s place : ℕ) → owner was cell ≡ Some s → slice_get was.dirty place ≡ Some s → None ≡ slice_get was.dirty (place + 1)
  no_more was e cell next s place own at =
      subst (λ (m : Marking). owner m cell ≡ Some s → slice_get m.dirty place ≡ Some s → None ≡ slice_get m.dirty (place + 1)) e
      (λ o a. sym (dirty_at (place + 1) ∙ ap (option_map serial_of) (sym (next list place (cell_of place cell s o a))))) own at

  pub one_more_at : (was : Marking) → seen ≡ was → (cell following v : ℕ) → ((other place : ℕ) → StandsAt links other place cell → Some following ≡ slice_get (cells_in links.lists other) (place + 1))
      → v ≡ get_or serials following v → (s place : ℕ) → owner was cell ≡ Some s → slice_get was.dirty place ≡ Some s → Some v ≡ slice_get was.dirty (place + 1)
  one_more_at was e cell following v next is s place own at =
      let here : slice_get cells place ≡ Some cell = subst (λ (m : Marking). owner m cell ≡ Some s → slice_get m.dirty place ≡ Some s → slice_get cells place ≡ Some cell) e (λ o a. cell_of place cell s o a) own at in
      read_at was e (place + 1) following v (sym (next list place here)) is

  -- a cell that comes after another is an item's
  pub following_within : (cell following : ℕ) → ((other place : ℕ) → StandsAt links other place cell → Some following ≡ slice_get (cells_in links.lists other) (place + 1))
      → (IsLoose links cell → Some following ≡ None) → following < length serials
  following_within cell following next loose =
      ⊎_elim (λ (h : following < length serials). h)
      (λ (h : length serials ≤ following).
      absurd (none-some following (sym (loose (λ other place stands.
      let own = holds.only_list other place cell stands in
      let within = cell_within (place + 1) following (ap (λ l. slice_get (cells_in links.lists l) (place + 1)) (sym own) ∙ sym (next other place stands)) in
      omega arith)))))
      (cases_lt following (length serials))

  -- a cell for one more item
  pub seen_placed : (was : Marking) → seen ≡ was → (used : List Bool) (more : List ℕ) (cell item : ℕ) → cell ≤ length links.cells → used ≡ placed links.cells cell true
      → more ≡ placed serials cell item → (other : ℕ) → owner_in used more other ≡ cond (eqb other cell) (Some item) (owner was other)
  seen_placed was e used more cell item within added stored other =
      subst (λ (m : Marking). owner_in used more other ≡ cond (eqb other cell) (Some item) (owner m other)) e
      (ap (λ u. owner_in u more other) added ∙ (ap (λ ss. owner_in (placed links.cells cell true) ss other) stored ∙ owner-placed links.cells serials cell item other within holds.sized))

  pub vacant : (was : Marking) → seen ≡ was → (cell : ℕ) → ¬ HasCell links cell → owner was cell ≡ None
  vacant was e cell unused = subst (λ (m : Marking). owner m cell ≡ None) e (no_owner (slice_get links.cells cell) (slice_get serials cell) unused)

  pub dirty_placed : (was : Marking) → seen ≡ was → (new : Chains) (more : List ℕ) (cell item : ℕ) → ¬ HasCell links cell → cell ≤ length links.cells → new.lists ≡ links.lists
      → more ≡ placed serials cell item → dirty_in more (cells_in new.lists list) ≡ was.dirty
  dirty_placed was e new more cell item unused within lists stored =
      subst (λ (m : Marking). dirty_in more (cells_in new.lists list) ≡ m.dirty) e (dirty_kept new more cell item unused within lists stored)

  pub seen_has : (was : Marking) → seen ≡ was → (cell : ℕ) → IsSome (owner was cell) → HasCell links cell
  seen_has was e cell some =
      let own = the_owner (owner was cell) some in
      subst (λ (m : Marking). owner m cell ≡ Some own.0 → HasCell links cell) e (has_cell cell own.0) own.1
