-- Items, marks and the room for released keys stand together after each change.
use Rattle.std.proofs.Common.{◌≡◌, ◌≢◌, ⊎_elim, ℕ, ◌+◌, ◌*◌, ◌≤◌, Bool, true, false, cond, eqb, length, [], Option, None, Some, IsSome, is_some, refl, ap, sym, subst, ◌∙◌, arith, eq-eqb}
use Rattle.std.specs.List.{slice_get}
use Rattle.std.specs.Prelude.{IfSome}
use Rattle.std.specs.FinMap as map
use Rattle.std.proofs.lemmas.Option.{none-some, same_Some}
use Rattle.std.proofs.lemmas.Bool.{cases_eq, ne_eqb}
use Rattle.std.proofs.lemmas.Bool.Decides.{nat_tests}
use Rattle.std.specs.Ordering.{nat_cmp}
use Rattle.scene.specs.Dirty.{marked, without}
use Rattle.scene.specs.Marking.{Marking, owner}
use Rattle.scene.specs.Picture.{Item, StoredItems}
use Rattle.scene.specs.Holding.{IsHeld}
use Rattle.links.proofs.Lists.{without_absent, left}
use Rattle.scene.proofs.Lists.{marked_there}
use Rattle.scene.proofs.Maps.{inserted_here, inserted_apart, removed_here, removed_apart}

is_none : {A : Type 0} (o : Option A) → is_some o ≡ false → o ≡ None
is_none None e = refl
is_none (Some x) e = let no : true ≡ false = e in cc

the_item : (o : Option Item) → IsSome o → (item : Item) × (o ≡ Some item)
the_item None some = let no : false ≡ true = some in cc
the_item (Some item) some = (item, refl)

-- nothing is held
pub held_none : (stored : StoredItems) (marks : Marking) (released capacity : ℕ) → stored ≡ record { items = map.empty; cells = map.empty; count = 0 } → marks ≡ record { used = []; serials = []; dirty = [] }
    → released ≡ 0 → IsHeld stored marks released capacity
held_none stored marks released capacity e f g = record {
  owned = λ serial cell h. absurd (none-some cell (sym (ap (λ (s : StoredItems). map.get s.cells serial) e ∙ map.get-empty nat_cmp serial) ∙ h));
  celled = λ serial cell h. absurd (none-some serial (sym (ap (λ (m : Marking). owner m cell) f) ∙ h));
  alike = λ serial.
      ap (λ (s : StoredItems). is_some (map.get s.items serial)) e
      ∙ (ap is_some (map.get-empty {X = Item} nat_cmp serial) ∙ (ap is_some (sym (map.get-empty {X = ℕ} nat_cmp serial)) ∙ ap (λ (s : StoredItems). is_some (map.get s.cells serial)) (sym e)));
  known = λ place serial h. absurd (none-some serial (sym (ap (λ (m : Marking). slice_get m.dirty place) f) ∙ h));
  fits = λ serial item h. absurd (none-some item (sym (ap (λ (s : StoredItems). map.get s.items serial) e ∙ map.get-empty nat_cmp serial) ∙ h));
  room = let none : stored.count ≡ 0 = ap (λ (s : StoredItems). s.count) e in omega arith;
}

eqb_same : (a b : ℕ) → eqb a b ≡ true → a ≡ b
eqb_same a b e = grind (arith, nat_tests)

module _ {stored : StoredItems} {marks : Marking} {released capacity : ℕ} (held : IsHeld stored marks released capacity) where
  -- an item that isn't there has no cell, and isn't dirty
  pub no_cell : (serial : ℕ) → map.get stored.items serial ≡ None → map.get stored.cells serial ≡ None
  no_cell serial none = is_none (map.get stored.cells serial) (sym (held.alike serial) ∙ ap is_some none)

  pub no_owner : (serial cell : ℕ) → map.get stored.items serial ≡ None → owner marks cell ≢ Some serial
  no_owner serial cell none own = none-some cell (sym (no_cell serial none) ∙ held.celled serial cell own)

  pub not_dirty : (serial place : ℕ) → map.get stored.items serial ≡ None → slice_get marks.dirty place ≢ Some serial
  not_dirty serial place none at = let no : false ≡ true = ap is_some (sym none) ∙ held.known place serial at in cc

  pub has_owner : (serial cell : ℕ) → Some cell ≡ map.get stored.cells serial → owner marks cell ≡ Some serial
  has_owner serial cell e = held.owned serial cell (sym e)

  -- other items are dirty, or the room has grown
  pub held_marks : (after : Marking) (room : ℕ) → capacity ≤ room → ((cell : ℕ) → owner after cell ≡ owner marks cell)
      → ((place serial : ℕ) → slice_get after.dirty place ≡ Some serial → IsSome (map.get stored.items serial)) → IsHeld stored after released room
  held_marks after room more same known = record {
    owned = λ serial cell e. same cell ∙ held.owned serial cell e;
    celled = λ serial cell own. held.celled serial cell (sym (same cell) ∙ own);
    alike = held.alike;
    known = known;
    fits = held.fits;
    room = let enough = held.room in omega arith;
  }

  pub held_marked : (after : Marking) (serial : ℕ) → IsSome (map.get stored.items serial) → after ≡ record marks { dirty = marked serial marks.dirty } → IsHeld stored after released capacity
  held_marked after serial has e =
      held_marks after capacity (omega arith) (λ cell. ap (λ (m : Marking). owner m cell) e)
      (λ place other at.
      ⊎_elim (λ (there : (j : ℕ) × (slice_get marks.dirty j ≡ Some other)). held.known there.0 other there.1)
      (λ (is : other ≡ serial). subst (λ s. IsSome (map.get stored.items s)) (sym is) has)
      (marked_there marks.dirty serial place other _ (ap (λ (m : Marking). slice_get m.dirty place) (sym e) ∙ at)))

  pub held_unmarked : (after : Marking) (serial : ℕ) → after ≡ record marks { dirty = without serial marks.dirty } → IsHeld stored after released capacity
  held_unmarked after serial e =
      held_marks after capacity (omega arith) (λ cell. ap (λ (m : Marking). owner m cell) e)
      (λ place other at.
      let found = left marks.dirty serial place other (ap (λ (m : Marking). slice_get m.dirty place) (sym e) ∙ at) in
      held.known found.0 other found.1.0)

  -- an item that is there has changed
  pub held_changed : (after : StoredItems) (serial : ℕ) (item : Item) → IsSome (map.get stored.items serial) → item.paint.under ≤ length item.paint.children
      → after.items ≡ map.insert stored.items serial item → after.cells ≡ stored.cells → after.count ≡ stored.count → IsHeld after marks released capacity
  held_changed after serial item has under items cells count =
      let at_serial : map.get after.items serial ≡ Some item = ap (λ (m : map.FinMap nat_cmp Item). map.get m serial) items ∙ inserted_here stored.items serial item in
      let elsewhere : (other : ℕ) → other ≢ serial → map.get after.items other ≡ map.get stored.items other = λ other ne.
      ap (λ (m : map.FinMap nat_cmp Item). map.get m other) items ∙ inserted_apart stored.items serial item other ne in
      record {
        owned = λ other cell e. held.owned other cell (ap (λ (m : map.FinMap nat_cmp ℕ). map.get m other) (sym cells) ∙ e);
        celled = λ other cell own. ap (λ (m : map.FinMap nat_cmp ℕ). map.get m other) cells ∙ held.celled other cell own;
        alike = λ other.
            ⊎_elim
            (λ (is : other ≡ serial).
            ap (λ s. is_some (map.get after.items s)) is
            ∙ (ap is_some at_serial ∙ (sym has ∙ (held.alike serial ∙ (ap (λ s. is_some (map.get stored.cells s)) (sym is) ∙ ap (λ (m : map.FinMap nat_cmp ℕ). is_some (map.get m other)) (sym cells))))))
            (λ (ne : other ≢ serial). ap is_some (elsewhere other ne) ∙ (held.alike other ∙ ap (λ (m : map.FinMap nat_cmp ℕ). is_some (map.get m other)) (sym cells)))
            (cases_eq other serial);
        known = λ place other at.
            ⊎_elim
            (λ (is : other ≡ serial). ap (λ s. is_some (map.get after.items s)) is ∙ ap is_some at_serial)
            (λ (ne : other ≢ serial). ap is_some (elsewhere other ne) ∙ held.known place other at)
            (cases_eq other serial);
        fits = λ other it e.
            ⊎_elim
            (λ (is : other ≡ serial).
            subst (λ (i : Item). i.paint.under ≤ length i.paint.children) (same_Some item it (sym at_serial ∙ (ap (λ s. map.get after.items s) (sym is) ∙ e))) under)
            (λ (ne : other ≢ serial). held.fits other it (sym (elsewhere other ne) ∙ e))
            (cases_eq other serial);
        room = let enough = held.room in omega arith;
      }

  pub held_changed_by : (after : StoredItems) (serial : ℕ) (change : Item → Item) → IsSome (map.get stored.items serial)
      → ((item : Item) → map.get stored.items serial ≡ Some item → (change item).paint.under ≤ length (change item).paint.children)
      → IfSome (map.get stored.items serial) (λ item. after.items ≡ map.insert stored.items serial (change item)) → after.cells ≡ stored.cells → after.count ≡ stored.count → IsHeld after marks released capacity
  held_changed_by after serial change has under items cells count =
      let there = the_item (map.get stored.items serial) has in
      held_changed after serial (change there.0) has (under there.0 there.1)
      (subst (λ (o : Option Item). IfSome o (λ item. after.items ≡ map.insert stored.items serial (change item))) there.1 items) cells count

  -- an item is added with a cell of its own
  pub held_added : (after : StoredItems) (now : Marking) (len room serial cell : ℕ) (item : Item) → len ≡ released → map.get stored.items serial ≡ None → item.paint.under ≤ length item.paint.children
      → after.items ≡ map.insert stored.items serial item → after.cells ≡ map.insert stored.cells serial cell → after.count ≡ stored.count + 1 → len + 6 * after.count ≤ room
      → ((other : ℕ) → owner now other ≡ cond (eqb other cell) (Some serial) (owner marks other)) → owner marks cell ≡ None → now.dirty ≡ marks.dirty → IsHeld after now len room
  held_added after now len room serial cell item same_len none under items cells count enough owns vacant dirty =
      let item_at : map.get after.items serial ≡ Some item = ap (λ (m : map.FinMap nat_cmp Item). map.get m serial) items ∙ inserted_here stored.items serial item in
      let item_else : (other : ℕ) → other ≢ serial → map.get after.items other ≡ map.get stored.items other = λ other ne.
      ap (λ (m : map.FinMap nat_cmp Item). map.get m other) items ∙ inserted_apart stored.items serial item other ne in
      let cell_at : map.get after.cells serial ≡ Some cell = ap (λ (m : map.FinMap nat_cmp ℕ). map.get m serial) cells ∙ inserted_here stored.cells serial cell in
      let cell_else : (other : ℕ) → other ≢ serial → map.get after.cells other ≡ map.get stored.cells other = λ other ne.
      ap (λ (m : map.FinMap nat_cmp ℕ). map.get m other) cells ∙ inserted_apart stored.cells serial cell other ne in
      let own_at : owner now cell ≡ Some serial = owns cell ∙ ap (λ b. cond b (Some serial) (owner marks cell)) (eq-eqb cell cell refl) in
      let own_else : (other : ℕ) → other ≢ cell → owner now other ≡ owner marks other = λ other ne. owns other ∙ ap (λ b. cond b (Some serial) (owner marks other)) (ne_eqb other cell ne) in
      record {
        owned = λ other c e.
            ⊎_elim
            (λ (is : other ≡ serial).
            let same : cell ≡ c = same_Some cell c (sym cell_at ∙ (ap (λ s. map.get after.cells s) (sym is) ∙ e)) in
            ap (owner now) (sym same) ∙ (own_at ∙ ap Some (sym is)))
            (λ (ne : other ≢ serial).
            let own = held.owned other c (sym (cell_else other ne) ∙ e) in
            own_else c (λ is. none-some other (sym vacant ∙ (ap (owner marks) (sym is) ∙ own))) ∙ own)
            (cases_eq other serial);
        celled = λ other c own.
            ⊎_elim
            (λ (is : c ≡ cell).
            let same : serial ≡ other = same_Some serial other (sym own_at ∙ (ap (owner now) (sym is) ∙ own)) in
            ap (λ s. map.get after.cells s) (sym same) ∙ (cell_at ∙ ap Some (sym is)))
            (λ (ne : c ≢ cell).
            let had : map.get stored.cells other ≡ Some c = held.celled other c (sym (own_else c ne) ∙ own) in
            cell_else other (λ is. none-some c (sym (no_cell serial none) ∙ (ap (λ s. map.get stored.cells s) (sym is) ∙ had))) ∙ had)
            (cases_eq c cell);
        alike = λ other.
            ⊎_elim
            (λ (is : other ≡ serial). ap (λ s. is_some (map.get after.items s)) is ∙ (ap is_some item_at ∙ (ap is_some (sym cell_at) ∙ ap (λ s. is_some (map.get after.cells s)) (sym is))))
            (λ (ne : other ≢ serial). ap is_some (item_else other ne) ∙ (held.alike other ∙ ap is_some (sym (cell_else other ne))))
            (cases_eq other serial);
        known = λ place other at.
            let had = held.known place other (ap (λ xs. slice_get xs place) (sym dirty) ∙ at) in
            ⊎_elim
            (λ (is : other ≡ serial). ap (λ s. is_some (map.get after.items s)) is ∙ ap is_some item_at)
            (λ (ne : other ≢ serial). ap is_some (item_else other ne) ∙ had)
            (cases_eq other serial);
        fits = λ other it e.
            ⊎_elim
            (λ (is : other ≡ serial).
            subst (λ (i : Item). i.paint.under ≤ length i.paint.children) (same_Some item it (sym item_at ∙ (ap (λ s. map.get after.items s) (sym is) ∙ e))) under)
            (λ (ne : other ≢ serial). held.fits other it (sym (item_else other ne) ∙ e))
            (cases_eq other serial);
        room = enough;
      }

  -- an item is taken away with its cell
  pub held_removed : (after : StoredItems) (now : Marking) (len room serial cell : ℕ) → Some cell ≡ map.get stored.cells serial
      → after.items ≡ map.remove stored.items serial → after.cells ≡ map.remove stored.cells serial → after.count + 1 ≡ stored.count → len ≤ released + 6 → room ≡ capacity
      → ((other : ℕ) → owner now other ≡ cond (eqb other cell) None (owner marks other)) → now.dirty ≡ without serial marks.dirty → IsHeld after now len room
  held_removed after now len room serial cell has items cells count few same_room owns dirty =
      let item_at : map.get after.items serial ≡ None = ap (λ (m : map.FinMap nat_cmp Item). map.get m serial) items ∙ removed_here stored.items serial in
      let item_else : (other : ℕ) → other ≢ serial → map.get after.items other ≡ map.get stored.items other = λ other ne.
      ap (λ (m : map.FinMap nat_cmp Item). map.get m other) items ∙ removed_apart stored.items serial other ne in
      let cell_at : map.get after.cells serial ≡ None = ap (λ (m : map.FinMap nat_cmp ℕ). map.get m serial) cells ∙ removed_here stored.cells serial in
      let cell_else : (other : ℕ) → other ≢ serial → map.get after.cells other ≡ map.get stored.cells other = λ other ne.
      ap (λ (m : map.FinMap nat_cmp ℕ). map.get m other) cells ∙ removed_apart stored.cells serial other ne in
      let own : owner marks cell ≡ Some serial = has_owner serial cell has in
      let own_at : owner now cell ≡ None = owns cell ∙ ap (λ b. cond b None (owner marks cell)) (eq-eqb cell cell refl) in
      let own_else : (other : ℕ) → other ≢ cell → owner now other ≡ owner marks other = λ other ne. owns other ∙ ap (λ b. cond b None (owner marks other)) (ne_eqb other cell ne) in
      record {
        owned = λ other c e.
            ⊎_elim
            (λ (is : other ≡ serial). absurd (none-some c (sym cell_at ∙ (ap (λ s. map.get after.cells s) (sym is) ∙ e))))
            (λ (ne : other ≢ serial).
            let had = held.owned other c (sym (cell_else other ne) ∙ e) in
            own_else c (λ is. ne (same_Some other serial (sym had ∙ (ap (owner marks) is ∙ own)))) ∙ had)
            (cases_eq other serial);
        celled = λ other c e.
            ⊎_elim
            (λ (is : c ≡ cell). absurd (none-some other (sym own_at ∙ (ap (owner now) (sym is) ∙ e))))
            (λ (ne : c ≢ cell).
            let had : map.get stored.cells other ≡ Some c = held.celled other c (sym (own_else c ne) ∙ e) in
            cell_else other (λ is. ne (same_Some c cell (sym had ∙ (ap (λ s. map.get stored.cells s) is ∙ sym has)))) ∙ had)
            (cases_eq c cell);
        alike = λ other.
            ⊎_elim
            (λ (is : other ≡ serial). ap (λ s. is_some (map.get after.items s)) is ∙ (ap is_some item_at ∙ (ap is_some (sym cell_at) ∙ ap (λ s. is_some (map.get after.cells s)) (sym is))))
            (λ (ne : other ≢ serial). ap is_some (item_else other ne) ∙ (held.alike other ∙ ap is_some (sym (cell_else other ne))))
            (cases_eq other serial);
        known = λ place other at.
            let found = left marks.dirty serial place other (ap (λ xs. slice_get xs place) (sym dirty) ∙ at) in
            ap is_some (item_else other found.1.1) ∙ held.known found.0 other found.1.0;
        fits = λ other it e.
            ⊎_elim
            (λ (is : other ≡ serial). absurd (none-some it (sym item_at ∙ (ap (λ s. map.get after.items s) (sym is) ∙ e))))
            (λ (ne : other ≢ serial). held.fits other it (sym (item_else other ne) ∙ e))
            (cases_eq other serial);
        room = let enough = held.room in omega arith;
      }

  -- an item is added in vain, and its cell is freed again
  back : (b : Bool) (serial : ℕ) (o : Option ℕ) → (b ≡ true → o ≡ None) → cond b None (cond b (Some serial) o) ≡ o
  back true serial o none = sym (none refl)
  back false serial o none = refl

  pub held_again : (after : StoredItems) (between now : Marking) (len room serial cell : ℕ) → after ≡ stored → len ≡ released → map.get stored.items serial ≡ None → capacity ≤ room
      → ((other : ℕ) → owner between other ≡ cond (eqb other cell) (Some serial) (owner marks other)) → owner marks cell ≡ None → between.dirty ≡ marks.dirty
      → ((other : ℕ) → owner now other ≡ cond (eqb other cell) None (owner between other)) → ((s : ℕ) → owner between cell ≡ Some s → now.dirty ≡ without s between.dirty)
      → IsHeld after now len room × (now.dirty ≡ marks.dirty)
  held_again after between now len room serial cell same_items same_len none more owns vacant dirty freed left =
      let own_at : owner between cell ≡ Some serial = owns cell ∙ ap (λ b. cond b (Some serial) (owner marks cell)) (eq-eqb cell cell refl) in
      let same_dirty : now.dirty ≡ marks.dirty = left serial own_at ∙ (ap (without serial) dirty ∙ without_absent marks.dirty serial (λ place. not_dirty serial place none)) in (
        subst (λ (st : StoredItems). IsHeld st now len room) (sym same_items) (subst (λ n. IsHeld stored now n room) (sym same_len) (
            held_marks now room more
            (λ other. freed other ∙ (ap (λ o. cond (eqb other cell) None o) (owns other)
            ∙ back (eqb other cell) serial (owner marks other) (λ t. ap (owner marks) (eqb_same other cell t) ∙ vacant)))
            (λ place other at. held.known place other (ap (λ xs. slice_get xs place) (sym same_dirty) ∙ at)))),
        same_dirty,
      )
