-- A place that has an expression is among the places of its store, and stands first as its entry says.
use Rattle.std.proofs.Common.{◌≡◌, ℕ, zero, suc, ◌+◌, Bool, true, false, List, [], ◌∷◌, ◌++◌, refl, sym, ap, subst, ◌∙◌, inl, inr, arith, add-zero}
use Rattle.std.specs.Prelude.{Option, None, Some, is_some, option_and_then, if◌then◌else◌, ◌||◌, ◌⊎◌, filter, fold, slice_get}
use Rattle.std.specs.List.{list_any}
use Rattle.std.specs.Map.{lookup, keys_of}
use Rattle.std.specs.BTreeMap.{is_at}
use Rattle.std.specs.Ordering.{nat_cmp}
use Rattle.std.proofs.lemmas.Bool.Decides.{nat_tests}
use Rattle.indexmap.specs.IndexMap.{insert_entry}
use Rattle.qml_ast.specs.declared.place.Place.{Place}
use Rattle.qml_ast.specs.declared.place.Side.{Side}
use Rattle.qml_ast.specs.declared.place.Side.TheVariants.{Set, Shown}
use Rattle.expr_eval.specs.Traces.{are_same}
use Rattle.expr_eval.specs.Trees.{Tree}
use Rattle.item_equations.specs.declared.native.Native.{Native}
use Rattle.settling.specs.Cells.{is_fresh, is_ready}
use Rattle.settling.specs.Settling.{Covers, IsReady}
use Rattle.object_tree.specs.declared.instance.Instance.{Instance}
use Rattle.object_tree.specs.declared.property.Binding.{Binding}
use Rattle.object_tree.specs.declared.property.Held.{Held}
use Rattle.object_tree.specs.declared.property.Property.{Property}
use Rattle.object_tree.specs.Properties.{held_of, binding_of}
use Rattle.object_tree.specs.Places.{places_in_slot, places_from, places_in, places_under, places_of, side_of}
use Rattle.object_tree.specs.Reading.{instance_at, property_at, held_at, binding_at, is_place}
use Rattle.object_tree.specs.Store.{Store}
use Rattle.binding_engine.specs.Equations.{equation, equation_by, has_equation, has_owner, native_in, native_at, equated}
use Rattle.binding_engine.specs.Standing as standing
use Rattle.binding_engine.specs.Standing.{one_place, itself, is_suspended_in, first_of, first}
use Rattle.binding_engine.specs.Entries.{Entries, at, space, entry_at, cell_in, first_entry_of, first_entry, inserted, with_first, first_entries}
use Rattle.binding_engine.specs.declared.cells.Entry.{Entry}

abbrev pub among : List Place → Place → Bool
among ps q = list_any (λ p. are_same p q) ps

-- ---- lists of places
pub among_here : (p : Place) (ps : List Place) → among (p ∷ ps) p ≡ true
among_here p ps = rw (itself p) refl

among_later : (p : Place) (ps : List Place) (q : Place) → among ps q ≡ true → among (p ∷ ps) q ≡ true
among_later p ps q h = by (are_same p q)
  where
    by : (b : Bool) → (b || among ps q) ≡ true
    by true = refl
    by false = h

among_left : (ps qs : List Place) (q : Place) → among ps q ≡ true → among (ps ++ qs) q ≡ true
among_left [] qs q h = absurd cc
among_left (p ∷ ps) qs q h = by (are_same p q) refl (λ g. among_left ps qs q g)
  where
    by : (b : Bool) → are_same p q ≡ b → (among ps q ≡ true → among (ps ++ qs) q ≡ true) → among (p ∷ (ps ++ qs)) q ≡ true
    by true e rest = rw e refl
    by false e rest = rw e (rest (rw e at h))

among_right : (ps qs : List Place) (q : Place) → among qs q ≡ true → among (ps ++ qs) q ≡ true
among_right [] qs q h = h
among_right (p ∷ ps) qs q h = among_later p (ps ++ qs) q (among_right ps qs q h)

pub among_filter : (test : Place → Bool) (ps : List Place) (q : Place) → among ps q ≡ true → test q ≡ true → among (filter test ps) q ≡ true
among_filter test [] q h t = h
among_filter test (p ∷ ps) q h t = by (are_same p q) refl (test p) refl (λ g. among_filter test ps q g t)
  where
    by : (b : Bool) → are_same p q ≡ b → (c : Bool) → test p ≡ c → (among ps q ≡ true → among (filter test ps) q ≡ true) → among (filter test (p ∷ ps)) q ≡ true
    by true e true f rest = rw f (rw e refl)
    by true e false f rest = absurd (let no : true ≡ false = sym t ∙ ap test (sym (one_place p q e)) ∙ f in cc)
    by false e true f rest = rw f (among_later p (filter test ps) q (rest (rw e at h)))
    by false e false f rest = rw f (rest (rw e at h))

-- ---- a place of a store is among its places
in_slot : (serial slot : ℕ) (property : Property) (side : Side) → is_some (held_of side property) ≡ true → among (places_in_slot serial slot property) (side_of serial slot side) ≡ true
in_slot serial slot property Set h = rw h (among_here (side_of serial slot Set) (side_of serial slot Shown ∷ []))
in_slot serial slot property Shown h = by (is_some property.set)
  where
    by : (b : Bool) → among (if b then side_of serial slot Set ∷ side_of serial slot Shown ∷ [] else side_of serial slot Shown ∷ []) (side_of serial slot Shown) ≡ true
    by true = among_later (side_of serial slot Set) (side_of serial slot Shown ∷ []) (side_of serial slot Shown) (among_here (side_of serial slot Shown) [])
    by false = among_here (side_of serial slot Shown) []

in_slots : (serial from n : ℕ) (properties : List Property) (property : Property) (side : Side) → slice_get properties n ≡ Some property → is_some (held_of side property) ≡ true →
    among (places_from serial from properties) (side_of serial (from + n) side) ≡ true
in_slots serial from n [] property side h s = absurd cc
in_slots serial from zero (x ∷ xs) property side h s =
    let same : x ≡ property = cc in
    let here : among (places_in_slot serial from x) (side_of serial from side) ≡ true = in_slot serial from x side (ap (λ p. is_some (held_of side p)) same ∙ s) in
    subst (λ k. among (places_in_slot serial from x ++ places_from serial (from + 1) xs) (side_of serial k side) ≡ true) (sym (add-zero from)) (among_left (places_in_slot serial from x) (places_from serial (from + 1) xs) (side_of serial from side) here)
in_slots serial from (suc n) (x ∷ xs) property side h s =
    let e : from + 1 + n ≡ from + suc n = omega arith in
    among_right (places_in_slot serial from x) (places_from serial (from + 1) xs) (side_of serial (from + suc n) side)
    (subst (λ k. among (places_from serial (from + 1) xs) (side_of serial k side) ≡ true) e (in_slots serial (from + 1) n xs property side h s))

from_zero : (n : ℕ) → 0 + n ≡ n
from_zero n = omega arith

in_instance : (serial slot : ℕ) (side : Side) (instance : Instance) (property : Property) → slice_get instance.properties slot ≡ Some property → is_some (held_of side property) ≡ true →
    among (places_from serial 0 instance.properties) (side_of serial slot side) ≡ true
in_instance serial slot side instance property h s = subst (λ k. among (places_from serial 0 instance.properties) (side_of serial k side) ≡ true) (from_zero slot) (in_slots serial 0 slot instance.properties property side h s)

-- the serial is among those that have a value
under : (store : Store) (things : List (ℕ × Instance)) (serial : ℕ) (instance : Instance) (q : Place) → lookup (is_at (nat_cmp serial)) things ≡ Some instance → among (places_in serial (instance_at serial store)) q ≡ true →
    among (places_under (keys_of things) store) q ≡ true
under store [] serial instance q h a = absurd cc
under store (x ∷ xs) serial instance q h a = by (is_at (nat_cmp serial) x.0) refl (λ g. under store xs serial instance q g a)
  where
    by : (b : Bool) → is_at (nat_cmp serial) x.0 ≡ b → (lookup (is_at (nat_cmp serial)) xs ≡ Some instance → among (places_under (keys_of xs) store) q ≡ true) → among (places_in x.0 (instance_at x.0 store) ++ places_under (keys_of xs) store) q ≡ true
    by true e rest =
        let same : serial ≡ x.0 = grind (arith, nat_tests) in
        among_left (places_in x.0 (instance_at x.0 store)) (places_under (keys_of xs) store) q (subst (λ k. among (places_in k (instance_at k store)) q ≡ true) same a)
    by false e rest = among_right (places_in x.0 (instance_at x.0 store)) (places_under (keys_of xs) store) q (rest (rw e at h))

-- a place of the store is among its places
pub place_listed : (store : Store) (q : Place) → is_place q store ≡ true → among (places_of store) q ≡ true
unfolding places_of
place_listed store q h = by (instance_at q.serial store) refl (property_at q.serial q.slot store) refl h
  where
    by : (i : Option Instance) → instance_at q.serial store ≡ i → (p : Option Property) → property_at q.serial q.slot store ≡ p → is_some (option_and_then (held_of q.side) p) ≡ true → among (places_under (keys_of store.objects.things) store) q ≡ true
    by None e None f s = absurd cc
    by None e (Some p) f s = absurd (let no : None ≡ Some p = rw e at f in cc)
    by (Some i) e None f s = absurd cc
    by (Some i) e (Some p) f s =
        let found : slice_get i.properties q.slot ≡ Some p = rw e at f in
        under store store.objects.things q.serial i q e (rw e (in_instance q.serial q.slot q.side i p found s))

-- ---- a place that has an expression is a place of the store
bound_side : (side : Side) (p : Property) (b : Binding) → binding_of side p ≡ Some b → is_some (held_of side p) ≡ true
bound_side Set p b h = by (is_some p.set) refl h
  where
    by : (c : Bool) → is_some p.set ≡ c → (if c then p.binding else None) ≡ Some b → is_some p.set ≡ true
    by true e g = e
    by false e g = absurd cc
bound_side Shown p b h = refl

bound_placed : (side : Side) (o : Option Property) (b : Binding) → option_and_then (binding_of side) o ≡ Some b → is_some (option_and_then (held_of side) o) ≡ true
bound_placed side None b h = absurd cc
bound_placed side (Some p) b h = bound_side side p b h

native_placed : (b : Bool) (n : Option Native) → is_some (if b then n else None) ≡ true → b ≡ true
native_placed true n h = refl
native_placed false n h = absurd cc

pub equation_placed : (store : Store) (q : Place) → has_equation store q ≡ true → is_place q store ≡ true
unfolding equation
equation_placed store q h = by (has_owner (instance_at q.serial store)) (binding_at q store) refl (native_at store q) refl h
  where
    native : Option Native
    native = native_in (instance_at q.serial store) q

    by : (owned : Bool) (b : Option Binding) → binding_at q store ≡ b → (n : Option Native) → native_at store q ≡ n → is_some (if owned then equation_by store q b n else None) ≡ true → is_place q store ≡ true
    by true (Some b) e n f s = bound_placed q.side (property_at q.serial q.slot store) b e
    by true None e (Some n) f s = native_placed (is_place q store) native (ap is_some f)
    by true None e None f s = absurd cc
    by false b e n f s = absurd cc

pub equation_listed : (store : Store) (q : Place) → has_equation store q ≡ true → among (places_of store) q ≡ true
equation_listed store q h = place_listed store q (equation_placed store q h)

pub equation_equated : (store : Store) (q : Place) → has_equation store q ≡ true → among (equated store) q ≡ true
equation_equated store q h = among_filter (has_equation store) (places_of store) q (equation_listed store q h) h

-- ---- the entries as a settle begins
entry_inserted : (p q : Place) (e : Entry) (es : Entries) → are_same p q ≡ true → entry_at q (insert_entry are_same es p e) ≡ Some e
entry_inserted p q e [] h = rw (same_back p q h) refl
  where
    same_back : (p q : Place) → are_same p q ≡ true → are_same q p ≡ true
    same_back p q h = subst (λ (x : Place). are_same q x ≡ true) (sym (one_place p q h)) (itself q)
entry_inserted p q e (x ∷ es) h = by (are_same p x.0) refl (entry_inserted p q e es h)
  where
    other : (b : Bool) → are_same p x.0 ≡ b → are_same q x.0 ≡ b
    other b f = subst (λ (y : Place). are_same y x.0 ≡ b) (one_place p q h) f

    by : (b : Bool) → are_same p x.0 ≡ b → entry_at q (insert_entry are_same es p e) ≡ Some e → entry_at q (insert_entry are_same (x ∷ es) p e) ≡ Some e
    by true f rest = rw (f, other true f) refl
    by false f rest = rw (f, other false f) rest

entry_beside : (p q : Place) (e : Entry) (es : Entries) → are_same p q ≡ false → entry_at q (insert_entry are_same es p e) ≡ entry_at q es
entry_beside p q e [] h = rw (apart h) refl
  where
    apart : are_same p q ≡ false → are_same q p ≡ false
    apart h = by (are_same q p) refl
      where
        by : (b : Bool) → are_same q p ≡ b → are_same q p ≡ false
        by false f = f
        by true f = absurd (let no : true ≡ false = sym (itself p) ∙ ap (are_same p) (sym (one_place q p f)) ∙ h in cc)
entry_beside p q e (x ∷ es) h = by (are_same p x.0) refl (are_same q x.0) refl (entry_beside p q e es h)
  where
    by : (b : Bool) → are_same p x.0 ≡ b → (c : Bool) → are_same q x.0 ≡ c → entry_at q (insert_entry are_same es p e) ≡ entry_at q es → entry_at q (insert_entry are_same (x ∷ es) p e) ≡ entry_at q (x ∷ es)
    by true f true g rest =
        let one : p ≡ q = one_place p x.0 f ∙ sym (one_place q x.0 g) in
        absurd (let no : true ≡ false = sym (itself p) ∙ ap (are_same p) one ∙ h in cc)
    by true f false g rest = rw (f, g) refl
    by false f true g rest = rw (f, g) refl
    by false f false g rest = rw (f, g) rest

module _ (store : Store) (q : Place) where
  -- what is there of the place is what belongs there
  abbrev Fits : Entries → Type 0
  Fits es = (entry_at q es ≡ None) ⊎ (entry_at q es ≡ first_entry store q)

  with_here : (p : Place) (o : Option Entry) (es : Entries) → are_same p q ≡ true → first_entry store p ≡ o → Fits es → entry_at q (inserted p o es) ≡ first_entry store q
  with_here p o es h f fits = by o f fits
    where
      mine : first_entry store q ≡ first_entry store p
      mine = ap (first_entry store) (sym (one_place p q h))

      none : first_entry store p ≡ None → Fits es → entry_at q es ≡ first_entry store q
      none g (inl e) = e ∙ sym (mine ∙ g)
      none g (inr e) = e

      by : (o : Option Entry) → first_entry store p ≡ o → Fits es → entry_at q (inserted p o es) ≡ first_entry store q
      by None g fits = none g fits
      by (Some e) g fits = entry_inserted p q e es h ∙ sym (mine ∙ g)

  with_beside : (p : Place) (o : Option Entry) (es : Entries) → are_same p q ≡ false → entry_at q (inserted p o es) ≡ entry_at q es
  with_beside p None es h = refl
  with_beside p (Some e) es h = entry_beside p q e es h

  with_fits : (p : Place) (es : Entries) → Fits es → Fits (with_first store es p)
  with_fits p es fits = by (are_same p q) refl fits
    where
      moved : entry_at q (with_first store es p) ≡ entry_at q es → Fits es → Fits (with_first store es p)
      moved same (inl e) = inl (same ∙ e)
      moved same (inr e) = inr (same ∙ e)

      by : (b : Bool) → are_same p q ≡ b → Fits es → Fits (with_first store es p)
      by true h fits = inr (with_here p (first_entry store p) es h refl fits)
      by false h fits = moved (with_beside p (first_entry store p) es h) fits

  stays_there : (ps : List Place) (es : Entries) → entry_at q es ≡ first_entry store q → entry_at q (fold (with_first store) es ps) ≡ first_entry store q
  stays_there [] es h = h
  stays_there (p ∷ ps) es h = stays_there ps (with_first store es p) (by (are_same p q) refl)
    where
      by : (b : Bool) → are_same p q ≡ b → entry_at q (with_first store es p) ≡ first_entry store q
      by true f = with_here p (first_entry store p) es f refl (inr h)
      by false f = with_beside p (first_entry store p) es f ∙ h

  comes_there : (ps : List Place) (es : Entries) → Fits es → among ps q ≡ true → entry_at q (fold (with_first store) es ps) ≡ first_entry store q
  comes_there [] es fits h = absurd cc
  comes_there (p ∷ ps) es fits h = by (are_same p q) refl (λ g. comes_there ps (with_first store es p) (with_fits p es fits) g)
    where
      by : (b : Bool) → are_same p q ≡ b → (among ps q ≡ true → entry_at q (fold (with_first store) (with_first store es p) ps) ≡ first_entry store q) → entry_at q (fold (with_first store) (with_first store es p) ps) ≡ first_entry store q
      by true f rest = stays_there ps (with_first store es p) (with_here p (first_entry store p) es f refl fits)
      by false f rest = rest (rw f at h)

  fits_on : (ps : List Place) (es : Entries) → Fits es → Fits (fold (with_first store) es ps)
  fits_on [] es fits = fits
  fits_on (p ∷ ps) es fits = fits_on ps (with_first store es p) (with_fits p es fits)

  -- the entry of the place is the one that belongs there
  pub first_found : entry_at q (first_entries store (places_of store)) ≡ first_entry store q
  first_found = by (has_equation store q) refl
    where
      nothing : (o : Option Tree) (held : Option Held) → is_some o ≡ false → first_entry_of o held ≡ None
      nothing None held h = refl
      nothing (Some t) held h = absurd cc

      none : first_entry store q ≡ None → Fits (first_entries store (places_of store)) → entry_at q (first_entries store (places_of store)) ≡ first_entry store q
      none e (inl f) = f ∙ sym e
      none e (inr f) = f

      by : (b : Bool) → has_equation store q ≡ b → entry_at q (first_entries store (places_of store)) ≡ first_entry store q
      by true h = comes_there (places_of store) [] (inl refl) (equation_listed store q h)
      by false h = none (nothing (equation store q) (held_at q store) h) (fits_on (places_of store) [] (inl refl))

-- ---- as a settle begins, each place stands as its entry says
first_cell : (o : Option Tree) (held : Option Held) → cell_in (first_entry_of o held) held ≡ first_of o held
first_cell None held = refl
first_cell (Some t) held = by (is_suspended_in held) refl
  where
    by : (b : Bool) → is_suspended_in held ≡ b → cell_in (first_entry_of (Some t) held) held ≡ first_of (Some t) held
    by true e = rw e refl
    by false e = rw e refl

pub first_alike : (store : Store) (q : Place) → at (store, first_entries store (places_of store)) q ≡ first store q
first_alike store q = ap (λ o. cell_in o (held_at q store)) (first_found store q) ∙ first_cell (equation store q) (held_at q store)

fresh_equated : (o : Option Tree) (held : Option Held) → is_fresh (first_of o held) ≡ true → is_some o ≡ true
fresh_equated None held h = absurd cc
fresh_equated (Some t) held h = refl

ready_first : (o : Option Tree) (held : Option Held) → is_ready (first_of o held) ≡ true
ready_first None held = refl
ready_first (Some t) held = by (is_suspended_in held) refl
  where
    by : (b : Bool) → is_suspended_in held ≡ b → is_ready (first_of (Some t) held) ≡ true
    by true e = rw e refl
    by false e = rw e refl

pub first_covered : (store : Store) → Covers space (equated store) (store, first_entries store (places_of store))
first_covered store q h = equation_equated store q (fresh_equated (equation store q) (held_at q store) (ap is_fresh (sym (first_alike store q)) ∙ h))

pub first_ready : (store : Store) → IsReady space (store, first_entries store (places_of store))
first_ready store q = ap is_ready (first_alike store q) ∙ ready_first (equation store q) (held_at q store)

pub ready_as : (store x : Store) (es : Entries) → x ≡ store → es ≡ first_entries store (places_of store) → IsReady space (x, es)
ready_as store x es is first_are = rw (is, first_are) (first_ready store)

pub covered_as : (store x : Store) (es : Entries) (places : List Place) → x ≡ store → es ≡ first_entries store (places_of store) → places ≡ equated store → Covers space places (x, es)
covered_as store x es places is first_are these_are = rw (is, first_are, these_are) (first_covered store)

pub first_covers : (store : Store) → Covers standing.space (equated store) (first store)
first_covers store q h = equation_equated store q (fresh_equated (equation store q) (held_at q store) h)

pub first_is_ready : (store : Store) → IsReady standing.space (first store)
first_is_ready store q = ready_first (equation store q) (held_at q store)
