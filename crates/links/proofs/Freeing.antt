-- That each change of a pool leaves it room.
use Rattle.std.proofs.Common.{◌≡◌, ◌≢◌, ⊎_elim, ℕ, zero, suc, ◌+◌, ◌-◌, ◌<◌, ◌≤◌, List, [], ◌∷◌, ◌++◌, length, set, Option, Some, None, unwrap_or, IsSome, refl, ap, sym, ◌∙◌, arith, length-append}
use Rattle.std.specs.List.{slice_get, remove}
use Rattle.std.proofs.lemmas.Option.{slice_get_within, slice_get-get_or, none-some, same_Some}
use Rattle.std.proofs.lemmas.List.{length-set, length-map, map-set}
use Rattle.std.proofs.lemmas.Bool.{cases_eq, cases_lt}
use Rattle.links.specs.declared.number.Number.{Number}
use Rattle.links.specs.declared.slot.FreeLink.{FreeLink}
use Rattle.links.specs.declared.slot.Slot.{Slot}
use Rattle.links.specs.declared.slot.Slot.TheVariants.{Free, Full}
use Rattle.links.specs.Packed.{no_number, number_of}
use Rattle.links.specs.Slots.{empty_count, placed}
use Rattle.links.specs.Cells.{previous_at}
use Rattle.links.specs.Free.{values_of, value_of, neighbours_of, free_in, before_next, bypassed, first_bypassed, IsRing, HasRoom}
use Rattle.links.proofs.Places.{slice_get-remove_below, slice_get-remove_above, placed_within, placed_end}
use Rattle.links.proofs.Rings.{IsRing-remove, IsRing-push, free_in-set_same, free_in-set_other, before_same, before_other, values-before_next, values-bypassed, bypassed_other, bypassed_previous, bypassed_next, is_free, is_known, is_full, length-bypassed, length-before}
use Rattle.links.proofs.Counts.{empty-filled, empty-emptied, empty-same, empty-push, empty-none, empty-some, vacant_slot, empty-fits}

-- a list with no first element has none
nothing : (xs : List ℕ) (i : ℕ) → slice_get xs 0 ≡ None → slice_get xs i ≡ None
nothing [] i e = refl
nothing (x ∷ xs) i e = absurd (none-some x (sym e))

-- the same numbers know the same
IsRing-same : (old new : ℕ → Option (Option ℕ × Option ℕ)) (xs : List ℕ) → IsRing old xs → ((x : ℕ) → new x ≡ old x) → IsRing new xs
IsRing-same old new xs ring same = record {
  apart = ring.apart;
  knows = λ i x e. same x ∙ ring.knows i x e;
  stands = λ x l e. ring.stands x l (sym (same x) ∙ e);
}

-- the first number after one went
first_then : (first : Number) (previous : Option ℕ) (next : Number) (xs : List ℕ) (i x : ℕ) → number_of first ≡ slice_get xs 0 → previous ≡ previous_at xs i → number_of next ≡ slice_get xs (suc i)
    → slice_get xs i ≡ Some x → number_of (first_bypassed first previous next) ≡ slice_get (remove xs i) 0
first_then first None next xs zero x first_is previous_is next_is here = next_is ∙ sym (slice_get-remove_above xs zero zero (omega arith) (slice_get_within xs zero x here))
first_then first None next xs (suc i) x first_is previous_is next_is here =
    let past : length xs ≤ i = ⊎_elim (λ (h : i < length xs). absurd (none-some _ (previous_is ∙ slice_get-get_or xs i x h))) (λ (h : length xs ≤ i). h) (cases_lt i (length xs)) in
    let within = slice_get_within xs (suc i) x here in absurd (omega arith)
first_then first (Some previous) next xs zero x first_is previous_is next_is here = absurd (none-some previous (sym previous_is))
first_then first (Some previous) next xs (suc i) x first_is previous_is next_is here = first_is ∙ sym (slice_get-remove_below xs (suc i) zero (omega arith) (slice_get_within xs (suc i) x here))

module _ {T : Type 0} where
  -- one more value at the end
  pushed_same : (slots : List (Slot T)) (v : T) (x : ℕ) → free_in (slots ++ Full v ∷ []) x ≡ free_in slots x
  pushed_same [] v zero = refl
  pushed_same [] v (suc x) = refl
  pushed_same (slot ∷ slots) v zero = refl
  pushed_same (slot ∷ slots) v (suc x) = pushed_same slots v x

  pub values-push : (slots : List (Slot T)) (v : T) → values_of (slots ++ Full v ∷ []) ≡ values_of slots ++ Some v ∷ []
  values-push [] v = refl
  values-push (slot ∷ slots) v = ap (λ (vs : List (Option T)). value_of slot ∷ vs) (values-push slots v)

  pub length-values : (slots : List (Slot T)) → length (values_of slots) ≡ length slots
  length-values slots = length-map slots value_of

  pub values-set : (slots : List (Slot T)) (i : ℕ) (slot : Slot T) → values_of (set slots i slot) ≡ set (values_of slots) i (value_of slot)
  values-set slots i slot = map-set value_of slots i slot

  -- a number with a value
  pub occupied_slot : (slots : List (Slot T)) (i : ℕ) → IsSome (unwrap_or (slice_get (values_of slots) i) None) → (v : T) × (slice_get slots i ≡ Some (Full v))
  occupied_slot [] i h = absurd (cc)
  occupied_slot (Free link ∷ slots) zero h = absurd (cc)
  occupied_slot (Full v ∷ slots) zero h = (v, refl)
  occupied_slot (slot ∷ slots) (suc i) h = occupied_slot slots i h

  pub value_at : (slots : List (Slot T)) (i : ℕ) (slot : Slot T) → slice_get slots i ≡ Some slot → slice_get (values_of slots) i ≡ Some (value_of slot)
  value_at [] i slot e = absurd (none-some slot e)
  value_at (x ∷ slots) zero slot e = ap (λ (s : Slot T). Some (value_of s)) (same_Some _ _ e)
  value_at (x ∷ slots) (suc i) slot e = value_at slots i slot e

  full_unknown : (slots : List (Slot T)) (i : ℕ) (v : T) → slice_get slots i ≡ Some (Full v) → free_in slots i ≡ None
  full_unknown slots i v e = is_full slots i v (value_at slots i (Full v) e)

module _ {T : Type 0} {slots : List (Slot T)} {first : Number} {free spare capacity : ℕ} (held : HasRoom slots first free spare capacity) where
  pub free_fits : free ≤ length slots
  free_fits = let counted = empty-fits (values_of slots) in omega (arith, counted, held.free_is, length-values slots)

  pub slots_small : length slots ≤ no_number
  slots_small = omega (arith, held.small, held.free_fit)

  pub slots_held : length slots ≤ capacity
  slots_held = omega (arith, held.room, held.free_fit)

  pub number_small : (i : ℕ) → i < length slots → i < no_number
  number_small i h = let small = slots_small in omega arith

  -- the number that is used next is free
  pub first_free : (x : ℕ) → number_of first ≡ Some x → slice_get (values_of slots) x ≡ Some None
  first_free x e = is_free slots x _ (held.ring.knows zero x (sym held.first_is ∙ e))

  -- where none is used next, none is free
  pub none_free : number_of first ≡ None → (i : ℕ) → slice_get (values_of slots) i ≢ Some None
  none_free e i f =
      let known = is_known slots i f in
      let stands = held.ring.stands i known.0 known.1 in
      let past : slice_get held.order stands.0 ≡ None = nothing held.order stands.0 (sym held.first_is ∙ e) in
      none-some i (sym past ∙ stands.1)

  -- a value in place of another
  pub HasRoom-set : (i : ℕ) (v w : T) → slice_get slots i ≡ Some (Full v) → HasRoom (set slots i (Full w)) first free spare capacity
  HasRoom-set i v w e =
      let within = slice_get_within slots i (Full v) e in
      record {
        order = held.order;
        first_is = held.first_is;
        ring = IsRing-same _ _ held.order held.ring
            (λ x. ⊎_elim (λ (same : x ≡ i). ap (free_in (set slots i (Full w))) same ∙ (free_in-set_same slots i (Full w) within ∙ (sym (full_unknown slots i v e) ∙ ap (free_in slots) (sym same))))
            (λ (ne : x ≢ i). free_in-set_other slots i x (Full w) ne) (cases_eq x i));
        free_is = held.free_is ∙ sym (ap empty_count (values-set slots i (Full w)) ∙ empty-same (values_of slots) i v w (value_at slots i (Full v) e));
        free_fit = held.free_fit;
        room = simp length-set held.room;
        small = simp length-set held.small;
      }

  -- a value at the end
  pub HasRoom-push : (v : T) (new : List (Slot T)) → free < spare → new ≡ slots ++ Full v ∷ [] → HasRoom new first free (spare - 1) capacity
  HasRoom-push v new more new_is =
      let longer : length new ≡ length slots + 1 = ap length new_is ∙ length-append slots (Full v ∷ []) in
      record {
        order = held.order;
        first_is = held.first_is;
        ring = IsRing-same _ _ held.order held.ring (λ x. ap (λ (ss : List (Slot T)). free_in ss x) new_is ∙ pushed_same slots v x);
        free_is = held.free_is ∙ sym (ap (λ (ss : List (Slot T)). empty_count (values_of ss)) new_is ∙ (ap empty_count (values-push slots v) ∙ empty-push (values_of slots) v));
        free_fit = omega arith;
        room = omega (arith, held.room);
        small = omega (arith, held.small);
      }

  -- a value under a number that was free
  pub HasRoom-fill : (number : ℕ) (link : FreeLink) (v : T) (new : List (Slot T)) (new_first : Number) → slice_get slots number ≡ Some (Free link)
      → new ≡ set (bypassed slots link) number (Full v) → new_first ≡ first_bypassed first (number_of link.previous) link.next
      → HasRoom new new_first (free - 1) (spare - 1) capacity
  HasRoom-fill number link v new new_first e new_is first_is =
      let own : free_in slots number ≡ Some (number_of link.previous, number_of link.next) = ap neighbours_of e in
      let found = held.ring.stands number _ own in
      let knows = same_Some _ _ (sym own ∙ held.ring.knows found.0 number found.1) in
      let previous_is : number_of link.previous ≡ previous_at held.order found.0 = ap (λ (p : Option ℕ × Option ℕ). p.0) knows in
      let next_is : number_of link.next ≡ slice_get held.order (suc found.0) = ap (λ (p : Option ℕ × Option ℕ). p.1) knows in
      let within : number < length (bypassed slots link) = rw (length-bypassed slots link) (slice_get_within slots number (Free link) e) in
      let same_length : length (set (bypassed slots link) number (Full v)) ≡ length slots = length-set (bypassed slots link) number (Full v) ∙ length-bypassed slots link in
      let was_free : slice_get (values_of slots) number ≡ Some None = value_at slots number (Free link) e in
      let values_are : values_of (set (bypassed slots link) number (Full v)) ≡ set (values_of slots) number (Some v) = values-set (bypassed slots link) number (Full v) ∙ ap (λ (vs : List (Option T)). set vs number (Some v)) (values-bypassed slots link) in
      let one_less : empty_count (values_of (set (bypassed slots link) number (Full v))) + 1 ≡ empty_count (values_of slots) = ap (λ (vs : List (Option T)). empty_count vs + 1) values_are ∙ empty-filled (values_of slots) number v was_free in
      rw (new_is, first_is)
      (record {
        order = remove held.order found.0;
        first_is = first_then first (number_of link.previous) link.next held.order found.0 number held.first_is previous_is next_is found.1;
        ring = IsRing-remove (free_in slots) (free_in (set (bypassed slots link) number (Full v))) held.order found.0 number held.ring found.1
            (free_in-set_same (bypassed slots link) number (Full v) within)
            (λ x l ne before behind known. free_in-set_other (bypassed slots link) number x (Full v) ne ∙ (bypassed_previous slots link x l (previous_is ∙ before) (λ f. behind (sym next_is ∙ f)) known ∙ ap (λ (o : Option ℕ). Some (l.0, o)) next_is))
            (λ x l ne behind before known. free_in-set_other (bypassed slots link) number x (Full v) ne ∙ (bypassed_next slots link x l (next_is ∙ behind) (λ f. before (sym previous_is ∙ f)) known ∙ ap (λ (o : Option ℕ). Some (o, l.1)) previous_is))
            (λ x ne before behind. free_in-set_other (bypassed slots link) number x (Full v) ne ∙ bypassed_other slots link x (λ f. before (sym previous_is ∙ f)) (λ f. behind (sym next_is ∙ f)));
        free_is = omega (arith, held.free_is, one_less);
        free_fit = omega (arith, held.free_fit);
        room = omega (arith, held.room, same_length, held.free_is, one_less);
        small = omega (arith, held.small, same_length, held.free_is, one_less);
      })

  -- a number whose value is taken away
  pub HasRoom-free : (number : ℕ) (v : T) (link : FreeLink) (new : List (Slot T)) (new_first : Number) → slice_get slots number ≡ Some (Full v)
      → number_of link.previous ≡ None → link.next ≡ first → number_of new_first ≡ Some number
      → new ≡ before_next (set slots number (Free link)) (number_of first) new_first
      → HasRoom new new_first (free + 1) (spare + 1) capacity
  HasRoom-free number v link new new_first e previous_is next_is first_is new_is =
      let within = slice_get_within slots number (Full v) e in
      let emptied = set slots number (Free link) in
      let same_length : length (before_next emptied (number_of first) new_first) ≡ length slots = length-before emptied (number_of first) new_first ∙ length-set slots number (Free link) in
      let unknown = full_unknown slots number v e in
      let own : free_in emptied number ≡ Some (None, slice_get held.order 0) =
      free_in-set_same slots number (Free link) within ∙ (ap (λ (o : Option ℕ). Some (o, number_of link.next)) previous_is ∙ ap (λ (o : Option ℕ). Some (None, o)) (ap number_of next_is ∙ held.first_is)) in
      let values_are : values_of (before_next emptied (number_of first) new_first) ≡ set (values_of slots) number None = values-before_next emptied (number_of first) new_first ∙ values-set slots number (Free link) in
      let one_more : empty_count (values_of (before_next emptied (number_of first) new_first)) ≡ empty_count (values_of slots) + 1 = ap empty_count values_are ∙ empty-emptied (values_of slots) number v (value_at slots number (Full v) e) in
      let not_first : number_of first ≢ Some number = λ f. none-some _ (sym unknown ∙ held.ring.knows zero number (sym held.first_is ∙ f)) in
      rw new_is
      (record {
        order = number ∷ held.order;
        first_is = first_is;
        ring = IsRing-push (free_in slots) (free_in (before_next emptied (number_of first) new_first)) held.order number held.ring unknown
            (before_other emptied (number_of first) number new_first not_first ∙ own)
            (λ x l ne here known. before_same emptied (number_of first) x new_first l (held.first_is ∙ here) (free_in-set_other slots number x (Free link) ne ∙ known) ∙ ap (λ (o : Option ℕ). Some (o, l.1)) first_is)
            (λ x ne later. before_other emptied (number_of first) x new_first (λ f. later (sym held.first_is ∙ f)) ∙ free_in-set_other slots number x (Free link) ne);
        free_is = omega (arith, held.free_is, one_more);
        free_fit = omega (arith, held.free_fit);
        room = omega (arith, held.room, same_length);
        small = omega (arith, held.small, same_length);
      })

  -- more room
  pub HasRoom-reserve : (more new_capacity : ℕ) → spare ≤ more → capacity ≤ new_capacity → length slots + more ≤ free + new_capacity → length slots + more ≤ free + no_number → HasRoom slots first free more new_capacity
  HasRoom-reserve more new_capacity grows keeps room small = record { order = held.order; first_is = held.first_is; ring = held.ring; free_is = held.free_is; free_fit = omega (arith, held.free_fit); room = room; small = small }

  pub HasRoom-lower : (less : ℕ) → less ≤ spare → empty_count (values_of slots) ≤ less → HasRoom slots first free less capacity
  HasRoom-lower less falls fits = record { order = held.order; first_is = held.first_is; ring = held.ring; free_is = held.free_is; free_fit = omega (arith, held.free_is); room = omega (arith, held.room); small = omega (arith, held.small) }

pub HasRoom-nil : {T : Type 0} (first : Number) (capacity : ℕ) → number_of first ≡ None → HasRoom {T = T} [] first 0 0 capacity
HasRoom-nil first capacity e = record {
  order = [];
  first_is = e;
  ring = record { apart = record { place = λ i j x p q. absurd (none-some x p) }; knows = λ i x p. absurd (none-some x p); stands = λ x l p. absurd (none-some l p) };
  free_is = refl;
  free_fit = omega arith;
  room = omega arith;
  small = omega arith;
}

module _ {T : Type 0} {slots : List (Slot T)} {first : Number} {free spare capacity : ℕ} (held : HasRoom slots first free spare capacity) where
  -- a value may be added under a number that is free, or at the end where there is room
  pub spare_some : (number : ℕ) → number ≤ length (values_of slots) → ((other : T) → slice_get (values_of slots) number ≢ Some (Some other))
      → (number ≡ length (values_of slots) → empty_count (values_of slots) < spare) → 0 < spare
  spare_some number within vacant room =
      ⊎_elim
      (λ (inner : number < length (values_of slots)).
      let empty = vacant_slot (values_of slots) number vacant inner in
      let some = empty-some (values_of slots) number empty in
      omega (arith, held.free_is, held.free_fit, some))
      (λ (end : length (values_of slots) ≤ number). let last = room (omega arith) in omega arith)
      (cases_lt number (length (values_of slots)))

  -- a number that is free
  pub free_some : (number : ℕ) → slice_get (values_of slots) number ≡ Some None → 0 < free
  free_some number e = let some = empty-some (values_of slots) number e in omega (arith, held.free_is)

  pub next_within : (x : ℕ) → number_of first ≡ Some x → x < length (values_of slots)
  next_within x e = slice_get_within (values_of slots) x None (first_free held x e)

  pub none_empty : number_of first ≡ None → empty_count (values_of slots) ≡ 0
  none_empty e = empty-none (values_of slots) (none_free held e)

-- what slots have after a change
module _ {T : Type 0} (slots new : List (Slot T)) (number : ℕ) where
  pub values-filled : (link : FreeLink) (v : T) → slice_get slots number ≡ Some (Free link) → new ≡ set (bypassed slots link) number (Full v) → values_of new ≡ placed (values_of slots) number (Some v)
  values-filled link v e new_is =
      let within = slice_get_within (values_of slots) number None (value_at slots number (Free link) e) in
      ap values_of new_is
      ∙ (values-set (bypassed slots link) number (Full v)
      ∙ (ap (λ (vs : List (Option T)). set vs number (Some v)) (values-bypassed slots link) ∙ sym (placed_within (values_of slots) number (Some v) within)))

  pub values-pushed : (v : T) → number ≡ length slots → new ≡ slots ++ Full v ∷ [] → values_of new ≡ placed (values_of slots) number (Some v)
  values-pushed v end new_is = ap values_of new_is ∙ (values-push slots v ∙ sym (placed_end (values_of slots) number (Some v) (end ∙ sym (length-values slots))))

  pub values-freed : (link : FreeLink) (at : Option ℕ) (own : Number) → new ≡ before_next (set slots number (Free link)) at own → values_of new ≡ set (values_of slots) number None
  values-freed link at own new_is = ap values_of new_is ∙ (values-before_next (set slots number (Free link)) at own ∙ values-set slots number (Free link))
