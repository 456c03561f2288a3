-- Numbers that are linked both ways, after one came to the front or went, and slots that say so.
use Rattle.std.proofs.Common.{◌≡◌, ◌≢◌, ◌⊎◌, ⊎_elim, inl, inr, ℕ, zero, suc, ◌<◌, ◌≤◌, List, [], ◌∷◌, length, set, map, Option, Some, None, option_map, refl, ap, sym, ◌∙◌, arith}
use Rattle.std.specs.List.{slice_get, remove}
use Rattle.std.proofs.lemmas.Option.{slice_get_within, none-some, same_Some}
use Rattle.std.proofs.lemmas.Bool.{cases_eq, cases_lt}
use Rattle.links.specs.declared.number.Number.{Number}
use Rattle.links.specs.declared.slot.FreeLink.{FreeLink}
use Rattle.links.specs.declared.slot.Slot.{Slot}
use Rattle.links.specs.declared.slot.Slot.TheVariants.{Free, Full}
use Rattle.links.specs.Packed.{number_of}
use Rattle.links.specs.Cells.{previous_at}
use Rattle.links.specs.Free.{changed_at, values_of, value_of, neighbours_of, free_in, next_free, previous_free, after_previous, before_next, bypassed, IsRing}
use Rattle.links.proofs.Places.{slice_get-set_same, slice_get-set_other, slice_get-remove_below, slice_get-remove_above}
use Rattle.links.proofs.Neighbours.{previous_at-remove_below, previous_at-remove_above}
use Rattle.links.proofs.Relinking.{decide}
use Rattle.links.proofs.Putting.{place_before}

-- a write of a changed element
pub changed_by_set : {A : Type 0} (f : A → A) (i : ℕ) (xs : List A) (x y : A) → slice_get xs i ≡ Some x → f x ≡ y → set xs i y ≡ changed_at f i xs
changed_by_set f i [] x y e same = refl
changed_by_set f zero (z ∷ xs) x y e same = let found = same_Some _ _ e in ap (λ w. w ∷ xs) (sym same ∙ ap f (sym found))
changed_by_set f (suc i) (z ∷ xs) x y e same = ap (λ ws. z ∷ ws) (changed_by_set f i xs x y e same)

-- nothing is changed past the end, or where the change is none
pub unchanged_at : {A : Type 0} (f : A → A) (i : ℕ) (xs : List A) → ((x : A) → slice_get xs i ≡ Some x → f x ≡ x) → changed_at f i xs ≡ xs
unchanged_at f i [] h = refl
unchanged_at f zero (z ∷ xs) h = ap (λ w. w ∷ xs) (h z refl)
unchanged_at f (suc i) (z ∷ xs) h = ap (λ ws. z ∷ ws) (unchanged_at f i xs h)

slice_get-changed_same : {A : Type 0} (f : A → A) (i : ℕ) (xs : List A) → slice_get (changed_at f i xs) i ≡ option_map f (slice_get xs i)
slice_get-changed_same f i [] = refl
slice_get-changed_same f zero (x ∷ xs) = refl
slice_get-changed_same f (suc i) (x ∷ xs) = slice_get-changed_same f i xs

slice_get-changed_other : {A : Type 0} (f : A → A) (i j : ℕ) (xs : List A) → j ≢ i → slice_get (changed_at f i xs) j ≡ slice_get xs j
slice_get-changed_other f i j [] ne = refl
slice_get-changed_other f zero zero (x ∷ xs) ne = absurd (ne refl)
slice_get-changed_other f zero (suc j) (x ∷ xs) ne = refl
slice_get-changed_other f (suc i) zero (x ∷ xs) ne = refl
slice_get-changed_other f (suc i) (suc j) (x ∷ xs) ne = slice_get-changed_other f i j xs (λ e. ne (ap suc e))

pub length-changed : {A : Type 0} (f : A → A) (i : ℕ) (xs : List A) → length (changed_at f i xs) ≡ length xs
length-changed f i [] = refl
length-changed f zero (x ∷ xs) = refl
length-changed f (suc i) (x ∷ xs) = ap suc (length-changed f i xs)

map-changed : {A B : Type 0} (v : A → B) (f : A → A) (i : ℕ) (xs : List A) → ((x : A) → v (f x) ≡ v x) → map v (changed_at f i xs) ≡ map v xs
map-changed v f i [] h = refl
map-changed v f zero (x ∷ xs) h = ap (λ w. w ∷ map v xs) (h x)
map-changed v f (suc i) (x ∷ xs) h = ap (λ ws. v x ∷ ws) (map-changed v f i xs h)

abbrev pub Knows : Type 0
Knows = ℕ → Option (Option ℕ × Option ℕ)

same_pair : (a b c d : Option ℕ) → a ≡ b → c ≡ d → ◌≡◌ {A = Option (Option ℕ × Option ℕ)} (Some (a, c)) (Some (b, d))
same_pair a b c d e f = ap (λ (x : Option ℕ). Some (x, c)) e ∙ ap (λ (y : Option ℕ). Some (b, y)) f

-- one number goes
module _ (old new : Knows) (xs : List ℕ) (i cell : ℕ) (ring : IsRing old xs) (here : slice_get xs i ≡ Some cell)
    (gone : new cell ≡ None)
    (before : (x : ℕ) (link : Option ℕ × Option ℕ) → x ≢ cell → previous_at xs i ≡ Some x → slice_get xs (suc i) ≢ Some x → old x ≡ Some link → new x ≡ Some (link.0, slice_get xs (suc i)))
    (behind : (x : ℕ) (link : Option ℕ × Option ℕ) → x ≢ cell → slice_get xs (suc i) ≡ Some x → previous_at xs i ≢ Some x → old x ≡ Some link → new x ≡ Some (previous_at xs i, link.1))
    (other : (x : ℕ) → x ≢ cell → previous_at xs i ≢ Some x → slice_get xs (suc i) ≢ Some x → new x ≡ old x) where
  within : i < length xs
  within = slice_get_within xs i cell here

  differ : (j x : ℕ) → j ≢ i → slice_get xs j ≡ Some x → x ≢ cell
  differ j x ne e same = ne (ring.apart.place j i x e (here ∙ ap Some (sym same)))

  not_before : (j x : ℕ) → suc j ≢ i → slice_get xs j ≡ Some x → previous_at xs i ≢ Some x
  not_before j x ne e f = let found = place_before xs i x f in let same = ring.apart.place j found.0 x e found.1.1 in ne (ap suc same ∙ found.1.0)

  not_behind : (j x : ℕ) → j ≢ suc i → slice_get xs j ≡ Some x → slice_get xs (suc i) ≢ Some x
  not_behind j x ne e f = ne (ring.apart.place j (suc i) x e f)

  own_below : (j x : ℕ) → j < i → slice_get xs j ≡ Some x → new x ≡ Some (previous_at (remove xs i) j, slice_get (remove xs i) (suc j))
  own_below j x below e =
      let not_next = not_behind j x (omega arith) e in
      let apart = differ j x (omega arith) e in
      ⊎_elim
      (λ (inner : suc j < i).
      other x apart (not_before j x (omega arith) e) not_next
      ∙ (ring.knows j x e ∙ same_pair _ _ _ _ (sym (previous_at-remove_below xs i within j (omega arith))) (sym (slice_get-remove_below xs i (suc j) inner within))))
      (λ (last : i ≤ suc j).
      let next : suc j ≡ i = omega arith in
      let is_before : previous_at xs i ≡ Some x = ap (previous_at xs) (sym next) ∙ e in
      before x _ apart is_before not_next (ring.knows j x e)
      ∙ same_pair _ _ _ _ (sym (previous_at-remove_below xs i within j (omega arith))) (sym (ap (slice_get (remove xs i)) next ∙ slice_get-remove_above xs i i (omega arith) within)))
      (cases_lt (suc j) i)

  own_above : (j x : ℕ) → i ≤ j → slice_get xs (suc j) ≡ Some x → new x ≡ Some (previous_at (remove xs i) j, slice_get (remove xs i) (suc j))
  own_above j x above e =
      let not_previous = not_before (suc j) x (omega arith) e in
      let apart = differ (suc j) x (omega arith) e in
      ⊎_elim
      (λ (inner : i < j).
      other x apart not_previous (not_behind (suc j) x (omega arith) e)
      ∙ (ring.knows (suc j) x e ∙ same_pair _ _ _ _ (sym (previous_at-remove_above xs i within j inner)) (sym (slice_get-remove_above xs i (suc j) (omega arith) within))))
      (λ (first : j ≤ i).
      let same : i ≡ j = omega arith in
      let is_behind : slice_get xs (suc i) ≡ Some x = ap (λ k. slice_get xs (suc k)) same ∙ e in
      behind x _ apart is_behind not_previous (ring.knows (suc j) x e)
      ∙ same_pair _ _ _ _ (sym (ap (previous_at (remove xs i)) (sym same) ∙ previous_at-remove_below xs i within i (omega arith))) (sym (slice_get-remove_above xs i (suc j) (omega arith) within)))
      (cases_lt i j)

  -- where a number of the new list stood
  stood : (j x : ℕ) → slice_get (remove xs i) j ≡ Some x → ((j < i) × (slice_get xs j ≡ Some x)) ⊎ ((i ≤ j) × (slice_get xs (suc j) ≡ Some x))
  stood j x e =
      ⊎_elim (λ (below : j < i). inl (below, sym (slice_get-remove_below xs i j below within) ∙ e))
      (λ (above : i ≤ j). inr (above, sym (slice_get-remove_above xs i j above within) ∙ e))
      (cases_lt j i)

  apart_then : (j k x : ℕ) → slice_get (remove xs i) j ≡ Some x → slice_get (remove xs i) k ≡ Some x → j ≡ k
  apart_then j k x e f =
      ⊎_elim
      (λ (p : (j < i) × (slice_get xs j ≡ Some x)).
      ⊎_elim (λ (q : (k < i) × (slice_get xs k ≡ Some x)). ring.apart.place j k x p.1 q.1)
      (λ (q : (i ≤ k) × (slice_get xs (suc k) ≡ Some x)). let same : j ≡ suc k = ring.apart.place j (suc k) x p.1 q.1 in omega arith)
      (stood k x f))
      (λ (p : (i ≤ j) × (slice_get xs (suc j) ≡ Some x)).
      ⊎_elim (λ (q : (k < i) × (slice_get xs k ≡ Some x)). let same : suc j ≡ k = ring.apart.place (suc j) k x p.1 q.1 in omega arith)
      (λ (q : (i ≤ k) × (slice_get xs (suc k) ≡ Some x)). let same : suc j ≡ suc k = ring.apart.place (suc j) (suc k) x p.1 q.1 in omega arith)
      (stood k x f))
      (stood j x e)

  -- another number that the list had is in it
  has_then : (j x : ℕ) → x ≢ cell → slice_get xs j ≡ Some x → (k : ℕ) × (slice_get (remove xs i) k ≡ Some x)
  has_then zero x ne e =
      ⊎_elim (λ (first : zero ≡ i). absurd (ne (same_Some x cell (sym e ∙ (ap (slice_get xs) first ∙ here)))))
      (λ (later : zero ≢ i). (zero, slice_get-remove_below xs i zero (omega arith) within ∙ e))
      (cases_eq zero i)
  has_then (suc j) x ne e =
      ⊎_elim (λ (same : suc j ≡ i). absurd (ne (same_Some x cell (sym e ∙ (ap (slice_get xs) same ∙ here)))))
      (λ (apart : suc j ≢ i).
      ⊎_elim (λ (below : suc j < i). (suc j, slice_get-remove_below xs i (suc j) below within ∙ e))
      (λ (above : i ≤ suc j). (j, slice_get-remove_above xs i j (omega arith) within ∙ e))
      (cases_lt (suc j) i))
      (cases_eq (suc j) i)

  stands_then : (x : ℕ) (link : Option ℕ × Option ℕ) → new x ≡ Some link → (k : ℕ) × (slice_get (remove xs i) k ≡ Some x)
  stands_then x link e =
      ⊎_elim
      (λ (same : x ≡ cell). absurd (none-some link (sym gone ∙ (ap new (sym same) ∙ e))))
      (λ (ne : x ≢ cell).
      ⊎_elim
      (λ (is_before : previous_at xs i ≡ Some x). let found = place_before xs i x is_before in has_then found.0 x ne found.1.1)
      (λ (not_previous : previous_at xs i ≢ Some x).
      ⊎_elim
      (λ (is_behind : slice_get xs (suc i) ≡ Some x). has_then (suc i) x ne is_behind)
      (λ (not_next : slice_get xs (suc i) ≢ Some x). let found = ring.stands x link (sym (other x ne not_previous not_next) ∙ e) in has_then found.0 x ne found.1)
      (decide (slice_get xs (suc i)) x))
      (decide (previous_at xs i) x))
      (cases_eq x cell)

  pub IsRing-remove : IsRing new (remove xs i)
  IsRing-remove = record {
    apart = record { place = apart_then };
    knows = λ j x e.
        ⊎_elim (λ (below : (j < i) × (slice_get xs j ≡ Some x)). own_below j x below.0 below.1)
        (λ (above : (i ≤ j) × (slice_get xs (suc j) ≡ Some x)). own_above j x above.0 above.1)
        (stood j x e);
    stands = stands_then;
  }

-- one number comes to the front
module _ (old new : Knows) (xs : List ℕ) (cell : ℕ) (ring : IsRing old xs) (unknown : old cell ≡ None)
    (own : new cell ≡ Some (None, slice_get xs 0))
    (first : (x : ℕ) (link : Option ℕ × Option ℕ) → x ≢ cell → slice_get xs 0 ≡ Some x → old x ≡ Some link → new x ≡ Some (Some cell, link.1))
    (other : (x : ℕ) → x ≢ cell → slice_get xs 0 ≢ Some x → new x ≡ old x) where
  is_new : (j x : ℕ) → slice_get xs j ≡ Some x → x ≢ cell
  is_new j x e same = none-some _ (sym unknown ∙ (ap old (sym same) ∙ ring.knows j x e))

  apart_more : (j k x : ℕ) → slice_get (cell ∷ xs) j ≡ Some x → slice_get (cell ∷ xs) k ≡ Some x → j ≡ k
  apart_more zero zero x e f = refl
  apart_more zero (suc k) x e f = absurd (is_new k x f (sym (same_Some _ _ e)))
  apart_more (suc j) zero x e f = absurd (is_new j x e (sym (same_Some _ _ f)))
  apart_more (suc j) (suc k) x e f = ap suc (ring.apart.place j k x e f)

  knows_more : (j x : ℕ) → slice_get (cell ∷ xs) j ≡ Some x → new x ≡ Some (previous_at (cell ∷ xs) j, slice_get (cell ∷ xs) (suc j))
  knows_more zero x e = ap new (sym (same_Some _ _ e)) ∙ own
  knows_more (suc zero) x e = first x _ (is_new zero x e) e (ring.knows zero x e)
  knows_more (suc (suc j)) x e =
      let later : slice_get xs zero ≢ Some x = λ f. let same : zero ≡ suc j = ring.apart.place zero (suc j) x f e in absurd (omega arith) in
      other x (is_new (suc j) x e) later ∙ ring.knows (suc j) x e

  stands_more : (x : ℕ) (link : Option ℕ × Option ℕ) → new x ≡ Some link → (j : ℕ) × (slice_get (cell ∷ xs) j ≡ Some x)
  stands_more x link e =
      ⊎_elim (λ (same : x ≡ cell). (zero, ap Some (sym same)))
      (λ (ne : x ≢ cell).
      ⊎_elim (λ (f : slice_get xs zero ≡ Some x). (suc zero, f))
      (λ (later : slice_get xs zero ≢ Some x). let found = ring.stands x link (sym (other x ne later) ∙ e) in (suc found.0, found.1))
      (decide (slice_get xs zero) x))
      (cases_eq x cell)

  pub IsRing-push : IsRing new (cell ∷ xs)
  IsRing-push = record { apart = record { place = apart_more }; knows = knows_more; stands = stands_more }

-- what slots know
module _ {T : Type 0} where
  value-next_free : (next : Number) (slot : Slot T) → value_of (next_free next slot) ≡ value_of slot
  value-next_free next (Free link) = refl
  value-next_free next (Full value) = refl

  value-previous_free : (previous : Number) (slot : Slot T) → value_of (previous_free previous slot) ≡ value_of slot
  value-previous_free previous (Free link) = refl
  value-previous_free previous (Full value) = refl

  pub values-previous_free : (previous : Number) (at : ℕ) (slots : List (Slot T)) → values_of (changed_at (previous_free previous) at slots) ≡ values_of slots
  values-previous_free previous at slots = map-changed value_of (previous_free previous) at slots (value-previous_free previous)

  values-after_previous : (slots : List (Slot T)) (at : Option ℕ) (next : Number) → values_of (after_previous slots at next) ≡ values_of slots
  values-after_previous slots None next = refl
  values-after_previous slots (Some at) next = map-changed value_of (next_free next) at slots (value-next_free next)

  pub values-before_next : (slots : List (Slot T)) (at : Option ℕ) (previous : Number) → values_of (before_next slots at previous) ≡ values_of slots
  values-before_next slots None previous = refl
  values-before_next slots (Some at) previous = values-previous_free previous at slots

  pub values-bypassed : (slots : List (Slot T)) (link : FreeLink) → values_of (bypassed slots link) ≡ values_of slots
  values-bypassed slots link = values-before_next (after_previous slots (number_of link.previous) link.next) (number_of link.next) link.previous ∙ values-after_previous slots (number_of link.previous) link.next

  pub free_in-set_same : (slots : List (Slot T)) (at : ℕ) (slot : Slot T) → at < length slots → free_in (set slots at slot) at ≡ neighbours_of (Some slot)
  free_in-set_same slots at slot h = ap neighbours_of (slice_get-set_same slots at slot h)

  pub free_in-set_other : (slots : List (Slot T)) (at x : ℕ) (slot : Slot T) → x ≢ at → free_in (set slots at slot) x ≡ free_in slots x
  free_in-set_other slots at x slot ne = ap neighbours_of (slice_get-set_other slots at x slot ne)

  neighbours-next : (next : Number) (slot : Option (Slot T)) (link : Option ℕ × Option ℕ) → neighbours_of slot ≡ Some link → neighbours_of (option_map (next_free next) slot) ≡ Some (link.0, number_of next)
  neighbours-next next None link e = absurd (none-some link e)
  neighbours-next next (Some (Full value)) link e = absurd (none-some link e)
  neighbours-next next (Some (Free own)) link e = ap (λ (l : Option ℕ × Option ℕ). Some (l.0, number_of next)) (same_Some _ _ e)

  neighbours-previous : (previous : Number) (slot : Option (Slot T)) (link : Option ℕ × Option ℕ) → neighbours_of slot ≡ Some link → neighbours_of (option_map (previous_free previous) slot) ≡ Some (number_of previous, link.1)
  neighbours-previous previous None link e = absurd (none-some link e)
  neighbours-previous previous (Some (Full value)) link e = absurd (none-some link e)
  neighbours-previous previous (Some (Free own)) link e = ap (λ (l : Option ℕ × Option ℕ). Some (number_of previous, l.1)) (same_Some _ _ e)

  pub previous_same : (slots : List (Slot T)) (at : ℕ) (previous : Number) (link : Option ℕ × Option ℕ) → free_in slots at ≡ Some link → free_in (changed_at (previous_free previous) at slots) at ≡ Some (number_of previous, link.1)
  previous_same slots at previous link e = ap neighbours_of (slice_get-changed_same (previous_free previous) at slots) ∙ neighbours-previous previous (slice_get slots at) link e

  pub previous_other : (slots : List (Slot T)) (at x : ℕ) (previous : Number) → x ≢ at → free_in (changed_at (previous_free previous) at slots) x ≡ free_in slots x
  previous_other slots at x previous ne = ap neighbours_of (slice_get-changed_other (previous_free previous) at x slots ne)

  after_same : (slots : List (Slot T)) (at : Option ℕ) (x : ℕ) (next : Number) (link : Option ℕ × Option ℕ) → at ≡ Some x → free_in slots x ≡ Some link → free_in (after_previous slots at next) x ≡ Some (link.0, number_of next)
  after_same slots None x next link e f = absurd (none-some x e)
  after_same slots (Some at) x next link e f =
      let same : at ≡ x = same_Some _ _ e in
      ap (λ (a : ℕ). free_in (changed_at (next_free next) a slots) x) same
      ∙ (ap neighbours_of (slice_get-changed_same (next_free next) x slots) ∙ neighbours-next next (slice_get slots x) link f)

  after_other : (slots : List (Slot T)) (at : Option ℕ) (x : ℕ) (next : Number) → at ≢ Some x → free_in (after_previous slots at next) x ≡ free_in slots x
  after_other slots None x next ne = refl
  after_other slots (Some at) x next ne = ap neighbours_of (slice_get-changed_other (next_free next) at x slots (λ e. ne (ap Some (sym e))))

  pub before_same : (slots : List (Slot T)) (at : Option ℕ) (x : ℕ) (previous : Number) (link : Option ℕ × Option ℕ) → at ≡ Some x → free_in slots x ≡ Some link → free_in (before_next slots at previous) x ≡ Some (number_of previous, link.1)
  before_same slots None x previous link e f = absurd (none-some x e)
  before_same slots (Some at) x previous link e f =
      let same : at ≡ x = same_Some _ _ e in
      ap (λ (a : ℕ). free_in (changed_at (previous_free previous) a slots) x) same ∙ previous_same slots x previous link f

  pub before_other : (slots : List (Slot T)) (at : Option ℕ) (x : ℕ) (previous : Number) → at ≢ Some x → free_in (before_next slots at previous) x ≡ free_in slots x
  before_other slots None x previous ne = refl
  before_other slots (Some at) x previous ne = previous_other slots at x previous (λ e. ne (ap Some (sym e)))

  module _ (slots : List (Slot T)) (link : FreeLink) (x : ℕ) where
    pub bypassed_other : number_of link.previous ≢ Some x → number_of link.next ≢ Some x → free_in (bypassed slots link) x ≡ free_in slots x
    bypassed_other before behind =
        before_other (after_previous slots (number_of link.previous) link.next) (number_of link.next) x link.previous behind
        ∙ after_other slots (number_of link.previous) x link.next before

    pub bypassed_previous : (own : Option ℕ × Option ℕ) → number_of link.previous ≡ Some x → number_of link.next ≢ Some x → free_in slots x ≡ Some own → free_in (bypassed slots link) x ≡ Some (own.0, number_of link.next)
    bypassed_previous own before behind e =
        before_other (after_previous slots (number_of link.previous) link.next) (number_of link.next) x link.previous behind
        ∙ after_same slots (number_of link.previous) x link.next own before e

    pub bypassed_next : (own : Option ℕ × Option ℕ) → number_of link.next ≡ Some x → number_of link.previous ≢ Some x → free_in slots x ≡ Some own → free_in (bypassed slots link) x ≡ Some (number_of link.previous, own.1)
    bypassed_next own behind before e =
        before_same (after_previous slots (number_of link.previous) link.next) (number_of link.next) x link.previous own behind
        (after_other slots (number_of link.previous) x link.next before ∙ e)

  -- a slot that is free or not
  pub is_free : (slots : List (Slot T)) (x : ℕ) (link : Option ℕ × Option ℕ) → free_in slots x ≡ Some link → slice_get (values_of slots) x ≡ Some None
  is_free [] x link e = absurd (none-some link e)
  is_free (Free own ∷ slots) zero link e = refl
  is_free (Full value ∷ slots) zero link e = absurd (none-some link e)
  is_free (slot ∷ slots) (suc x) link e = is_free slots x link e

  pub is_known : (slots : List (Slot T)) (x : ℕ) → slice_get (values_of slots) x ≡ Some None → (link : Option ℕ × Option ℕ) × (free_in slots x ≡ Some link)
  is_known [] x e = absurd (none-some None e)
  is_known (Free own ∷ slots) zero e = ((number_of own.previous, number_of own.next), refl)
  is_known (Full value ∷ slots) zero e = absurd (none-some value (sym (same_Some _ _ e)))
  is_known (slot ∷ slots) (suc x) e = is_known slots x e

  pub is_full : (slots : List (Slot T)) (x : ℕ) (value : T) → slice_get (values_of slots) x ≡ Some (Some value) → free_in slots x ≡ None
  is_full [] x value e = refl
  is_full (Free own ∷ slots) zero value e = absurd (none-some value (same_Some _ _ e))
  is_full (Full own ∷ slots) zero value e = refl
  is_full (slot ∷ slots) (suc x) value e = is_full slots x value e

  length-after : (slots : List (Slot T)) (at : Option ℕ) (next : Number) → length (after_previous slots at next) ≡ length slots
  length-after slots None next = refl
  length-after slots (Some at) next = length-changed (next_free next) at slots

  pub length-before : (slots : List (Slot T)) (at : Option ℕ) (previous : Number) → length (before_next slots at previous) ≡ length slots
  length-before slots None previous = refl
  length-before slots (Some at) previous = length-changed (previous_free previous) at slots

  pub length-bypassed : (slots : List (Slot T)) (link : FreeLink) → length (bypassed slots link) ≡ length slots
  length-bypassed slots link = length-before (after_previous slots (number_of link.previous) link.next) (number_of link.next) link.previous ∙ length-after slots (number_of link.previous) link.next
