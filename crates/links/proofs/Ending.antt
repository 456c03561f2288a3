-- The first and last cells of lists after one list got other cells.
use Rattle.std.proofs.Common.{◌≡◌, ℕ, zero, suc, ◌-◌, ◌<◌, ◌≤◌, List, [], ◌∷◌, length, set, Option, Some, None, option_map, unwrap_or, refl, ap, sym, ◌∙◌}
use Rattle.std.specs.List.{slice_get, insert, remove}
use Rattle.std.proofs.lemmas.Option.{slice_get-map, none-some, same_Some}
use Rattle.links.specs.declared.cell.Link.{Link}
use Rattle.links.specs.declared.cell.Ends.{Ends}
use Rattle.links.specs.declared.cell.Cell.{Cell}
use Rattle.links.specs.Cells.{with_first_after, with_last_before, with_ends, ends_of, previous_at, link_at, Represents}
use Rattle.links.proofs.Places.{slice_get-set_same, set_same}
use Rattle.links.proofs.Neighbours.{if_none, first-insert, last-insert, first-remove, last-remove}
use Rattle.links.proofs.Putting.{gap_at}

set-set : {A : Type 0} (xs : List A) (i : ℕ) (x y : A) → set (set xs i x) i y ≡ set xs i y
set-set [] i x y = refl
set-set (z ∷ xs) zero x y = refl
set-set (z ∷ xs) (suc i) x y = ap (λ ys. z ∷ ys) (set-set xs i x y)

with_first_after_is : (ends : List (Option Ends)) (list : ℕ) (before first : Option ℕ) (own : Ends) → unwrap_or (slice_get ends list) None ≡ Some own
    → with_first_after ends list before first ≡ set ends list (Some (record own { first = if_none before first own.first }))
with_first_after_is ends list None first own e = ap (λ slot. set ends list (option_map (λ (es : Ends). record es { first = first }) slot)) e
with_first_after_is ends list (Some x) first own e = sym (set_same ends list (Some own) e)

with_last_before_is : (ends : List (Option Ends)) (list : ℕ) (behind last : Option ℕ) (own : Ends) → unwrap_or (slice_get ends list) None ≡ Some own
    → with_last_before ends list behind last ≡ set ends list (Some (record own { last = if_none behind last own.last }))
with_last_before_is ends list None last own e = ap (λ slot. set ends list (option_map (λ (es : Ends). record es { last = last }) slot)) e
with_last_before_is ends list (Some x) last own e = sym (set_same ends list (Some own) e)

pub with_ends_is : (ends : List (Option Ends)) (place : Link) (next previous : Option ℕ) (own : Ends) → place.list < length ends → unwrap_or (slice_get ends place.list) None ≡ Some own
    → with_ends ends place next previous ≡ set ends place.list (Some (record { first = if_none place.previous next own.first; last = if_none place.next previous own.last }))
with_ends_is ends place next previous own within e =
    let changed = record own { first = if_none place.previous next own.first } in
    let there : unwrap_or (slice_get (set ends place.list (Some changed)) place.list) None ≡ Some changed =
    ap (λ slot. unwrap_or slot None) (slice_get-set_same ends place.list (Some changed) within) in
    ap (λ es. with_last_before es place.list place.next previous) (with_first_after_is ends place.list place.previous next own e)
    ∙ (with_last_before_is (set ends place.list (Some changed)) place.list place.next previous changed there
    ∙ set-set ends place.list (Some changed) _)

-- what a list knows of its ends
ends_of_slot : (slot : Option (Option (List ℕ))) → unwrap_or (option_map (option_map ends_of) slot) None ≡ option_map ends_of (unwrap_or slot None)
ends_of_slot None = refl
ends_of_slot (Some slot) = refl

pub ends_at : {cells : List (Option Cell)} {ends : List (Option Ends)} {lists : List (Option (List ℕ))} → Represents cells ends lists → (list : ℕ)
    → unwrap_or (slice_get ends list) None ≡ option_map ends_of (unwrap_or (slice_get lists list) None)
ends_at {lists} holds list =
    ap (λ es. unwrap_or (slice_get es list) None) holds.ends_known
    ∙ (ap (λ slot. unwrap_or slot None) (slice_get-map (option_map ends_of) lists list) ∙ ends_of_slot (slice_get lists list))

same_ends : (first last other_first other_last : Option ℕ) → first ≡ other_first → last ≡ other_last
    → ◌≡◌ {A = Ends} (record { first = first; last = last }) (record { first = other_first; last = other_last })
same_ends first last other_first other_last e f = ap (λ x. record { first = x; last = last }) e ∙ ap (λ x. record { first = other_first; last = x }) f

pub with_ends-insert : (ends : List (Option Ends)) (list i cell : ℕ) (xs : List ℕ) → i ≤ length xs → list < length ends → unwrap_or (slice_get ends list) None ≡ Some (ends_of xs)
    → with_ends ends (gap_at list xs i) (Some cell) (Some cell) ≡ set ends list (Some (ends_of (insert xs i cell)))
with_ends-insert ends list i cell xs within has e =
    with_ends_is ends (gap_at list xs i) (Some cell) (Some cell) (ends_of xs) has e
    ∙ ap (λ es. set ends list (Some es)) (same_ends _ _ _ _ (sym (first-insert xs i cell within)) (sym (last-insert xs i cell within)))

pub with_ends-remove : (ends : List (Option Ends)) (list i : ℕ) (xs : List ℕ) → i < length xs → list < length ends → unwrap_or (slice_get ends list) None ≡ Some (ends_of xs)
    → with_ends ends (link_at list xs i) (slice_get xs (suc i)) (previous_at xs i) ≡ set ends list (Some (ends_of (remove xs i)))
with_ends-remove ends list i xs within has e =
    with_ends_is ends (link_at list xs i) (slice_get xs (suc i)) (previous_at xs i) (ends_of xs) has e
    ∙ ap (λ es. set ends list (Some es)) (same_ends _ _ _ _ (sym (first-remove xs i within)) (sym (last-remove xs i within)))

-- a list's first and last cell, from its ends
pub first_from : (slot : Option (List ℕ)) (ends : Ends) → option_map ends_of slot ≡ Some ends → ends.first ≡ slice_get (unwrap_or slot []) 0
first_from None ends e = absurd (none-some ends e)
first_from (Some xs) ends e = ap (λ (es : Ends). es.first) (sym (same_Some _ _ e))

pub last_from : (slot : Option (List ℕ)) (ends : Ends) → option_map ends_of slot ≡ Some ends → ends.last ≡ slice_get (unwrap_or slot []) (length (unwrap_or slot []) - 1)
last_from None ends e = absurd (none-some ends e)
last_from (Some xs) ends e = ap (λ (es : Ends). es.last) (sym (same_Some _ _ e))
