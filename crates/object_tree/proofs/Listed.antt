-- The places of one slot after another, and of one object after another.
use Rattle.std.proofs.Common.{zero, suc, ◌≡◌, ◌∙◌, ℕ, ◌+◌, ◌<◌, ◌≤◌, List, [], ◌∷◌, ◌++◌, length, get_or, drop, refl, sym, ap, add-one, append_assoc, arith}
use Rattle.std.proofs.lemmas.List.{append-nil}
use Rattle.qml_ast.specs.declared.place.Place.{Place}
use Rattle.object_tree.specs.declared.property.Property.{Property}
use Rattle.object_tree.specs.Places.{places_in_slot, places_from, places_in, places_under}
use Rattle.object_tree.specs.Reading.{instance_at}
use Rattle.object_tree.specs.Store.{Store}

-- the item at hand, and those after it
next_is : {X : Type 0} (xs : List X) (i : ℕ) (x : X) → i < length xs → x ≡ get_or xs i x → drop i xs ≡ x ∷ drop (suc i) xs
next_is [] i x within is = absurd (omega arith)
next_is (y ∷ ys) zero x within is = ap (λ z. z ∷ ys) (sym is)
next_is (y ∷ ys) (suc i) x within is = next_is ys i x (omega arith) is

none_left : {X : Type 0} (xs : List X) (i : ℕ) → length xs ≤ i → drop i xs ≡ []
none_left [] zero past = refl
none_left [] (suc i) past = refl
none_left (x ∷ xs) zero past = absurd (omega arith)
none_left (x ∷ xs) (suc i) past = none_left xs i (omega arith)

next : {X : Type 0} (xs : List X) (i : ℕ) (x : X) → i < length xs → x ≡ get_or xs i x → drop i xs ≡ x ∷ drop (i + 1) xs
next xs i x within is = next_is xs i x within is ∙ ap (λ k. x ∷ drop k xs) (sym (add-one i))

pub slots_more : (serial i : ℕ) (ps : List Property) (p : Property) (old : List Place) → i < length ps → p ≡ get_or ps i p →
    (old ++ places_in_slot serial i p) ++ places_from serial (i + 1) (drop (i + 1) ps) ≡ old ++ places_from serial i (drop i ps)
slots_more serial i ps p old within is =
    append_assoc old (places_in_slot serial i p) (places_from serial (i + 1) (drop (i + 1) ps)) ∙ ap (λ qs. old ++ places_from serial i qs) (sym (next ps i p within is))

pub slots_end : (serial i : ℕ) (ps : List Property) (old : List Place) → length ps ≤ i → old ++ places_from serial i (drop i ps) ≡ old
slots_end serial i ps old past = rw (none_left ps i past) (append-nil old)

number_next : (xs : List ℕ) (i : ℕ) → i < length xs → drop i xs ≡ get_or xs i 0 ∷ drop (i + 1) xs
number_next xs i within = by xs i within ∙ ap (λ k. get_or xs i 0 ∷ drop k xs) (sym (add-one i))
  where
    by : (xs : List ℕ) (i : ℕ) → i < length xs → drop i xs ≡ get_or xs i 0 ∷ drop (suc i) xs
    by [] i within = absurd (omega arith)
    by (x ∷ xs) zero within = refl
    by (x ∷ xs) (suc i) within = by xs i (omega arith)

pub objects_more : (store : Store) (i : ℕ) (serials : List ℕ) (old new : List Place) → i < length serials → new ≡ old ++ places_in (get_or serials i 0) (instance_at (get_or serials i 0) store) →
    new ++ places_under (drop (i + 1) serials) store ≡ old ++ places_under (drop i serials) store
objects_more store i serials old new within is =
    ap (λ ps. ps ++ places_under (drop (i + 1) serials) store) is
    ∙ append_assoc old (places_in (get_or serials i 0) (instance_at (get_or serials i 0) store)) (places_under (drop (i + 1) serials) store)
    ∙ ap (λ ns. old ++ places_under ns store) (sym (number_next serials i within))

pub objects_end : (store : Store) (i : ℕ) (serials : List ℕ) (old : List Place) → length serials ≤ i → old ++ places_under (drop i serials) store ≡ old
objects_end store i serials old past = rw (none_left serials i past) (append-nil old)
