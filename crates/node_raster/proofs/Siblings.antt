-- Children of a node, one after another.
use Rattle.std.proofs.Common.{◌≡◌, ◌≢◌, ◌==◌, ⊎_elim, ℕ, zero, suc, ◌+◌, ◌-◌, ◌<◌, ◌≤◌, List, [], ◌∷◌, ◌++◌, take, length, get_or, Option, Some, None, cond, refl, sym, ap, ◌∙◌, eq-eqb, ne_eqb, append-nil, arith}
use Rattle.std.specs.Prelude.{option_map, flat_map, slice_get}
use Rattle.std.proofs.lemmas.Option.{none-some, same_Some, slice_get_within, get_or_from_slice_get, slice_get-get_or}
use Rattle.std.proofs.lemmas.Bool.{cases_lt}
use Rattle.std.proofs.lemmas.List.{take_more, take_all}
use Rattle.std.proofs.lemmas.Grind.{flat_map-append}
use Rattle.links.specs.declared.node_key.NodeKey.{NodeKey}
use Rattle.sg_nodes.specs.Forest.{key_of}

-- how many there are from the first place on that has the slot
abbrev count_from : List ℕ → ℕ → ℕ
count_from [] slot = 0
count_from (x ∷ xs) slot = cond (x == slot) (suc (length xs)) (count_from xs slot)

abbrev pub left_from : List ℕ → Option NodeKey → ℕ
left_from xs None = 0
left_from xs (Some key) = count_from xs key.slot

-- none stands at two places
abbrev pub AreOnce : List ℕ → Type 0
AreOnce xs = (i j x : ℕ) → slice_get xs i ≡ Some x → slice_get xs j ≡ Some x → i ≡ j

once_in_rest : (x : ℕ) (xs : List ℕ) → AreOnce (x ∷ xs) → AreOnce xs
once_in_rest x xs once i j y at other = let same : suc i ≡ suc j = once (suc i) (suc j) y at other in omega arith

count_at : (xs : List ℕ) → AreOnce xs → (place slot : ℕ) → slice_get xs place ≡ Some slot → count_from xs slot ≡ length xs - place
count_at [] once place slot at = absurd (none-some slot at)
count_at (x ∷ xs) once zero slot at = ap (λ b. cond b (suc (length xs)) (count_from xs slot)) (eq-eqb x slot (same_Some x slot at)) ∙ (omega arith)
count_at (x ∷ xs) once (suc place) slot at =
    let other : x ≢ slot = λ same. let never : zero ≡ suc place = once zero (suc place) slot (ap Some same) at in omega arith in
    let rest = count_at xs (once_in_rest x xs once) place slot at in
    let within = slice_get_within xs place slot at in
    ap (λ b. cond b (suc (length xs)) (count_from xs slot)) (ne_eqb x slot other) ∙ (omega arith)

-- as many as from the place of the next one on
left_at : (xs : List ℕ) → AreOnce xs → (place : ℕ) (o : Option ℕ) → slice_get xs place ≡ o → left_from xs (option_map key_of o) ≤ length xs - place
left_at xs once place None at = omega arith
left_at xs once place (Some slot) at = let same = count_at xs once place slot at in omega arith

-- fewer are left from the next one on
pub fewer_left : (xs : List ℕ) → AreOnce xs → (place : ℕ) (key : NodeKey) (now next : Option NodeKey) → now ≡ Some key → slice_get xs place ≡ Some key.slot
    → next ≡ option_map key_of (slice_get xs (place + 1)) → left_from xs next < left_from xs now
fewer_left xs once place key now next is at after =
    let here = count_at xs once place key.slot at in
    let within = slice_get_within xs place key.slot at in
    let then = left_at xs once (place + 1) (slice_get xs (place + 1)) refl in
    let left_now = ap (left_from xs) is in
    let left_next = ap (left_from xs) after in
    omega arith

-- ---- what was painted
-- with one more
pub one_more : {A : Type 0} (f : ℕ → List A) (xs : List ℕ) (place slot : ℕ) → slice_get xs place ≡ Some slot
    → flat_map f (take (place + 1) xs) ≡ flat_map f (take place xs) ++ f slot
one_more f xs place slot at =
    let within = slice_get_within xs place slot at in
    ap (flat_map f) (take_more xs place 0 within ∙ ap (λ x. take place xs ++ x ∷ []) (get_or_from_slice_get xs place slot 0 at))
    ∙ flat_map-append f (take place xs) (slot ∷ [])
    ∙ ap (λ ys. flat_map f (take place xs) ++ ys) (append-nil (f slot))

-- where none comes next, all were
pub all_before : (xs : List ℕ) (place : ℕ) → option_map key_of (slice_get xs place) ≡ None → take place xs ≡ xs
all_before xs place none =
    take_all place xs
    (⊎_elim
    (λ (lt : place < length xs). absurd (none-some (key_of (get_or xs place 0)) (sym none ∙ ap (option_map key_of) (slice_get-get_or xs place 0 lt))))
    (λ (le : length xs ≤ place). le)
    (cases_lt place (length xs)))

-- the slot that a key is of
pub slot_is : (o : Option ℕ) (key : NodeKey) → option_map key_of o ≡ Some key → o ≡ Some key.slot
slot_is None key is = absurd (none-some key is)
slot_is (Some slot) key is = ap (λ (k : NodeKey). Some k.slot) (same_Some (key_of slot) key is)
