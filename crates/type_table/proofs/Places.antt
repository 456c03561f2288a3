-- Places in a list, and what holds of the whole table.
use Rattle.std.proofs.Common.{◌≡◌, ℕ, zero, suc, Bool, true, false, ◌&&◌, List, [], ◌∷◌, Option, None, Some, map, position, cond, not, ◌+◌, ◌<◌, nat_eq, nat_lt, length, get_or, IsTrue, refl, ap, sym, ◌∙◌, arith, add-zero}
use Rattle.std.proofs.lemmas.Bool.{false≢true, eqb-true}
use Rattle.std.proofs.lemmas.List.{length-map, get_or-map}
use Rattle.std.specs.List.{position_or_len}
use Rattle.std.specs.Option.{option_eq, option_map}
use Rattle.type_table.specs.declared.built_in.BuiltIn.{BuiltIn}
use Rattle.type_table.specs.declared.built_in.BuiltIn.TheVariants.{QtObject, Item, Rectangle, Row, Column, MouseArea, Timer, Loader, Component}
use Rattle.type_table.specs.declared.slot.Slot.{Slot}
use Rattle.type_table.specs.declared.table.TableRow.{TableRow}
use Rattle.type_table.specs.Names.{type_name, built_in_named}
use Rattle.type_table.specs.Slots.{NamedSlot, slot_of, slots, paths, place_of_path, find_slot, are_found, is_item, is_sound}
use Rattle.type_table.specs.ItemSlots.{are_numbered}

module _ {A B : Type 0} (q : B → Bool) (f : A → B) where
  position_or_len-map : (xs : List A) → position_or_len q (map f xs) ≡ position_or_len (λ x. q (f x)) xs
  position_or_len-map [] = refl
  position_or_len-map (x ∷ xs) = ap (λ n. cond (not (q (f x))) (1 + n) 0) (position_or_len-map xs)

  -- the first place where the image of an element passes
  pub position-map : (xs : List A) → position q (map f xs) ≡ position (λ x. q (f x)) xs
  position-map xs =
      ap (λ n. cond (nat_lt n (length (map f xs))) (Some n) None) (position_or_len-map xs)
      ∙ ap (λ l. cond (nat_lt (position_or_len (λ x. q (f x)) xs) l) (Some (position_or_len (λ x. q (f x)) xs)) None) (length-map xs f)

-- each type's slots keep the table's rules
pub slots_are_sound : (t : BuiltIn) → IsTrue (is_sound t)
unfolding slots
slots_are_sound QtObject = refl
slots_are_sound Item = refl
slots_are_sound Rectangle = refl
slots_are_sound Row = refl
slots_are_sound Column = refl
slots_are_sound MouseArea = refl
slots_are_sound Timer = refl
slots_are_sound Loader = refl
slots_are_sound Component = refl

-- no two types have the same name
pub built_in_named-type_name : (t : BuiltIn) → built_in_named (type_name t) ≡ Some t
unfolding built_in_named
built_in_named-type_name QtObject = refl
built_in_named-type_name Item = refl
built_in_named-type_name Rectangle = refl
built_in_named-type_name Row = refl
built_in_named-type_name Column = refl
built_in_named-type_name MouseArea = refl
built_in_named-type_name Timer = refl
built_in_named-type_name Loader = refl
built_in_named-type_name Component = refl

-- the constants for slots of items, in each type
pub numbered : (t : BuiltIn) → are_numbered t ≡ is_item t
unfolding slots
numbered QtObject = refl
numbered Item = refl
numbered Rectangle = refl
numbered Row = refl
numbered Column = refl
numbered MouseArea = refl
numbered Timer = refl
numbered Loader = refl
numbered Component = refl

-- ---- a type's slots under their paths
pub left : (a b : Bool) → IsTrue (a && b) → IsTrue a
left true b h = refl
left false b h = h

pub right : (a b : Bool) → IsTrue (a && b) → IsTrue b
right true b h = h
right false b h = absurd (false≢true h)

same_number : (o : Option ℕ) (n : ℕ) → IsTrue (option_eq nat_eq o (Some n)) → o ≡ Some n
same_number None n h = absurd (false≢true h)
same_number (Some m) n h = ap Some (eqb-true m n h)

each_found : (t : BuiltIn) (before : ℕ) (xs : List NamedSlot) → IsTrue (are_found t before xs) → (i : ℕ) → i < length xs → place_of_path (get_or (map (λ s. s.path) xs) i []) (slots t) ≡ Some (before + i)
each_found t before [] h i below = absurd (omega arith)
each_found t before (s ∷ rest) h zero below = simp add-zero (same_number _ before (left _ _ h))
each_found t before (s ∷ rest) h (suc i) below =
    each_found t (before + 1) rest (right _ _ h) i (omega arith) ∙ ap Some (omega arith)

pub found : (t : BuiltIn) (i : ℕ) → i < length (slots t) → place_of_path (get_or (paths t) i []) (slots t) ≡ Some i
found t i below = each_found t 0 (slots t) (left _ _ (slots_are_sound t)) i below ∙ ap Some (omega arith)

pub row_path : (rows : List TableRow) (t : BuiltIn) (i : ℕ) (d : TableRow) → map slot_of rows ≡ slots t → i < length (slots t) → (get_or rows i d).path.now ≡ get_or (paths t) i []
row_path rows t i d e below =
    let within : i < length rows = omega (arith, ap length e, length-map rows slot_of) in
    sym (ap (λ p. p.path) (get_or-map slot_of rows i d (slot_of d) within))
    ∙ sym (get_or-map (λ s. s.path) (map slot_of rows) i (slot_of d) [] (omega (arith, length-map rows slot_of)))
    ∙ ap (λ xs. get_or (map (λ (s : NamedSlot). s.path) xs) i []) e

pub row_found : (rows : List TableRow) (t : BuiltIn) (i : ℕ) (d : TableRow) → map slot_of rows ≡ slots t → i < length (slots t) → find_slot t (get_or rows i d).path.now ≡ Some (record { index = i })
row_found rows t i d e below =
    ap (option_map {U = Slot} (λ n. record { index = n }))
    (ap (λ p. place_of_path p (slots t)) (row_path rows t i d e below) ∙ found t i below)
