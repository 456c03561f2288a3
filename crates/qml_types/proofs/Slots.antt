-- Slots of built-in types.
use Rattle.std.proofs.Common.{◌≡◌, ◌∙◌, ℕ, ◌<◌, length, nat_eq, Option, Some, None, List, [], ◌∷◌, refl, sym, ap, rules, arith}
use Rattle.std.proofs.lemmas.List.Quantifiers.{position-Some}
use Rattle.std.specs.Cmp.Lexicographic.{pointwise}
use Rattle.std.specs.Option.{option_map}
use Rattle.type_table.specs.Slots.{slots, find_slot, place_of_path, NamedSlot}
use Rattle.type_table.specs.declared.built_in.BuiltIn.{BuiltIn}
use Rattle.type_table.specs.declared.slot.Slot.{Slot}

within : (all : List NamedSlot) (path : List ℕ) (place : Option ℕ) (s : Slot) → place_of_path path all ≡ place →
    option_map (λ i. record { index = i }) place ≡ Some s → s.index < length all
within all path None s at is = absurd cc
within [] path (Some i) s at is = absurd cc
within (x ∷ xs) path (Some i) s at is =
    let found = position-Some (λ t. pointwise nat_eq t.path path) (x ∷ xs) i x at in
    let e : s.index ≡ i = cc in
    rw e found.0

-- a slot that is found is one of the type's
pub slot_within : (t : BuiltIn) (path : List ℕ) (s : Slot) → find_slot t path ≡ Some s → s.index < length (slots t)
slot_within t path s found = within (slots t) path (place_of_path path (slots t)) s refl found
