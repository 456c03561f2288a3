-- What calls make of a store.
use Rattle.std.specs.Prelude.{ℕ, zero, suc, ◌+◌, ◌-◌, ◌^◌, nat_lt, if◌then◌else◌, length, None, Some, List, slice_get, slice_set}
use Rattle.arena.specs.Arena.{Arena, thing_at, with_thing}
use Rattle.qml_ast.specs.declared.place.Place.{Place}
use Rattle.qml_ast.specs.declared.value.Value.{Value}
use Rattle.object_tree.specs.declared.instance.Instance.{Instance}
use Rattle.object_tree.specs.declared.property.Marks.{Marks}
use Rattle.object_tree.specs.declared.property.Property.{Property}
use Rattle.object_tree.specs.Properties.{with_value, with_marks, with_written, restarted}
use Rattle.object_tree.specs.Store.{Store}

-- ---- one item or object
-- the list with f of one item, if there is one there
abbrev pub with_item : {X : Type 0} → (X → X) → ℕ → List X → List X
with_item f at xs = elim (slice_get xs at) [ None ↦ xs | Some x ↦ slice_set xs at (f x) ]

-- the arena with f of the value under one serial, if there is one there
abbrev pub with_change : {X : Type 0} → (X → X) → ℕ → Arena X → Arena X
with_change f serial arena = elim (thing_at serial arena) [ None ↦ arena | Some x ↦ with_thing serial arena (f x) ]

-- the store with f of one object, if it is live
abbrev pub with_instance : (Instance → Instance) → ℕ → Store → Store
with_instance f serial store = record store { objects = with_change f serial store.objects }

abbrev pub with_property : (Property → Property) → ℕ → Instance → Instance
with_property f slot instance = record instance { properties = with_item f slot instance.properties }

-- the store with f of one slot, if there is one there
abbrev pub with_slot : (Property → Property) → ℕ → ℕ → Store → Store
with_slot f serial slot store = with_instance (with_property f slot) serial store

-- ---- places
-- the value that a settle gives a place
abbrev pub kept : Place → Value → Store → Store
kept place value store = with_slot (with_value store.settle place.side value) place.serial place.slot store

-- the marks that a settle gives a place
abbrev pub marked : Place → Marks → Store → Store
marked place marks store = with_slot (with_marks place.side marks) place.serial place.slot store

-- the value that is written to a place
abbrev pub written : Place → Value → Store → Store
written place value store = with_slot (with_written store.settle place.side value) place.serial place.slot store

-- ---- the end of a settle
-- the first slots as they stand where the numbers of settles begin again
abbrev pub restarted_first : ℕ → Instance → Instance
restarted_first zero instance = instance
restarted_first (suc n) instance = with_property restarted n (restarted_first n instance)

abbrev pub restarted_instance : Instance → Instance
restarted_instance instance = restarted_first (length instance.properties) instance

-- the objects up to this serial
abbrev pub restarted_up_to : ℕ → Store → Store
restarted_up_to zero store = store
restarted_up_to (suc n) store = with_instance restarted_instance (suc n) (restarted_up_to n store)

-- the store with the next settle; after the last number that there is the numbers begin again
unfoldable pub ended : Store → Store
ended store =
    if nat_lt store.settle (2 ^ 64 - 1) then record store { settle = store.settle + 1 }
    else record (restarted_up_to store.objects.last store) { settle = 1 }
