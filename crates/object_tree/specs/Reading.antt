-- What a store holds.
use Rattle.std.specs.Prelude.{ℕ, List, [], ◌+◌, ◌^◌, nat_lt, Bool, false, ◌||◌, if◌then◌else◌, Option, None, Some, is_some, is_none, option_and_then, option_map, slice_get}
use Rattle.std.specs.Option.{option_or}
use Rattle.arena.specs.Arena.{thing_at, next_above}
use Rattle.type_table.specs.declared.slot.SlotInfo.{SlotInfo}
use Rattle.qml_ast.specs.declared.place.Place.{Place}
use Rattle.qml_ast.specs.declared.place.Side.TheVariants.{Set, Shown}
use Rattle.qml_ast.specs.declared.value.Value.{Value}
use Rattle.qml_ast.specs.declared.value.Value.TheVariants as value
use Rattle.object_tree.specs.declared.instance.Instance.{Instance}
use Rattle.object_tree.specs.declared.property.Binding.{Binding}
use Rattle.object_tree.specs.declared.property.Held.{Held}
use Rattle.object_tree.specs.declared.property.Marks.{Marks}
use Rattle.object_tree.specs.declared.property.Property.{Property}
use Rattle.object_tree.specs.Properties.{held_of, binding_of}
use Rattle.object_tree.specs.Store.{Store}

-- ---- objects
-- the object of that serial, if it is live
abbrev pub instance_at : ℕ → Store → Option Instance
instance_at serial store = thing_at serial store.objects

abbrev pub is_live : ℕ → Store → Bool
is_live serial store = is_some (instance_at serial store)

-- the item in which it stands as a visual child
abbrev pub item_parent_at : ℕ → Store → Option ℕ
item_parent_at serial store = option_and_then (λ (i : Instance). i.item_parent) (instance_at serial store)

-- the objects that it owns
abbrev pub owned_by : ℕ → Store → List ℕ
owned_by serial store = elim (instance_at serial store) [ None ↦ [] | Some i ↦ i.children ]

-- ---- places
abbrev pub property_at : ℕ → ℕ → Store → Option Property
property_at serial slot store = option_and_then (λ (i : Instance). slice_get i.properties slot) (instance_at serial store)

-- what a place holds; nothing where there is no such place
abbrev pub held_at : Place → Store → Option Held
held_at place store = option_and_then (held_of place.side) (property_at place.serial place.slot store)

abbrev pub is_place : Place → Store → Bool
is_place place store = is_some (held_at place store)

-- a reference to an object that is no more is read as null, and a line of one as none
abbrev pub value_read : Store → Value → Value
value_read store (value.Obj serial) = if is_live serial store then value.Obj serial else value.Obj 0
value_read store (value.Line (Some line)) = if is_live line.serial store then value.Line (Some line) else value.Line None
value_read store v = v

-- the value of a place
abbrev pub value_at : Place → Store → Option Value
value_at place store = option_map (λ (h : Held). value_read store h.value) (held_at place store)

-- the expression that a place is bound to
abbrev pub binding_at : Place → Store → Option Binding
binding_at place store = option_and_then (binding_of place.side) (property_at place.serial place.slot store)

abbrev pub marks_at : Place → Store → Option Marks
marks_at place store = option_map (λ (h : Held). h.marks) (held_at place store)

-- the slot of a place was given something
abbrev pub is_given_at : Place → Store → Bool
is_given_at place store = given (property_at place.serial place.slot store)
  where
    given : Option Property → Bool
    given None = false
    given (Some property) = property.is_given

-- what is known of a slot; nobody writes those of a content item
abbrev pub info_in : Instance → Property → SlotInfo
info_in instance property = record property.info { read_only = property.info.read_only || is_none instance.object.parent }

abbrev pub info_at : Place → Store → Option SlotInfo
info_at place store = option_and_then (λ (i : Instance). option_map (info_in i) (slice_get i.properties place.slot)) (instance_at place.serial store)

-- ---- their order
-- the first place of the slots from this one on
abbrev pub place_in : ℕ → ℕ → Property → Place
place_in serial slot property = record { serial = serial; slot = slot; side = if is_some property.set then Set else Shown }

abbrev pub first_from : ℕ → ℕ → Instance → Option Place
first_from serial slot instance = option_map (place_in serial slot) (slice_get instance.properties slot)

-- the place after one of the same object, whose slots have numbers of 32 bits
abbrev pub next_within : Place → Instance → Option Place
next_within place instance = elim place.side [
  | Set ↦ option_map (λ (p : Property). record place { side = Shown }) (slice_get instance.properties place.slot)
  | Shown ↦ if nat_lt (place.slot + 1) (2 ^ 32) then first_from place.serial (place.slot + 1) instance else None
]

-- the first place of an object that comes after those of this serial
abbrev pub first_above : ℕ → Store → Option Place
first_above serial store = option_and_then (λ (e : ℕ × Instance). first_from e.0 0 e.1) (next_above serial store.objects)

-- the place that comes after this one, or the first of all
abbrev pub place_after : Option Place → Store → Option Place
place_after None store = first_above 0 store
place_after (Some place) store =
    option_or (option_and_then (next_within place) (instance_at place.serial store)) (first_above place.serial store)
