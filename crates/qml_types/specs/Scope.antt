-- What the members of an object can name: the slots and signals of the object's type, and its own.
use Rattle.std.specs.Prelude.{ℕ, ◌+◌, ◌-◌, Bool, true, false, ◌&&◌, ◌||◌, ◌==◌, nat_le, Option, None, Some, is_some, option_map, option_and_then, List, [], ◌∷◌, ◌++◌, length, take, drop, bytes_eq, codes, if◌then◌else◌}
use Rattle.std.specs.List.{list_any, slice_get}
use Rattle.std.specs.Option.{option_or}
use Rattle.type_table.specs.Names.{signals, methods, place_in}
use Rattle.type_table.specs.Slots.{slots, find_slot, has_group, NamedSlot}
use Rattle.type_table.specs.declared.built_in.BuiltIn.{BuiltIn}
use Rattle.qml_ast.specs.declared.path.Path.{Path}
use Rattle.qml_types.specs.declared.component.Base.{Base}
use Rattle.qml_types.specs.declared.features.Feature.{Feature}
use Rattle.qml_types.specs.declared.features.Feature.TheVariants.{Slot, Signal, Method}
use Rattle.qml_types.specs.declared.features.SlotFacts.{SlotFacts}
use Rattle.qml_types.specs.Features.{Features, meaning, TypeView, view_of}
use Rattle.qml_types.specs.Known.{KnownTypes}

-- what an object's members stand in
pub record Scope : Type 0 where
  -- the types that can be named
  pub known : KnownTypes
  -- the object's type, if there is one of its name
  pub type : Option Base
  -- what the object declares itself
  pub own : Features

-- ---- slots
-- the facts of a built-in slot
abbrev pub slot_facts : NamedSlot → SlotFacts
slot_facts slot = record { kind = Some slot.info.kind; read_only = slot.info.read_only }

-- the slot of a built-in type under a path
unfoldable pub built_in_slot : BuiltIn → List ℕ → Option SlotFacts
built_in_slot t path = option_and_then (λ s. option_map slot_facts (slice_get (slots t) s.index)) (find_slot t path)

-- the slot of that name among what is declared
abbrev pub slot_among : Option Feature → Option SlotFacts
slot_among (Some (Slot facts)) = Some facts
slot_among _ = None

-- the slot of that name in an object of a type that declares this itself; where both have it, the type's
unfoldable pub slot_named : TypeView → Features → List ℕ → Option SlotFacts
slot_named type own name =
    option_or (built_in_slot type.built_in name)
    (option_or (slot_among (meaning name type.features)) (slot_among (meaning name own)))

-- two names with a dot between them
abbrev pub dotted : List ℕ → List ℕ → List ℕ
dotted first second = first ++ (46 ∷ second)

-- the slot under a path of one name or two; only built-in groups have paths of two
abbrev pub slot_under : TypeView → Features → List ℕ → Option (List ℕ) → Option SlotFacts
slot_under type own first None = slot_named type own first
slot_under type own first (Some second) = built_in_slot type.built_in (dotted first second)

-- the slot of an object; one of unknown type has every slot
unfoldable pub slot_of : Scope → Path → Option SlotFacts
slot_of scope path = elim scope.type [
  | None ↦ Some (record { kind = None; read_only = false })
  | Some base ↦ slot_under (view_of base) scope.own path.first path.second
]

-- ---- names
-- a built-in type has something of that name: a slot, a signal, a method or a group of slots
unfoldable pub built_in_has : BuiltIn → List ℕ → Bool
built_in_has t name =
    is_some (find_slot t name) || (is_some (place_in (signals t) name) || (is_some (place_in (methods t) name) || has_group t name))

-- the type has something of that name
unfoldable pub type_has : Option Base → List ℕ → Bool
type_has None name = false
type_has (Some base) name = built_in_has (view_of base).built_in name || is_some (meaning name (view_of base).features)

-- ---- signals
abbrev pub is_signal : Option Feature → Bool
is_signal (Some Signal) = true
is_signal _ = false

-- an object of a type that declares this itself has a signal of that name
unfoldable pub has_signal : TypeView → Features → List ℕ → Bool
has_signal type own name =
    is_some (place_in (signals type.built_in) name) || (is_signal (meaning name type.features) || is_signal (meaning name own))

-- the slot of whose changes a signal of that name tells: `x` of `xChanged`
unfoldable pub changing : List ℕ → Option (List ℕ)
changing name =
    if bytes_eq (drop (length name - 7) name) (codes "Changed") then Some (take (length name - 7) name) else None

-- it has a slot of whose changes a signal of that name tells
unfoldable pub has_change : TypeView → Features → List ℕ → Bool
has_change type own name = is_some (option_and_then (slot_named type own) (changing name))

-- ---- handlers
-- an upper-case letter
abbrev pub is_upper : ℕ → Bool
is_upper c = nat_le 65 c && nat_le c 90

-- a name that begins with an upper-case letter
abbrev pub begins_upper : List ℕ → Bool
begins_upper [] = false
begins_upper (c ∷ _) = is_upper c

-- the name with its first letter, an upper-case one, in lower case
abbrev pub with_lower : List ℕ → List ℕ
with_lower [] = []
with_lower (c ∷ rest) = (c + 32) ∷ rest

-- the signals that `on` and this name handle: `foo` and `Foo` for `Foo`, and none for a name without an upper-case letter
abbrev pub signals_behind : List ℕ → List (List ℕ)
signals_behind name = if begins_upper name then with_lower name ∷ name ∷ [] else []

-- the signals that a handler of that name handles
unfoldable pub signals_for : List ℕ → List (List ℕ)
signals_for name = if bytes_eq (take 2 name) (codes "on") then signals_behind (drop 2 name) else []

-- something of that name is handled: a signal, or a slot's changes
unfoldable pub is_told_of : TypeView → Features → List ℕ → Bool
is_told_of type own signal = has_signal type own signal || has_change type own signal

-- a handler of one name handles a signal, or a slot's changes
unfoldable pub handles : TypeView → Features → List ℕ → Bool
handles type own name = list_any (is_told_of type own) (signals_for name)

-- a handler of two names is one of a component's
unfoldable pub is_attached : List ℕ → List ℕ → Bool
is_attached first second =
    bytes_eq first (codes "Component") && (bytes_eq second (codes "onCompleted") || bytes_eq second (codes "onDestruction"))

abbrev pub handler_under : TypeView → Features → List ℕ → Option (List ℕ) → Bool
handler_under type own first None = handles type own first
handler_under type own first (Some second) = is_attached first second

-- a handler of that path handles something; an object of unknown type has every handler
unfoldable pub is_handler : Scope → Path → Bool
is_handler scope path = elim scope.type [
  | None ↦ true
  | Some base ↦ handler_under (view_of base) scope.own path.first path.second
]
