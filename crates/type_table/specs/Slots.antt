-- The slots of the built-in types, as the manual lists them: those of the type that it is based on, and
-- then its own.
use Rattle.std.specs.Prelude.{ℕ, Bool, true, false, ◌&&◌, ◌||◌, not, ◌+◌, pos, nat_eq, if◌then◌else◌, Option, None, Some, List, [], ◌∷◌, ◌++◌, map, position, codes}
use Rattle.std.specs.List.{list_all, list_any}
use Rattle.std.specs.Option.{option_eq, option_map}
use Rattle.std.specs.Cmp.Lexicographic.{pointwise}
use Rattle.type_table.specs.declared.built_in.BuiltIn.{BuiltIn}
use Rattle.type_table.specs.declared.built_in.BuiltIn.TheVariants.{QtObject, Item, Rectangle, Row, Column, MouseArea, Timer, Loader, Component}
use Rattle.type_table.specs.declared.slot.Kind.{Kind}
use Rattle.type_table.specs.declared.slot.Kind.TheVariants as kind
use Rattle.type_table.specs.declared.slot.Initial.{Initial}
use Rattle.type_table.specs.declared.slot.Initial.TheVariants as initial
use Rattle.type_table.specs.declared.slot.Slot.{Slot}
use Rattle.type_table.specs.declared.slot.SlotInfo.{SlotInfo}
use Rattle.type_table.specs.declared.table.TableRow.{TableRow}

-- a slot under its path
pub record NamedSlot : Type 0 where
  pub path : List ℕ
  pub info : SlotInfo

-- a row of the code's table
abbrev pub slot_of : TableRow → NamedSlot
slot_of row = record { path = row.path.now; info = row.info }

-- ---- slots
-- one that documents write, and that has one value
abbrev slot : List ℕ → Kind → Initial → NamedSlot
slot path k i = record { path = path; info = record { kind = k; initial = i; read_only = false; sided = false } }

-- one that documents don't write
abbrev read_only : NamedSlot → NamedSlot
read_only s = record s { info = record s.info { read_only = true } }

-- one with a value that is set and a value that is shown
abbrev sided : NamedSlot → NamedSlot
sided s = record s { info = record s.info { sided = true } }

-- an integer that begins as 0
abbrev number : List ℕ → NamedSlot
number path = slot path kind.Int (initial.Int (pos 0))

-- a truth value that begins as this one
abbrev truth : List ℕ → Bool → NamedSlot
truth path b = slot path kind.Bool (initial.Bool b)

-- one of the object's own lines
abbrev own_line : List ℕ → NamedSlot
own_line path = read_only (slot path kind.Line initial.OwnLine)

-- a line that is none at first
abbrev anchor : List ℕ → NamedSlot
anchor path = slot path kind.Line initial.NoLine

-- an object that is null at first
abbrev object : List ℕ → NamedSlot
object path = slot path kind.Obj initial.Null

-- ---- what each type has of its own
abbrev object_own : List NamedSlot
object_own = slot (codes "objectName") kind.Str initial.Empty ∷ []

abbrev item_own : List NamedSlot
item_own =
    read_only (object (codes "parent"))
    ∷ sided (number (codes "x"))
    ∷ sided (number (codes "y"))
    ∷ number (codes "z")
    ∷ sided (number (codes "width"))
    ∷ sided (number (codes "height"))
    ∷ sided (number (codes "implicitWidth"))
    ∷ sided (number (codes "implicitHeight"))
    ∷ sided (truth (codes "visible") true)
    ∷ sided (truth (codes "enabled") true)
    ∷ truth (codes "clip") false
    ∷ own_line (codes "left")
    ∷ own_line (codes "right")
    ∷ own_line (codes "top")
    ∷ own_line (codes "bottom")
    ∷ own_line (codes "horizontalCenter")
    ∷ own_line (codes "verticalCenter")
    ∷ anchor (codes "anchors.left")
    ∷ anchor (codes "anchors.right")
    ∷ anchor (codes "anchors.top")
    ∷ anchor (codes "anchors.bottom")
    ∷ anchor (codes "anchors.horizontalCenter")
    ∷ anchor (codes "anchors.verticalCenter")
    ∷ object (codes "anchors.fill")
    ∷ object (codes "anchors.centerIn")
    ∷ number (codes "anchors.margins")
    ∷ number (codes "anchors.leftMargin")
    ∷ number (codes "anchors.rightMargin")
    ∷ number (codes "anchors.topMargin")
    ∷ number (codes "anchors.bottomMargin")
    ∷ number (codes "anchors.horizontalCenterOffset")
    ∷ number (codes "anchors.verticalCenterOffset")
    ∷ read_only (number (codes "childrenRect.x"))
    ∷ read_only (number (codes "childrenRect.y"))
    ∷ read_only (number (codes "childrenRect.width"))
    ∷ read_only (number (codes "childrenRect.height")) ∷ []

abbrev rectangle_own : List NamedSlot
rectangle_own =
    slot (codes "color") kind.Color (initial.Color 0xffff_ffff)
    ∷ slot (codes "border.width") kind.Int (initial.Int (pos 1))
    ∷ slot (codes "border.color") kind.Color (initial.Color 0xff00_0000) ∷ []

abbrev row_own : List NamedSlot
row_own = number (codes "spacing") ∷ number (codes "layoutDirection") ∷ []

abbrev column_own : List NamedSlot
column_own = number (codes "spacing") ∷ []

abbrev mouse_area_own : List NamedSlot
mouse_area_own =
    read_only (truth (codes "pressed") false)
    ∷ read_only (number (codes "mouseX"))
    ∷ read_only (number (codes "mouseY")) ∷ []

abbrev timer_own : List NamedSlot
timer_own =
    slot (codes "interval") kind.Int (initial.Int (pos 1000))
    ∷ truth (codes "repeat") false
    ∷ truth (codes "running") false
    ∷ truth (codes "triggeredOnStart") false ∷ []

abbrev loader_own : List NamedSlot
loader_own =
    truth (codes "active") true
    ∷ truth (codes "asynchronous") false
    ∷ slot (codes "source") kind.Str initial.Empty
    ∷ slot (codes "sourceComponent") kind.Component initial.Null
    ∷ read_only (number (codes "status"))
    ∷ read_only (object (codes "item")) ∷ []

-- ---- the whole
abbrev item_slots : List NamedSlot
item_slots = object_own ++ item_own

-- the slots of an item whose implicit size follows from its children
abbrev sized_slots : List NamedSlot
sized_slots = map fixed item_slots
  where
    implicit_size : List ℕ → Bool
    implicit_size path = pointwise nat_eq path (codes "implicitWidth") || pointwise nat_eq path (codes "implicitHeight")

    fixed : NamedSlot → NamedSlot
    fixed s = if implicit_size s.path then read_only s else s

-- the slots of a type, in order
unfoldable pub slots : BuiltIn → List NamedSlot
slots QtObject = object_own
slots Item = item_slots
slots Rectangle = item_slots ++ rectangle_own
slots Row = sized_slots ++ row_own
slots Column = sized_slots ++ column_own
slots MouseArea = item_slots ++ mouse_area_own
slots Timer = object_own ++ timer_own
slots Loader = sized_slots ++ loader_own
slots Component = object_own

-- their paths
abbrev pub paths : BuiltIn → List (List ℕ)
paths t = map (λ s. s.path) (slots t)

-- the number of slots before the one of this path
abbrev pub place_of_path : List ℕ → List NamedSlot → Option ℕ
place_of_path path all = position (λ s. pointwise nat_eq s.path path) all

-- the slot of the type under this path
abbrev pub find_slot : BuiltIn → List ℕ → Option Slot
find_slot t path = option_map (λ i. record { index = i }) (place_of_path path (slots t))

-- ---- items and groups
-- the type is Item, or is based on it
abbrev pub is_item : BuiltIn → Bool
is_item QtObject = false
is_item Timer = false
is_item Component = false
is_item t = true

-- the group in which a path stands: what comes before its first dot
abbrev pub group_of : List ℕ → Option (List ℕ)
group_of [] = None
group_of (c ∷ rest) = if nat_eq c 46 then Some [] else option_map (λ g. c ∷ g) (group_of rest)

-- a slot of the type stands in the group of that name
abbrev pub has_group : BuiltIn → List ℕ → Bool
has_group t name = list_any (λ s. option_eq (pointwise nat_eq) (group_of s.path) (Some name)) (slots t)

-- ---- rules that hold over the whole table
-- each slot is found under its path, at its place, where so many come before these
abbrev pub are_found : BuiltIn → ℕ → List NamedSlot → Bool
are_found t before [] = true
are_found t before (s ∷ rest) = option_eq nat_eq (place_of_path s.path (slots t)) (Some before) && are_found t (before + 1) rest

-- the path has a group in it
abbrev is_dotted : List ℕ → Bool
is_dotted path = list_any (nat_eq 46) path

-- a slot of this kind may begin with this value
abbrev fits : Kind → Initial → Bool
fits kind.Int (initial.Int n) = true
fits kind.Bool (initial.Bool b) = true
fits kind.Str initial.Empty = true
fits kind.Color (initial.Color argb) = true
fits kind.Obj initial.Null = true
fits kind.Component initial.Null = true
fits kind.Line initial.NoLine = true
fits kind.Line initial.OwnLine = true
fits k i = false

-- a slot in a group has one value, and each begins with a value of its kind
abbrev pub is_lawful : NamedSlot → Bool
is_lawful s = not (s.info.sided && is_dotted s.path) && fits s.info.kind s.info.initial

-- the first slot of a type is its name for itself
abbrev begins_with_name : List NamedSlot → Bool
begins_with_name [] = false
begins_with_name (s ∷ rest) = pointwise nat_eq s.path (codes "objectName")

-- all of these hold of the type's slots
abbrev pub is_sound : BuiltIn → Bool
is_sound t = are_found t 0 (slots t) && (list_all is_lawful (slots t) && begins_with_name (slots t))
