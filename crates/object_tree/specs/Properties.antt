-- The slots of objects.
use Rattle.std.specs.Prelude.{ℕ, Bool, true, false, nat_eq, if◌then◌else◌, Option, None, Some, is_some, option_map}
use Rattle.qml_ast.specs.declared.place.Side.{Side}
use Rattle.qml_ast.specs.declared.place.Side.TheVariants.{Set, Shown}
use Rattle.qml_ast.specs.declared.value.Value.{Value}
use Rattle.object_tree.specs.declared.property.Binding.{Binding}
use Rattle.object_tree.specs.declared.property.Held.{Held}
use Rattle.object_tree.specs.declared.property.Marks.{Marks}
use Rattle.object_tree.specs.declared.property.Property.{Property}

-- what one side of a slot holds; a slot with one value shows it
abbrev pub held_of : Side → Property → Option Held
held_of Set property = property.set
held_of Shown property = Some property.shown

-- a slot with two sides is bound and written on the side of what it is set to, another one on its only side
abbrev pub is_own_side : Side → Property → Bool
is_own_side Set property = is_some property.set
is_own_side Shown property = if is_some property.set then false else true

-- the expression that this side is bound to
abbrev pub binding_of : Side → Property → Option Binding
binding_of side property = if is_own_side side property then property.binding else None

-- what the slot showed when the last settle ended; none where the object was made since
abbrev pub settled_of : ℕ → Property → Option Value
settled_of settle property = if nat_eq property.written_in settle then property.before else Some property.shown.value

-- ---- writes, in the settle of this number
abbrev pub with_shown : ℕ → Value → Property → Property
with_shown settle value property = record property {
  shown = record property.shown { value = value };
  written_in = settle;
  before = settled_of settle property;
}

abbrev pub with_set : Value → Property → Property
with_set value property = record property { set = option_map (λ (held : Held). record held { value = value }) property.set }

-- with another value on one side
abbrev pub with_value : ℕ → Side → Value → Property → Property
with_value settle Set value property = with_set value property
with_value settle Shown value property = with_shown settle value property

-- with other marks on one side
abbrev pub with_marks : Side → Marks → Property → Property
with_marks Set marks property = record property { set = option_map (λ (held : Held). record held { marks = marks }) property.set }
with_marks Shown marks property = record property { shown = record property.shown { marks = marks } }

-- without the mark of a fault on one side
abbrev pub cleared : Held → Held
cleared held = record held { marks = record held.marks { fault = None } }

abbrev pub without_fault : Side → Property → Property
without_fault Set property = record property { set = option_map cleared property.set }
without_fault Shown property = record property { shown = cleared property.shown }

-- a slot that was given a value is bound to nothing
abbrev pub unbound : Property → Property
unbound property = record property { binding = None; is_given = true }

-- a write: the value takes the place of the expression, and of a fault that this had
abbrev pub with_written : ℕ → Side → Value → Property → Property
with_written settle side value property = unbound (without_fault side (with_value settle side value property))

-- as it stands at the end of a settle, where the numbers of settles begin again
abbrev pub restarted : Property → Property
restarted property = record property { written_in = 0; before = None }
