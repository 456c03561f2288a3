-- What has changed since the last settle ended.
use Rattle.std.specs.Prelude.{ℕ, Bool, false, not, Option, None, Some, unwrap_or}
use Rattle.qml_ast.specs.Equality.{are_equal}
use Rattle.qml_ast.specs.declared.place.Place.{Place}
use Rattle.qml_ast.specs.declared.place.Side.{Side}
use Rattle.qml_ast.specs.declared.place.Side.TheVariants.{Set, Shown}
use Rattle.qml_ast.specs.declared.value.Value.{Value}
use Rattle.qml_ast.specs.declared.value.Value.TheVariants as value
use Rattle.object_tree.specs.declared.property.Property.{Property}
use Rattle.object_tree.specs.Properties.{settled_of}
use Rattle.object_tree.specs.Reading.{property_at, value_at}
use Rattle.object_tree.specs.Store.{Store}

-- another value than the one that there was, if there was one
abbrev pub differs : Option Value → Value → Bool
differs None value = false
differs (Some before) value = not (are_equal before value)

-- the slot shows another value than when the last settle ended
abbrev pub has_changed_in : ℕ → Property → Bool
has_changed_in settle property = differs (settled_of settle property) property.shown.value

abbrev pub has_changed_on : Side → Option Property → ℕ → Bool
has_changed_on Set property settle = false
has_changed_on Shown None settle = false
has_changed_on Shown (Some property) settle = has_changed_in settle property

-- The place shows another value than when the last settle ended. An object that was made since showed nothing then.
abbrev pub has_changed : Place → Store → Bool
has_changed place store = has_changed_on place.side (property_at place.serial place.slot store) store.settle

-- the value of a place, or null where there is no such place
abbrev pub value_or_null : Place → Store → Value
value_or_null place store = unwrap_or (value_at place store) (value.Obj 0)
