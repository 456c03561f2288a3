-- The single reads of equations.
use Rattle.std.specs.Prelude.{ℕ, ℤ, pos, Bool, true, false}
use Rattle.qml_ast.specs.declared.place.Place.{Place}
use Rattle.qml_ast.specs.declared.value.Value.{Value}
use Rattle.qml_ast.specs.declared.value.Value.TheVariants as value
use Rattle.type_table.specs.declared.item_slots.TheConstants.{ANCHORS_MARGINS}
use Rattle.item_equations.specs.Asking.{Asking, gives, asks, bind}
use Rattle.item_equations.specs.Family.{Family}
use Rattle.item_equations.specs.Slots.{shown_of}

-- the number or the truth value that a value is; a slot of that kind holds no other
abbrev pub int_of : Value → ℤ
int_of (value.Int n) = n
int_of _ = pos 0

abbrev pub bool_of : Value → Bool
bool_of (value.Bool b) = b
bool_of _ = false

-- the number or the truth value of a place
unfoldable pub number : Place → Asking ℤ
number place = asks place (λ v. gives (int_of v))

unfoldable pub flag : Place → Asking Bool
flag place = asks place (λ v. gives (bool_of v))

-- A margin is its own where that is set, and else that of all sides. Whether it is set is asked of its place.
abbrev pub margin_by : Bool → ℕ → ℤ → Asking ℤ
margin_by true item own = gives own
margin_by false item own = number (shown_of item ANCHORS_MARGINS)

unfoldable pub margin : Family → ℕ → ℕ → Asking ℤ
margin family item slot = bind (number (shown_of item slot)) (margin_by (family.is_set (shown_of item slot)) item)
