-- Which anchors count for nothing.
use Rattle.std.specs.Prelude.{ℕ, nat_eq, Bool, true, false, ◌&&◌, ◌||◌, not, if◌then◌else◌, Option, None, Some, is_some, option_and_then}
use Rattle.type_table.specs.declared.item_slots.TheConstants.{ANCHORS_LEFT, ANCHORS_RIGHT, ANCHORS_TOP, ANCHORS_BOTTOM, ANCHORS_HORIZONTAL_CENTER, ANCHORS_VERTICAL_CENTER, ANCHORS_FILL, ANCHORS_CENTER_IN}
use Rattle.qml_ast.specs.declared.place.Place.{Place}
use Rattle.qml_ast.specs.declared.value.Value.{Value}
use Rattle.qml_ast.specs.declared.value.Value.TheVariants as value
use Rattle.item_equations.specs.Family.{Family}
use Rattle.item_equations.specs.Slots.{shown_of, slots_of}
use Rattle.item_equations.specs.Ties.{tie_of}
use Rattle.item_equations.specs.declared.axis.Axis.{Axis}
use Rattle.item_equations.specs.declared.axis.Axis.TheVariants.{Horizontal, Vertical}
use Rattle.item_equations.specs.declared.ignored.Neglect.{Neglect}
use Rattle.item_equations.specs.declared.ignored.Neglect.TheVariants.{Target, Center}

-- the axis that an anchor speaks of; an item as a whole is looked at on either
abbrev pub axis_of : ℕ → Option Axis
axis_of slot =
    if nat_eq slot ANCHORS_LEFT || (nat_eq slot ANCHORS_RIGHT || nat_eq slot ANCHORS_HORIZONTAL_CENTER) then Some Horizontal
    else (if nat_eq slot ANCHORS_TOP || (nat_eq slot ANCHORS_BOTTOM || nat_eq slot ANCHORS_VERTICAL_CENTER) then Some Vertical
    else (if nat_eq slot ANCHORS_FILL || nat_eq slot ANCHORS_CENTER_IN then Some Horizontal else None))

-- the slot is an anchor
abbrev pub is_anchor : ℕ → Bool
is_anchor slot = is_some (axis_of slot)

-- the value names an item or a line
abbrev pub is_named : Value → Bool
is_named (value.Obj target) = not (nat_eq target 0)
is_named (value.Line (Some line)) = true
is_named _ = false

-- the anchors of an item by the values that are seen of them
module _ (family : Family) (see : Place → Option Value) (item : ℕ) where
  abbrev pub is_tied_by : Axis → Option Value → Bool
  is_tied_by axis None = false
  is_tied_by axis (Some v) = is_some (tie_of family axis item v)

  -- the anchor has a lawful target
  abbrev pub is_tied : Axis → ℕ → Bool
  is_tied axis slot = is_tied_by axis (see (shown_of item slot))

  abbrev pub is_missed_by : Axis → Option Value → Bool
  is_missed_by axis None = false
  is_missed_by axis (Some v) = is_named v && not (is_some (tie_of family axis item v))

  -- it names a target that isn't lawful
  abbrev pub is_missed : Axis → ℕ → Bool
  is_missed axis slot = is_missed_by axis (see (shown_of item slot))

  -- it is the centre line, and all three lines of the axis have lawful targets
  abbrev pub is_third : Axis → ℕ → Bool
  is_third axis slot =
      nat_eq slot (slots_of axis).center && (is_tied axis slot && (is_tied axis (slots_of axis).near && is_tied axis (slots_of axis).far))

  abbrev pub neglect_on : Axis → ℕ → Option Neglect
  neglect_on axis slot = if is_missed axis slot then Some Target else (if is_third axis slot then Some Center else None)

  -- why an anchor counts for nothing, if it does
  unfoldable pub neglect_of : ℕ → Option Neglect
  neglect_of slot = option_and_then (λ axis. neglect_on axis slot) (axis_of slot)
