-- Where the items in an item begin and end, child by child.
use Rattle.std.specs.Prelude.{ℕ, ℤ, pos, ◌+ℤ◌, ◌-ℤ◌, Bool, true, false, nat_eq, if◌then◌else◌, Option, None, Some, List, [], ◌∷◌}
use Rattle.std.specs.Int.{int_min, int_max}
use Rattle.std.specs.Option.{option_eq}
use Rattle.anchors.specs.Table.{is_in_range}
use Rattle.item_equations.specs.Asking.{Asking, gives, overflows, bind}
use Rattle.item_equations.specs.Family.{Family}
use Rattle.item_equations.specs.Reads.{number}
use Rattle.item_equations.specs.Slots.{shown_of, slots_of}
use Rattle.item_equations.specs.declared.axis.Axis.{Axis}
use Rattle.item_equations.specs.declared.children.Extent.{Extent}

-- an object is an item in this one
abbrev pub is_child : Family → ℕ → ℕ → Bool
is_child family item object = option_eq nat_eq (family.parent object) (Some item)

-- ---- the least place
unfoldable pub least : Option ℤ → ℤ → ℤ
least None place = place
least (Some before) place = int_min before place

abbrev pub least_by : Bool → Axis → Option ℤ → ℕ → Asking (Option ℤ)
least_by false axis before object = gives before
least_by true axis before object = bind (number (shown_of object (slots_of axis).place)) (λ place. gives (Some (least before place)))

-- with one object more
unfoldable pub least_with : Family → Axis → ℕ → Option ℤ → ℕ → Asking (Option ℤ)
least_with family axis item before object = least_by (is_child family item object) axis before object

-- with these objects more
unfoldable pub least_from : Family → Axis → ℕ → Option ℤ → List ℕ → Asking (Option ℤ)
least_from family axis item before [] = gives before
least_from family axis item before (object ∷ objects) =
    bind (least_with family axis item before object) (λ found. least_from family axis item found objects)

-- ---- from the least place to the greatest end
abbrev pub span : ℤ → ℤ → Extent
span place size = record { begin = place; end = place +ℤ size }

unfoldable pub joined : Extent → Extent → Extent
joined a b = record { begin = int_min a.begin b.begin; end = int_max a.end b.end }

unfoldable pub widened : Option Extent → Extent → Extent
widened None span = span
widened (Some before) span = joined before span

abbrev pub extent_by : Bool → Axis → Option Extent → ℕ → Asking (Option Extent)
extent_by false axis before object = gives before
extent_by true axis before object =
    bind (number (shown_of object (slots_of axis).place)) (λ place.
    bind (number (shown_of object (slots_of axis).size)) (λ size. gives (Some (widened before (span place size)))))

unfoldable pub extent_with : Family → Axis → ℕ → Option Extent → ℕ → Asking (Option Extent)
extent_with family axis item before object = extent_by (is_child family item object) axis before object

unfoldable pub extent_from : Family → Axis → ℕ → Option Extent → List ℕ → Asking (Option Extent)
extent_from family axis item before [] = gives before
extent_from family axis item before (object ∷ objects) =
    bind (extent_with family axis item before object) (λ found. extent_from family axis item found objects)

-- ---- what childrenRect shows of an axis; without children it is 0
abbrev pub or_none : Option ℤ → ℤ
or_none None = pos 0
or_none (Some place) = place

unfoldable pub children_place : Family → Axis → ℕ → Asking ℤ
children_place family axis item = bind (least_from family axis item None (family.owned item)) (λ found. gives (or_none found))

unfoldable pub ranged : ℤ → Asking ℤ
ranged value = if is_in_range value then gives value else overflows

unfoldable pub length_of : Option Extent → Asking ℤ
length_of None = gives (pos 0)
length_of (Some extent) = ranged (extent.end -ℤ extent.begin)

unfoldable pub children_size : Family → Axis → ℕ → Asking ℤ
children_size family axis item = bind (extent_from family axis item None (family.owned item)) length_of
