-- Where the lines are that an item is tied to, in pixels of its parent.
use Rattle.std.specs.Prelude.{ℕ, ℤ, pos, ◌+ℤ◌, ◌*ℤ◌, int_div}
use Rattle.anchors.specs.declared.axis.Target.{Target}
use Rattle.item_equations.specs.Asking.{Asking, gives, bind}
use Rattle.item_equations.specs.Family.{Family}
use Rattle.item_equations.specs.Reads.{number, margin}
use Rattle.item_equations.specs.Slots.{shown_of, slots_of}
use Rattle.item_equations.specs.declared.axis.Axis.{Axis}
use Rattle.item_equations.specs.declared.lines.TiedLine.{TiedLine}
use Rattle.item_equations.specs.declared.ties.Kin.{Kin}
use Rattle.item_equations.specs.declared.ties.Kin.TheVariants.{Parent, Sibling}
use Rattle.item_equations.specs.declared.ties.Spot.{Spot}
use Rattle.item_equations.specs.declared.ties.Spot.TheVariants.{Near, Far, Center}
use Rattle.item_equations.specs.declared.ties.Tie.{Tie}

abbrev pub serial_of : Kin → ℕ
serial_of (Parent item) = item
serial_of (Sibling item) = item

-- a parent begins at 0, and a sibling at its own place
unfoldable pub begin_of : Axis → Kin → Asking ℤ
begin_of axis (Parent item) = gives (pos 0)
begin_of axis (Sibling item) = number (shown_of item (slots_of axis).place)

unfoldable pub extent_of : Axis → Kin → Asking ℤ
extent_of axis kin = number (shown_of (serial_of kin) (slots_of axis).size)

unfoldable pub far_of : Axis → Kin → Asking ℤ
far_of axis kin = bind (begin_of axis kin) (λ place. bind (extent_of axis kin) (λ size. gives (place +ℤ size)))

-- the centre between the two ends; half a pixel is dropped
unfoldable pub middle : ℤ → ℤ → ℤ
middle place size = int_div (pos 2 *ℤ place +ℤ size) (pos 2)

unfoldable pub middle_from : Axis → Kin → ℤ → Asking ℤ
middle_from axis kin place = bind (extent_of axis kin) (λ size. gives (middle place size))

unfoldable pub middle_of : Axis → Kin → Asking ℤ
middle_of axis kin = bind (begin_of axis kin) (middle_from axis kin)

-- where a line is
abbrev pub line_at : Axis → Kin → Spot → Asking ℤ
line_at axis kin Near = begin_of axis kin
line_at axis kin Far = far_of axis kin
line_at axis kin Center = middle_of axis kin

unfoldable pub line_of : Axis → Tie → Asking ℤ
line_of axis tie = line_at axis tie.kin tie.spot

-- What a tie is the place and the size of: an item's where it is its centre, and else a line, which has no size.
abbrev pub place_at : Axis → Kin → Spot → Asking ℤ
place_at axis kin Near = begin_of axis kin
place_at axis kin Far = far_of axis kin
place_at axis kin Center = begin_of axis kin

unfoldable pub place_of : Axis → Tie → Asking ℤ
place_of axis tie = place_at axis tie.kin tie.spot

abbrev pub size_at : Axis → Kin → Spot → Asking ℤ
size_at axis kin Near = gives (pos 0)
size_at axis kin Far = gives (pos 0)
size_at axis kin Center = extent_of axis kin

unfoldable pub size_of : Axis → Tie → Asking ℤ
size_of axis tie = size_at axis tie.kin tie.spot

abbrev pub target : ℤ → ℤ → Target
target place size = record { place = place; size = size }

unfoldable pub target_of : Axis → Tie → Asking Target
target_of axis tie = bind (place_of axis tie) (λ place. bind (size_of axis tie) (λ size. gives (target place size)))

-- a line with the margin that the item keeps from it
abbrev pub tied : ℤ → ℤ → TiedLine
tied line margin = record { line = line; margin = margin }

unfoldable pub tied_line : Family → Axis → ℕ → ℕ → Tie → Asking TiedLine
tied_line family axis item slot tie = bind (line_of axis tie) (λ line. bind (margin family item slot) (λ margin. gives (tied line margin)))
