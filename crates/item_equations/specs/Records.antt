-- What a row of the table of anchors asks for, with the reads in the order of its formula.
use Rattle.std.specs.Prelude.{ℕ, ℤ, pos, Option, None, Some, Result, Ok, Err}
use Rattle.anchors.specs.Table.{value_of, answer_of}
use Rattle.anchors.specs.declared.axis.AxisColumn.{AxisColumn}
use Rattle.anchors.specs.declared.axis.AxisRecord.{AxisRecord}
use Rattle.anchors.specs.declared.axis.Target.{Target}
use Rattle.anchors.specs.declared.row.Row.{Row}
use Rattle.anchors.specs.declared.row.Row.TheVariants.{Fill, Center, NearAndFar, Near, Far, NearAndCenter, FarAndCenter, Free}
use Rattle.anchors.specs.declared.table.Overflow.{Overflow}
use Rattle.item_equations.specs.Asking.{Asking, gives, overflows, bind}
use Rattle.item_equations.specs.Family.{Family}
use Rattle.item_equations.specs.Lines.{target, place_of, size_of, target_of, tied_line}
use Rattle.item_equations.specs.Reads.{number, margin}
use Rattle.item_equations.specs.Slots.{shown_of, slots_of}
use Rattle.item_equations.specs.declared.axis.Axis.{Axis}
use Rattle.item_equations.specs.declared.lines.TiedLine.{TiedLine}
use Rattle.item_equations.specs.declared.ties.Tie.{Tie}

-- ---- records that have what one formula asks for, and nothing else
abbrev pub free : AxisRecord
free = record { fill = None; center_in = None; near = None; far = None; center = None; near_margin = pos 0; far_margin = pos 0; offset = pos 0; size = pos 0 }

abbrev pub filling_place : ℤ → ℤ → AxisRecord
filling_place place margin = record free { fill = Some (target place (pos 0)); near_margin = margin }

abbrev pub filling_size : ℤ → ℤ → ℤ → AxisRecord
filling_size size near far = record free { fill = Some (target (pos 0) size); near_margin = near; far_margin = far }

abbrev pub centered : Target → ℤ → ℤ → AxisRecord
centered center size offset = record free { center = Some center; size = size; offset = offset }

abbrev pub at_near : TiedLine → AxisRecord
at_near near = record free { near = Some near.line; near_margin = near.margin }

abbrev pub at_far : TiedLine → ℤ → AxisRecord
at_far far size = record free { far = Some far.line; far_margin = far.margin; size = size }

abbrev pub between : TiedLine → TiedLine → AxisRecord
between near far = record (at_near near) { far = Some far.line; far_margin = far.margin }

abbrev pub near_and_center : TiedLine → Target → ℤ → AxisRecord
near_and_center near center offset = record (at_near near) { center = Some center; offset = offset }

abbrev pub far_and_center : TiedLine → Target → ℤ → AxisRecord
far_and_center far center offset = record free { far = Some far.line; far_margin = far.margin; center = Some center; offset = offset }

-- ---- what is asked
module _ (family : Family) (axis : Axis) (item : ℕ) where
  abbrev pub near_line : Tie → Asking TiedLine
  near_line tie = tied_line family axis item (slots_of axis).near_margin tie

  abbrev pub far_line : Tie → Asking TiedLine
  far_line tie = tied_line family axis item (slots_of axis).far_margin tie

  -- the size that the item shows, and the offset of its centre line
  abbrev pub own_size : Asking ℤ
  own_size = number (shown_of item (slots_of axis).size)

  abbrev pub own_offset : Asking ℤ
  own_offset = number (shown_of item (slots_of axis).offset)

  unfoldable pub filled_place : Tie → Asking AxisRecord
  filled_place tie = bind (place_of axis tie) (λ place. bind (margin family item (slots_of axis).near_margin) (λ margin. gives (filling_place place margin)))

  unfoldable pub filled_size : Tie → Asking AxisRecord
  filled_size tie =
      bind (size_of axis tie) (λ size.
      bind (margin family item (slots_of axis).near_margin) (λ near.
      bind (margin family item (slots_of axis).far_margin) (λ far. gives (filling_size size near far))))

  unfoldable pub centered_place : Tie → Asking AxisRecord
  centered_place tie =
      bind (target_of axis tie) (λ center. bind own_size (λ size. bind own_offset (λ offset. gives (centered center size offset))))

  unfoldable pub near_place : Tie → Asking AxisRecord
  near_place tie = bind (near_line tie) (λ near. gives (at_near near))

  unfoldable pub far_place : Tie → Asking AxisRecord
  far_place tie = bind (far_line tie) (λ far. bind own_size (λ size. gives (at_far far size)))

  -- a size between two lines is asked from the far one on
  unfoldable pub size_between : Tie → Tie → Asking AxisRecord
  size_between near far = bind (far_line far) (λ far. bind (near_line near) (λ near. gives (between near far)))

  unfoldable pub size_from_near : Tie → Tie → Asking AxisRecord
  size_from_near near center =
      bind (target_of axis center) (λ center. bind own_offset (λ offset. bind (near_line near) (λ near. gives (near_and_center near center offset))))

  unfoldable pub size_from_far : Tie → Tie → Asking AxisRecord
  size_from_far far center =
      bind (far_line far) (λ far. bind (target_of axis center) (λ center. bind own_offset (λ offset. gives (far_and_center far center offset))))

  -- what the place of a row asks for, and what its size does
  unfoldable pub placed : Row Tie Tie → Asking AxisRecord
  placed (Fill tie) = filled_place tie
  placed (Center tie) = centered_place tie
  placed (NearAndFar near far) = near_place near
  placed (Near near) = near_place near
  placed (Far far) = far_place far
  placed (NearAndCenter near center) = near_place near
  placed (FarAndCenter far center) = size_from_far far center
  placed Free = gives free

  unfoldable pub sized : Row Tie Tie → Asking AxisRecord
  sized (Fill tie) = filled_size tie
  sized (Center tie) = gives free
  sized (NearAndFar near far) = size_between near far
  sized (Near near) = gives free
  sized (Far far) = gives free
  sized (NearAndCenter near center) = size_from_near near center
  sized (FarAndCenter far center) = size_from_far far center
  sized Free = gives free

-- ---- what follows
abbrev pub answered : Result (Option ℤ) Overflow → Asking (Option ℤ)
answered (Ok value) = gives value
answered (Err overflow) = overflows

unfoldable pub anchored_as : AxisColumn → AxisRecord → Asking (Option ℤ)
anchored_as column axis = answered (answer_of (value_of axis column))
