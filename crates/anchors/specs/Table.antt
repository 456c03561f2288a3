-- What the anchors of one axis give: the place and the size in each row of the table of anchors.
use Rattle.std.specs.Prelude.{◌^◌, ℤ, pos, ◌+ℤ◌, ◌-ℤ◌, ◌*ℤ◌, int_div, int_le, int_lt, neg_ℤ, Bool, ◌&&◌, if◌then◌else◌, Option, None, Some, Result, Ok, Err}
use Rattle.anchors.specs.declared.axis.Target.{Target}
use Rattle.anchors.specs.declared.axis.AxisRecord.{AxisRecord}
use Rattle.anchors.specs.declared.axis.AxisColumn.{AxisColumn}
use Rattle.anchors.specs.declared.axis.AxisColumn.TheVariants.{Place, Size}
use Rattle.anchors.specs.declared.row.Row.{Row}
use Rattle.anchors.specs.declared.row.Row.TheVariants.{Fill, Center, NearAndFar, Near, Far, NearAndCenter, FarAndCenter, Free}
use Rattle.anchors.specs.declared.table.Overflow.{Overflow}

-- the row that the lines choose; where near and far are tied the centre is ignored
abbrev pub row_of_lines : Option ℤ → Option ℤ → Option Target → Row Target ℤ
row_of_lines (Some near) (Some far) center = NearAndFar near far
row_of_lines (Some near) None None = Near near
row_of_lines None (Some far) None = Far far
row_of_lines (Some near) None (Some center) = NearAndCenter near center
row_of_lines None (Some far) (Some center) = FarAndCenter far center
row_of_lines None None (Some center) = Center center
row_of_lines None None None = Free

-- the row of an item that is centred in another, or else tied by lines
abbrev pub row_unfilled : Option Target → AxisRecord → Row Target ℤ
row_unfilled (Some target) axis = Center target
row_unfilled None axis = row_of_lines axis.near axis.far axis.center

-- the row of a record's fill, or else of the rest
abbrev pub row_by_fill : Option Target → AxisRecord → Row Target ℤ
row_by_fill (Some target) axis = Fill target
row_by_fill None axis = row_unfilled axis.center_in axis

-- the row of a record: fill wins over centerIn, which wins over lines
abbrev pub row_of : AxisRecord → Row Target ℤ
row_of axis = row_by_fill axis.fill axis

-- where the near line stands: its margin after the line that it is tied to
abbrev pub near_line : ℤ → AxisRecord → ℤ
near_line line axis = line +ℤ axis.near_margin

-- where the far line stands: its margin before the line that it is tied to
abbrev pub far_line : ℤ → AxisRecord → ℤ
far_line line axis = line -ℤ axis.far_margin

-- twice the centre line of a target, which is a whole number
abbrev pub twice_middle : Target → ℤ
twice_middle target = pos 2 *ℤ target.place +ℤ target.size

-- the size of an item whose near line and centre are tied: twice the way from its near line to its centre
abbrev pub size_from_near : ℤ → Target → AxisRecord → ℤ
size_from_near near center axis = twice_middle center +ℤ pos 2 *ℤ axis.offset -ℤ pos 2 *ℤ near_line near axis

-- the size of an item whose far line and centre are tied: twice the way from its centre to its far line
abbrev pub size_from_far : ℤ → Target → AxisRecord → ℤ
size_from_far far center axis = pos 2 *ℤ far_line far axis -ℤ twice_middle center -ℤ pos 2 *ℤ axis.offset

-- the place of an item whose far line and centre are tied
abbrev pub place_from_far : ℤ → Target → AxisRecord → ℤ
place_from_far far center axis = far_line far axis -ℤ size_from_far far center axis

-- the place of an item whose centre stands the offset after that of a target; a half is rounded toward 0
abbrev pub centered_place : Target → AxisRecord → ℤ
centered_place target axis = int_div (twice_middle target -ℤ axis.size) (pos 2) +ℤ axis.offset

-- the size that margins leave of a target
abbrev pub filled_size : Target → AxisRecord → ℤ
filled_size target axis = target.size -ℤ axis.near_margin -ℤ axis.far_margin

-- the place, in each row
abbrev pub place_in : Row Target ℤ → AxisRecord → Option ℤ
place_in (Fill target) axis = Some (near_line target.place axis)
place_in (Center target) axis = Some (centered_place target axis)
place_in (NearAndFar near far) axis = Some (near_line near axis)
place_in (Near near) axis = Some (near_line near axis)
place_in (Far far) axis = Some (far_line far axis -ℤ axis.size)
place_in (NearAndCenter near center) axis = Some (near_line near axis)
place_in (FarAndCenter far center) axis = Some (place_from_far far center axis)
place_in Free axis = None

-- the size, in each row that gives one
abbrev pub size_in : Row Target ℤ → AxisRecord → Option ℤ
size_in (Fill target) axis = Some (filled_size target axis)
size_in (Center target) axis = None
size_in (NearAndFar near far) axis = Some (far_line far axis -ℤ near_line near axis)
size_in (Near near) axis = None
size_in (Far far) axis = None
size_in (NearAndCenter near center) axis = Some (size_from_near near center axis)
size_in (FarAndCenter far center) axis = Some (size_from_far far center axis)
size_in Free axis = None

-- the value of a column, where it isn't free
abbrev pub value_of : AxisRecord → AxisColumn → Option ℤ
value_of axis Place = place_in (row_of axis) axis
value_of axis Size = size_in (row_of axis) axis

-- the number is an i32
abbrev pub is_in_range : ℤ → Bool
is_in_range value = int_le (neg_ℤ (pos (2 ^ 31))) value && int_lt value (pos (2 ^ 31))

-- the answer for a column of this value: none where it is free, an overflow where it leaves the range
abbrev pub answer_of : Option ℤ → Result (Option ℤ) Overflow
answer_of None = Ok None
answer_of (Some value) = if is_in_range value then Ok (Some value) else Err (record {})
