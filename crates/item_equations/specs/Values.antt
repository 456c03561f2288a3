-- What an item shows, told by the values of all places, without what is read and in which order.
use Rattle.std.specs.Prelude.{ℕ, ℤ, pos, ◌+ℤ◌, ◌-ℤ◌, Bool, ◌&&◌, if◌then◌else◌, Option, None, Some, option_map, Result, Ok, Err, List, filter, fold}
use Rattle.anchors.specs.Table.{is_in_range, value_of, answer_of}
use Rattle.anchors.specs.declared.axis.AxisColumn.TheVariants as column
use Rattle.anchors.specs.declared.axis.AxisRecord.{AxisRecord}
use Rattle.anchors.specs.declared.axis.Target.{Target}
use Rattle.anchors.specs.declared.table.Overflow.{Overflow}
use Rattle.anchors.specs.declared.walk.Asked.{Asked}
use Rattle.anchors.specs.declared.walk.Asked.TheVariants as asked
use Rattle.type_table.specs.declared.item_slots.TheConstants.{ANCHORS_MARGINS}
use Rattle.qml_ast.specs.declared.eval_fault.EvalFault.{EvalFault}
use Rattle.qml_ast.specs.declared.eval_fault.EvalFault.TheVariants as fault
use Rattle.qml_ast.specs.declared.place.Place.{Place}
use Rattle.qml_ast.specs.declared.value.Value.{Value}
use Rattle.qml_ast.specs.declared.value.Value.TheVariants as value
use Rattle.item_equations.specs.Children.{is_child, least, span, widened, or_none}
use Rattle.item_equations.specs.Family.{Family}
use Rattle.item_equations.specs.Lines.{serial_of, middle, target}
use Rattle.item_equations.specs.Reads.{int_of, bool_of}
use Rattle.item_equations.specs.Slots.{shown_of, set_of, slots_of, slot_asked}
use Rattle.item_equations.specs.Ties.{tie_of}
use Rattle.item_equations.specs.declared.axis.Axis.{Axis}
use Rattle.item_equations.specs.declared.children.Extent.{Extent}
use Rattle.item_equations.specs.declared.native.Native.{Native}
use Rattle.item_equations.specs.declared.native.Native.TheVariants as native
use Rattle.item_equations.specs.declared.ties.Kin.{Kin}
use Rattle.item_equations.specs.declared.ties.Kin.TheVariants.{Parent, Sibling}
use Rattle.item_equations.specs.declared.ties.Spot.{Spot}
use Rattle.item_equations.specs.declared.ties.Spot.TheVariants.{Near, Far, Center}
use Rattle.item_equations.specs.declared.ties.Tie.{Tie}

module _ (family : Family) (values : Place → Value) where
  -- the numbers that an item's slot shows and is set to
  abbrev pub shows : ℕ → ℕ → ℤ
  shows item slot = int_of (values (shown_of item slot))

  abbrev pub has_set : ℕ → ℕ → ℤ
  has_set item slot = int_of (values (set_of item slot))

  module _ (axis : Axis) where
    -- ---- what items are tied to, in pixels of their parent
    abbrev pub begin : Kin → ℤ
    begin (Parent item) = pos 0
    begin (Sibling item) = shows item (slots_of axis).place

    abbrev pub extent : Kin → ℤ
    extent kin = shows (serial_of kin) (slots_of axis).size

    abbrev pub line_at : Kin → Spot → ℤ
    line_at kin Near = begin kin
    line_at kin Far = begin kin +ℤ extent kin
    line_at kin Center = middle (begin kin) (extent kin)

    abbrev pub line : Tie → ℤ
    line tie = line_at tie.kin tie.spot

    -- an item has a place and a size, and so has what is tied to its centre; another line has no size
    abbrev pub target_at : Kin → Spot → Target
    target_at kin Near = target (begin kin) (pos 0)
    target_at kin Far = target (begin kin +ℤ extent kin) (pos 0)
    target_at kin Center = target (begin kin) (extent kin)

    abbrev pub targeted : Tie → Target
    targeted tie = target_at tie.kin tie.spot

    module _ (item : ℕ) where
      abbrev pub tie : Asked → Option Tie
      tie asked = tie_of family axis item (values (shown_of item (slot_asked axis asked)))

      -- a margin is its own where that is set, and else that of all sides
      abbrev pub margin : ℕ → ℤ
      margin slot = if family.is_set (shown_of item slot) then shows item slot else shows item ANCHORS_MARGINS

      -- how an item is anchored that has these ties
      abbrev pub record_by : Option Tie → Option Tie → Option Tie → Option Tie → Option Tie → AxisRecord
      record_by fill center_in near far center = record {
        fill = option_map targeted fill;
        center_in = option_map targeted center_in;
        near = option_map line near;
        far = option_map line far;
        center = option_map targeted center;
        near_margin = margin (slots_of axis).near_margin;
        far_margin = margin (slots_of axis).far_margin;
        offset = shows item (slots_of axis).offset;
        size = shows item (slots_of axis).size;
      }

      abbrev pub record_of : AxisRecord
      record_of = record_by (tie asked.Fill) (tie asked.CenterIn) (tie asked.Near) (tie asked.Far) (tie asked.Center)

      -- ---- place and size: what the anchors give, if they give one
      abbrev pub or_else : ℤ → Result (Option ℤ) Overflow → Result ℤ Overflow
      or_else other (Ok None) = Ok other
      or_else other (Ok (Some n)) = Ok n
      or_else other (Err overflow) = Err overflow

      -- else the set place
      abbrev pub place : Result ℤ Overflow
      place = or_else (has_set item (slots_of axis).place) (answer_of (value_of record_of column.Place))

      -- else the set size where one is set, and else the implicit one
      abbrev pub own_size : ℤ
      own_size = if family.is_set (set_of item (slots_of axis).size) then has_set item (slots_of axis).size else shows item (slots_of axis).implicit_size

      abbrev pub size : Result ℤ Overflow
      size = or_else own_size (answer_of (value_of record_of column.Size))

      -- ---- the items in the item
      abbrev pub children : List ℕ
      children = filter (is_child family item) (family.owned item)

      -- the least of their places, or 0
      abbrev pub children_place : ℤ
      children_place = or_none (fold (λ before child. Some (least before (shows child (slots_of axis).place))) None children)

      -- from there to the greatest of their ends
      abbrev pub children_extent : Option Extent
      children_extent = fold (λ before child. Some (widened before (span (shows child (slots_of axis).place) (shows child (slots_of axis).size)))) None children

      abbrev pub ranged : ℤ → Result ℤ Overflow
      ranged n = if is_in_range n then Ok n else Err (record {})

      abbrev pub length_of : Option Extent → Result ℤ Overflow
      length_of None = Ok (pos 0)
      length_of (Some e) = ranged (e.end -ℤ e.begin)

  -- ---- what is inherited: what is set, and what the parent shows
  abbrev pub and_parent : ℕ → Bool → Option ℕ → Bool
  and_parent slot own None = own
  and_parent slot own (Some parent) = own && bool_of (values (shown_of parent slot))

  abbrev pub inherited : ℕ → ℕ → Bool
  inherited slot item = and_parent slot (bool_of (values (set_of item slot))) (family.parent item)

  -- ---- all of them
  abbrev pub as_value : Result ℤ Overflow → Result Value EvalFault
  as_value (Ok n) = Ok (value.Int n)
  as_value (Err overflow) = Err fault.Overflow

  -- what an item shows by an equation, or the fault that this leaves the range
  unfoldable pub value_shown : Native → ℕ → Result Value EvalFault
  value_shown (native.Place axis) item = as_value (place axis item)
  value_shown (native.Size axis) item = as_value (size axis item)
  value_shown (native.ImplicitSize axis) item = Ok (value.Int (has_set item (slots_of axis).implicit_size))
  value_shown (native.Inherited slot) item = Ok (value.Bool (inherited slot item))
  value_shown (native.ChildrenPlace axis) item = Ok (value.Int (children_place axis item))
  value_shown (native.ChildrenSize axis) item = as_value (length_of axis item (children_extent axis item))
