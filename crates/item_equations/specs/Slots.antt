-- The slots of an item that its equations speak of.
use Rattle.std.specs.Prelude.{ℕ}
use Rattle.anchors.specs.declared.walk.Asked.{Asked}
use Rattle.anchors.specs.declared.walk.Asked.TheVariants as asked
use Rattle.type_table.specs.declared.item_slots.TheConstants.{X, Y, WIDTH, HEIGHT, IMPLICIT_WIDTH, IMPLICIT_HEIGHT, ANCHORS_LEFT, ANCHORS_RIGHT, ANCHORS_TOP, ANCHORS_BOTTOM, ANCHORS_HORIZONTAL_CENTER, ANCHORS_VERTICAL_CENTER, ANCHORS_FILL, ANCHORS_CENTER_IN, ANCHORS_LEFT_MARGIN, ANCHORS_RIGHT_MARGIN, ANCHORS_TOP_MARGIN, ANCHORS_BOTTOM_MARGIN, ANCHORS_HORIZONTAL_CENTER_OFFSET, ANCHORS_VERTICAL_CENTER_OFFSET}
use Rattle.qml_ast.specs.declared.place.Place.{Place}
use Rattle.qml_ast.specs.declared.place.Side.TheVariants.{Set, Shown}
use Rattle.item_equations.specs.declared.axis.Axis.{Axis}
use Rattle.item_equations.specs.declared.axis.Axis.TheVariants.{Horizontal, Vertical}
use Rattle.item_equations.specs.declared.axis.AxisSlots.{AxisSlots}

-- what a slot shows, and what it is set to
abbrev pub shown_of : ℕ → ℕ → Place
shown_of item slot = record { serial = item; slot = slot; side = Shown }

abbrev pub set_of : ℕ → ℕ → Place
set_of item slot = record { serial = item; slot = slot; side = Set }

unfoldable pub slots_of : Axis → AxisSlots
slots_of Horizontal = record {
  place = X;
  size = WIDTH;
  implicit_size = IMPLICIT_WIDTH;
  near = ANCHORS_LEFT;
  far = ANCHORS_RIGHT;
  center = ANCHORS_HORIZONTAL_CENTER;
  near_margin = ANCHORS_LEFT_MARGIN;
  far_margin = ANCHORS_RIGHT_MARGIN;
  offset = ANCHORS_HORIZONTAL_CENTER_OFFSET;
}
slots_of Vertical = record {
  place = Y;
  size = HEIGHT;
  implicit_size = IMPLICIT_HEIGHT;
  near = ANCHORS_TOP;
  far = ANCHORS_BOTTOM;
  center = ANCHORS_VERTICAL_CENTER;
  near_margin = ANCHORS_TOP_MARGIN;
  far_margin = ANCHORS_BOTTOM_MARGIN;
  offset = ANCHORS_VERTICAL_CENTER_OFFSET;
}

-- the slot of an anchor
abbrev pub slot_asked : Axis → Asked → ℕ
slot_asked axis asked.Fill = ANCHORS_FILL
slot_asked axis asked.CenterIn = ANCHORS_CENTER_IN
slot_asked axis asked.Near = (slots_of axis).near
slot_asked axis asked.Far = (slots_of axis).far
slot_asked axis asked.Center = (slots_of axis).center
