-- What the items of a store are painted as.
use Rattle.std.specs.Prelude.{ℕ, ℤ, pos, int_lt, Bool, false, ◌||◌, ◌==◌, if◌then◌else◌, Option, Some, None, List, map, filter, count_by, slice_index_or}
use Rattle.item_geometry.specs.PaintOrder.{painting_order}
use Rattle.item_geometry.specs.Rectangle.{painted}
use Rattle.item_geometry.specs.declared.parts.Rects.{Rects}
use Rattle.item_geometry.specs.declared.parts.Rects.TheVariants.{Zero}
use Rattle.type_table.specs.Slots.{is_item}
use Rattle.type_table.specs.declared.built_in.BuiltIn.{BuiltIn}
use Rattle.type_table.specs.declared.built_in.BuiltIn.TheVariants as built_in
use Rattle.type_table.specs.declared.item_slots.TheConstants.{X, Y, Z, WIDTH, HEIGHT, VISIBLE, CLIP}
use Rattle.qml_ast.specs.declared.place.Place.{Place}
use Rattle.qml_ast.specs.declared.place.Side.TheVariants.{Shown}
use Rattle.qml_ast.specs.declared.value.Value.{Value}
use Rattle.qml_ast.specs.declared.value.Value.TheVariants as value
use Rattle.object_tree.specs.declared.instance.Instance.{Instance}
use Rattle.object_tree.specs.Reading.{instance_at, item_parent_at, value_at, is_given_at}
use Rattle.object_tree.specs.Store.{Store}
use Rattle.scene.specs.declared.paint.Paint.{Paint}
use Rattle.item_paint.specs.declared.rectangle_slots.TheConstants.{COLOR, BORDER_WIDTH, BORDER_COLOR}

-- ---- what slots show
abbrev pub shown_place : ℕ → ℕ → Place
shown_place serial slot = record { serial = serial; slot = slot; side = Shown }

abbrev pub shown_value : Store → ℕ → ℕ → Option Value
shown_value store serial slot = value_at (shown_place serial slot) store

abbrev pub int_of : Option Value → ℤ
int_of (Some (value.Int n)) = n
int_of _ = pos 0

abbrev pub bool_of : Option Value → Bool
bool_of (Some (value.Bool b)) = b
bool_of _ = false

abbrev pub color_of : Option Value → ℕ
color_of (Some (value.Color argb)) = argb
color_of _ = 0

-- the number, the truth value or the colour that a slot shows
abbrev pub shown_int : Store → ℕ → ℕ → ℤ
shown_int store serial slot = int_of (shown_value store serial slot)

abbrev pub shown_bool : Store → ℕ → ℕ → Bool
shown_bool store serial slot = bool_of (shown_value store serial slot)

abbrev pub shown_color : Store → ℕ → ℕ → ℕ
shown_color store serial slot = color_of (shown_value store serial slot)

-- ---- children
-- an item that stands in this one as a visual child
abbrev pub is_in : Store → ℕ → ℕ → Bool
is_in store parent serial = elim (item_parent_at serial store) [ None ↦ false | Some item ↦ item == parent ]

-- the items that stand in an item, in the order in which they were made, of those that it owns
abbrev pub items_in : Store → ℕ → List ℕ → List ℕ
items_in store parent owned = filter (is_in store parent) owned

abbrev pub z_of : Store → ℕ → ℤ
z_of store serial = shown_int store serial Z

-- the same items sorted by z, those of one z as they were
abbrev pub in_order : Store → List ℕ → List ℕ
in_order store items = map (λ place. slice_index_or items place 0) (painting_order (map (z_of store) items))

-- how many of them have a z below 0
abbrev pub count_under : Store → List ℕ → ℕ
count_under store items = count_by (λ z. int_lt z (pos 0)) (map (z_of store) items)

-- ---- rectangles
-- the border's group was named by an initialiser or a write
abbrev pub has_border : Store → ℕ → Bool
has_border store serial = is_given_at (shown_place serial BORDER_WIDTH) store || is_given_at (shown_place serial BORDER_COLOR) store

-- the width and the colour of a Rectangle's border
abbrev pub border_of : Store → ℕ → Option (ℤ × ℕ)
border_of store serial =
    if has_border store serial then Some (shown_int store serial BORDER_WIDTH, shown_color store serial BORDER_COLOR) else None

abbrev pub own_rects : BuiltIn → Store → ℕ → Rects
own_rects built_in.Rectangle store serial =
    painted (shown_int store serial WIDTH) (shown_int store serial HEIGHT) (shown_color store serial COLOR) (border_of store serial)
own_rects _ store serial = Zero

-- ---- items
abbrev pub paint_of_item : Store → ℕ → Instance → Paint
paint_of_item store serial instance = record {
  x = shown_int store serial X;
  y = shown_int store serial Y;
  w = shown_int store serial WIDTH;
  h = shown_int store serial HEIGHT;
  clip = shown_bool store serial CLIP;
  shown = shown_bool store serial VISIBLE;
  rects = own_rects instance.built_in store serial;
  children = in_order store (items_in store serial instance.children);
  under = count_under store (items_in store serial instance.children);
}

abbrev pub paint_if_item : Store → ℕ → Option Instance → Option Paint
paint_if_item store serial None = None
paint_if_item store serial (Some instance) = if is_item instance.built_in then Some (paint_of_item store serial instance) else None

-- what the item of that serial is painted as; none where there is no live item of it
unfoldable pub paint_of : Store → ℕ → Option Paint
paint_of store serial = paint_if_item store serial (instance_at serial store)
