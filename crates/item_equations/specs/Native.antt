-- The equations of an item's slots.
use Rattle.std.specs.Prelude.{ℕ, ℤ, nat_eq, Bool, true, false, ◌&&◌, if◌then◌else◌, Option, None, Some}
use Rattle.anchors.specs.declared.axis.AxisColumn.TheVariants as column
use Rattle.type_table.specs.declared.item_slots.TheConstants.{X, Y, WIDTH, HEIGHT, IMPLICIT_WIDTH, IMPLICIT_HEIGHT, VISIBLE, ENABLED, CHILDREN_RECT_X, CHILDREN_RECT_Y, CHILDREN_RECT_WIDTH, CHILDREN_RECT_HEIGHT}
use Rattle.qml_ast.specs.declared.value.Value.{Value}
use Rattle.qml_ast.specs.declared.value.Value.TheVariants as value
use Rattle.item_equations.specs.Asking.{Asking, gives, bind}
use Rattle.item_equations.specs.Children.{children_place, children_size}
use Rattle.item_equations.specs.Family.{Family}
use Rattle.item_equations.specs.Reads.{number, flag}
use Rattle.item_equations.specs.Records.{placed, sized, anchored_as}
use Rattle.item_equations.specs.Rows.{row}
use Rattle.item_equations.specs.Slots.{shown_of, set_of, slots_of}
use Rattle.item_equations.specs.declared.axis.Axis.{Axis}
use Rattle.item_equations.specs.declared.axis.Axis.TheVariants.{Horizontal, Vertical}
use Rattle.item_equations.specs.declared.native.Native.{Native}
use Rattle.item_equations.specs.declared.native.Native.TheVariants as native

-- which slots have an equation
abbrev pub native_of : ℕ → Option Native
native_of slot =
    if nat_eq slot X then Some (native.Place Horizontal)
    else (if nat_eq slot Y then Some (native.Place Vertical)
    else (if nat_eq slot WIDTH then Some (native.Size Horizontal)
    else (if nat_eq slot HEIGHT then Some (native.Size Vertical)
    else (if nat_eq slot IMPLICIT_WIDTH then Some (native.ImplicitSize Horizontal)
    else (if nat_eq slot IMPLICIT_HEIGHT then Some (native.ImplicitSize Vertical)
    else (if nat_eq slot VISIBLE then Some (native.Inherited VISIBLE)
    else (if nat_eq slot ENABLED then Some (native.Inherited ENABLED)
    else (if nat_eq slot CHILDREN_RECT_X then Some (native.ChildrenPlace Horizontal)
    else (if nat_eq slot CHILDREN_RECT_Y then Some (native.ChildrenPlace Vertical)
    else (if nat_eq slot CHILDREN_RECT_WIDTH then Some (native.ChildrenSize Horizontal)
    else (if nat_eq slot CHILDREN_RECT_HEIGHT then Some (native.ChildrenSize Vertical) else None)))))))))))

module _ (family : Family) where
  module _ (axis : Axis) (item : ℕ) where
    -- ---- places: the anchors' where they give one, and else the set one
    abbrev pub or_set : Option ℤ → Asking ℤ
    or_set None = number (set_of item (slots_of axis).place)
    or_set (Some place) = gives place

    unfoldable pub shown_place : Asking ℤ
    shown_place =
        bind (row family axis item) (λ found.
        bind (placed family axis item found) (λ anchors.
        bind (anchored_as column.Place anchors) or_set))

    -- ---- sizes: the anchors' where they give one, else the set one where one is set, and else the implicit one. Whether
    -- one is set is asked of the place that it is set to.
    abbrev pub size_by : Bool → ℤ → Asking ℤ
    size_by true size = gives size
    size_by false size = number (shown_of item (slots_of axis).implicit_size)

    unfoldable pub own_size : Asking ℤ
    own_size = bind (number (set_of item (slots_of axis).size)) (size_by (family.is_set (set_of item (slots_of axis).size)))

    abbrev pub or_own : Option ℤ → Asking ℤ
    or_own None = own_size
    or_own (Some size) = gives size

    unfoldable pub shown_size : Asking ℤ
    shown_size =
        bind (row family axis item) (λ found.
        bind (sized family axis item found) (λ anchors.
        bind (anchored_as column.Size anchors) or_own))

    -- ---- implicit sizes: what is set
    unfoldable pub implicit_size : Asking ℤ
    implicit_size = number (set_of item (slots_of axis).implicit_size)

  -- ---- what is inherited: what is set, and what the parent shows. Both are always read.
  abbrev pub with_parent : ℕ → Option ℕ → Bool → Asking Bool
  with_parent slot None own = gives own
  with_parent slot (Some parent) own = bind (flag (shown_of parent slot)) (λ above. gives (own && above))

  unfoldable pub inherited : ℕ → ℕ → Asking Bool
  inherited slot item = bind (flag (set_of item slot)) (with_parent slot (family.parent item))

  -- ---- all of them
  abbrev pub as_int : Asking ℤ → Asking Value
  as_int asking = bind asking (λ n. gives (value.Int n))

  abbrev pub as_bool : Asking Bool → Asking Value
  as_bool asking = bind asking (λ b. gives (value.Bool b))

  unfoldable pub equation : Native → ℕ → Asking Value
  equation (native.Place axis) item = as_int (shown_place axis item)
  equation (native.Size axis) item = as_int (shown_size axis item)
  equation (native.ImplicitSize axis) item = as_int (implicit_size axis item)
  equation (native.Inherited slot) item = as_bool (inherited slot item)
  equation (native.ChildrenPlace axis) item = as_int (children_place family axis item)
  equation (native.ChildrenSize axis) item = as_int (children_size family axis item)
