-- The constants for the slots of items.
use Rattle.std.specs.Prelude.{ℕ, Bool, nat_eq, Some, List, [], ◌∷◌, codes}
use Rattle.std.specs.List.{list_all}
use Rattle.std.specs.Option.{option_eq}
use Rattle.type_table.specs.declared.built_in.BuiltIn.{BuiltIn}
use Rattle.type_table.specs.declared.item_slots.TheConstants.{OBJECT_NAME, PARENT, X, Y, Z, WIDTH, HEIGHT, IMPLICIT_WIDTH, IMPLICIT_HEIGHT, VISIBLE, ENABLED, CLIP, LEFT, RIGHT, TOP, BOTTOM, HORIZONTAL_CENTER, VERTICAL_CENTER, ANCHORS_LEFT, ANCHORS_RIGHT, ANCHORS_TOP, ANCHORS_BOTTOM, ANCHORS_HORIZONTAL_CENTER, ANCHORS_VERTICAL_CENTER, ANCHORS_FILL, ANCHORS_CENTER_IN, ANCHORS_MARGINS, ANCHORS_LEFT_MARGIN, ANCHORS_RIGHT_MARGIN, ANCHORS_TOP_MARGIN, ANCHORS_BOTTOM_MARGIN, ANCHORS_HORIZONTAL_CENTER_OFFSET, ANCHORS_VERTICAL_CENTER_OFFSET, CHILDREN_RECT_X, CHILDREN_RECT_Y, CHILDREN_RECT_WIDTH, CHILDREN_RECT_HEIGHT}
use Rattle.type_table.specs.Slots.{slots, place_of_path}

-- each constant with the path that its name spells
abbrev pub named : List (List ℕ × ℕ)
named =
    (codes "objectName", OBJECT_NAME)
    ∷ (codes "parent", PARENT)
    ∷ (codes "x", X)
    ∷ (codes "y", Y)
    ∷ (codes "z", Z)
    ∷ (codes "width", WIDTH)
    ∷ (codes "height", HEIGHT)
    ∷ (codes "implicitWidth", IMPLICIT_WIDTH)
    ∷ (codes "implicitHeight", IMPLICIT_HEIGHT)
    ∷ (codes "visible", VISIBLE)
    ∷ (codes "enabled", ENABLED)
    ∷ (codes "clip", CLIP)
    ∷ (codes "left", LEFT)
    ∷ (codes "right", RIGHT)
    ∷ (codes "top", TOP)
    ∷ (codes "bottom", BOTTOM)
    ∷ (codes "horizontalCenter", HORIZONTAL_CENTER)
    ∷ (codes "verticalCenter", VERTICAL_CENTER)
    ∷ (codes "anchors.left", ANCHORS_LEFT)
    ∷ (codes "anchors.right", ANCHORS_RIGHT)
    ∷ (codes "anchors.top", ANCHORS_TOP)
    ∷ (codes "anchors.bottom", ANCHORS_BOTTOM)
    ∷ (codes "anchors.horizontalCenter", ANCHORS_HORIZONTAL_CENTER)
    ∷ (codes "anchors.verticalCenter", ANCHORS_VERTICAL_CENTER)
    ∷ (codes "anchors.fill", ANCHORS_FILL)
    ∷ (codes "anchors.centerIn", ANCHORS_CENTER_IN)
    ∷ (codes "anchors.margins", ANCHORS_MARGINS)
    ∷ (codes "anchors.leftMargin", ANCHORS_LEFT_MARGIN)
    ∷ (codes "anchors.rightMargin", ANCHORS_RIGHT_MARGIN)
    ∷ (codes "anchors.topMargin", ANCHORS_TOP_MARGIN)
    ∷ (codes "anchors.bottomMargin", ANCHORS_BOTTOM_MARGIN)
    ∷ (codes "anchors.horizontalCenterOffset", ANCHORS_HORIZONTAL_CENTER_OFFSET)
    ∷ (codes "anchors.verticalCenterOffset", ANCHORS_VERTICAL_CENTER_OFFSET)
    ∷ (codes "childrenRect.x", CHILDREN_RECT_X)
    ∷ (codes "childrenRect.y", CHILDREN_RECT_Y)
    ∷ (codes "childrenRect.width", CHILDREN_RECT_WIDTH)
    ∷ (codes "childrenRect.height", CHILDREN_RECT_HEIGHT) ∷ []

-- each constant is the number of the type's slot of that path
abbrev pub are_numbered : BuiltIn → Bool
are_numbered t = list_all (λ e. option_eq nat_eq (place_of_path e.0 (slots t)) (Some e.1)) named
