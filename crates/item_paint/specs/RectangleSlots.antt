-- The slots that a Rectangle has beside those of an item.
use Rattle.std.specs.Prelude.{ℕ, Bool, nat_eq, Some, List, [], ◌∷◌, codes}
use Rattle.std.specs.List.{list_all}
use Rattle.std.specs.Option.{option_eq}
use Rattle.type_table.specs.Slots.{slots, place_of_path}
use Rattle.type_table.specs.declared.built_in.BuiltIn.TheVariants.{Rectangle}
use Rattle.item_paint.specs.declared.rectangle_slots.TheConstants.{COLOR, BORDER_WIDTH, BORDER_COLOR}

-- the constants by the paths of their slots
abbrev named : List (List ℕ × ℕ)
named = (codes "color", COLOR) ∷ (codes "border.width", BORDER_WIDTH) ∷ (codes "border.color", BORDER_COLOR) ∷ []

-- each constant is the number of the Rectangle's slot of that path
abbrev pub are_numbered : Bool
are_numbered = list_all (λ e. option_eq nat_eq (place_of_path e.0 (slots Rectangle)) (Some e.1)) named
