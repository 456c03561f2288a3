-- Which anchors count for nothing over the values of a store.
use Rattle.std.specs.Prelude.{Bool, true, false, ◌&&◌, not, if◌then◌else◌, Option, None, Some, option_map, List, [], ◌∷◌, filter, flat_map, map}
use Rattle.type_table.specs.Slots.{is_item}
use Rattle.qml_ast.specs.declared.place.Place.{Place}
use Rattle.qml_ast.specs.declared.value.Value.{Value}
use Rattle.item_equations.specs.Ignored.{neglect_of, is_anchor}
use Rattle.item_equations.specs.declared.ignored.Neglect.{Neglect}
use Rattle.item_equations.specs.declared.ignored.Neglect.TheVariants.{Target, Center}
use Rattle.object_tree.specs.declared.instance.Instance.{Instance}
use Rattle.object_tree.specs.Ignored.{was_ignored}
use Rattle.object_tree.specs.Places.{places_of}
use Rattle.object_tree.specs.Reading.{instance_at, held_at, value_read}
use Rattle.object_tree.specs.Store.{Store}
use Rattle.binding_engine.specs.Equations.{family_of, is_shown}
use Rattle.binding_engine.specs.Standing.{kept_in}
use Rattle.binding_engine.specs.declared.ignored.Ignored.{Ignored}

-- what each place is read as
abbrev pub read_in : Store → Place → Option Value
read_in store place = Some (value_read store (kept_in (held_at place store)).value)

abbrev pub is_center : Neglect → Bool
is_center Target = false
is_center Center = true

abbrev pub ignored_for : Place → Neglect → Ignored
ignored_for place neglect = record { place = place; center = is_center neglect }

abbrev pub is_of_item : Option Instance → Bool
is_of_item None = false
is_of_item (Some instance) = is_item instance.built_in

-- the anchor of that place, if it counts for nothing
unfoldable pub ignored_at : Store → Place → Option Ignored
ignored_at store place =
    if is_shown place.side && (is_anchor place.slot && is_of_item (instance_at place.serial store))
    then option_map (ignored_for place) (neglect_of (family_of store) (read_in store) place.serial place.slot)
    else None

abbrev pub listed : Option Ignored → List Ignored
listed None = []
listed (Some ignored) = ignored ∷ []

-- all such anchors, in the order of their places
abbrev pub ignored_in : Store → List Ignored
ignored_in store = flat_map (λ place. listed (ignored_at store place)) (places_of store)

-- those that the settle before did not ignore
abbrev pub newly_ignored : Store → List Ignored
newly_ignored store = filter (λ (ignored : Ignored). not (was_ignored ignored.place store)) (ignored_in store)

abbrev pub places_ignored : List Ignored → List Place
places_ignored ignored = map (λ (i : Ignored). i.place) ignored
