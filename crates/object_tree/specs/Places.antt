-- All places in their order.
use Rattle.std.specs.Prelude.{ℕ, ◌+◌, Option, None, Some, is_some, if◌then◌else◌, List, [], ◌∷◌, ◌++◌}
use Rattle.std.specs.Map.{keys_of}
use Rattle.qml_ast.specs.declared.place.Place.{Place}
use Rattle.qml_ast.specs.declared.place.Side.{Side}
use Rattle.qml_ast.specs.declared.place.Side.TheVariants.{Set, Shown}
use Rattle.object_tree.specs.declared.instance.Instance.{Instance}
use Rattle.object_tree.specs.declared.property.Property.{Property}
use Rattle.object_tree.specs.Reading.{instance_at}
use Rattle.object_tree.specs.Store.{Store}

abbrev pub side_of : ℕ → ℕ → Side → Place
side_of serial slot side = record { serial = serial; slot = slot; side = side }

-- what a slot is set to comes before what it shows
abbrev pub places_in_slot : ℕ → ℕ → Property → List Place
places_in_slot serial slot property =
    if is_some property.set then side_of serial slot Set ∷ side_of serial slot Shown ∷ [] else side_of serial slot Shown ∷ []

-- the places of these slots of an object, of which the first has this number
abbrev pub places_from : ℕ → ℕ → List Property → List Place
places_from serial slot [] = []
places_from serial slot (property ∷ properties) = places_in_slot serial slot property ++ places_from serial (slot + 1) properties

abbrev pub places_in : ℕ → Option Instance → List Place
places_in serial None = []
places_in serial (Some instance) = places_from serial 0 instance.properties

-- the places of the objects of these serials
abbrev pub places_under : List ℕ → Store → List Place
places_under [] store = []
places_under (serial ∷ serials) store = places_in serial (instance_at serial store) ++ places_under serials store

-- The places of all objects, by rising serial, and of each object by the numbers of its slots.
unfoldable pub places_of : Store → List Place
places_of store = places_under (keys_of store.objects.things) store
