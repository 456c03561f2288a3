-- Lists of places that were read.
use Rattle.std.specs.Prelude.{Bool, false, true, ◌&&◌, ◌==◌, List, [], ◌∷◌, ◌++◌, if◌then◌else◌}
use Rattle.std.specs.List.{list_any}
use Rattle.qml_ast.specs.declared.place.Place.{Place}
use Rattle.qml_ast.specs.declared.place.Side.{Side}
use Rattle.qml_ast.specs.declared.place.Side.TheVariants.{Set, Shown}

abbrev pub are_same_sides : Side → Side → Bool
are_same_sides Set Set = true
are_same_sides Shown Shown = true
are_same_sides _ _ = false

abbrev pub are_same : Place → Place → Bool
are_same p q = (p.serial == q.serial) && ((p.slot == q.slot) && are_same_sides p.side q.side)

-- a place is noted at its first read
abbrev pub noted : List Place → Place → List Place
noted trace place = if list_any (are_same place) trace then trace else trace ++ place ∷ []
