-- The order of places.
use Rattle.std.specs.Prelude.{◌≡◌, Bool, true, false, ◌&&◌, ◌||◌, ◌==◌, nat_lt, List, [], ◌∷◌}
use Rattle.qml_ast.specs.declared.place.Place.{Place}
use Rattle.qml_ast.specs.declared.place.Side.{Side}
use Rattle.qml_ast.specs.declared.place.Side.TheVariants.{Set, Shown}

abbrev pub is_side_before : Side → Side → Bool
is_side_before Set Shown = true
is_side_before _ _ = false

-- the one of the lesser serial comes first, then the one of the lesser slot; what is set comes before what is shown
abbrev pub is_before : Place → Place → Bool
is_before p q = nat_lt p.serial q.serial || ((p.serial == q.serial) && (nat_lt p.slot q.slot || ((p.slot == q.slot) && is_side_before p.side q.side)))

abbrev pub AllAfter : Place → List Place → Type 0
AllAfter p [] = Unit {0}
AllAfter p (q ∷ qs) = (is_before p q ≡ true) × AllAfter p qs

-- each place comes before those after it
abbrev pub AreRising : List Place → Type 0
AreRising [] = Unit {0}
AreRising (p ∷ ps) = AllAfter p ps × AreRising ps
