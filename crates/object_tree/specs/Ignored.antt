-- The anchors that the last settle ignored.
use Rattle.std.specs.Prelude.{◌≡◌, Bool, List, [], fold}
use Rattle.std.specs.List.{list_any}
use Rattle.qml_ast.specs.declared.place.Place.{Place}
use Rattle.expr_eval.specs.Traces.{are_same, noted}
use Rattle.object_tree.specs.Store.{Store}

-- the place is one of these
abbrev pub is_among : Place → List Place → Bool
is_among place places = list_any (are_same place) places

-- the last settle ignored the anchor of that place
abbrev pub was_ignored : Place → Store → Bool
was_ignored place store = is_among place store.ignored

-- the places, each at its first appearance
abbrev pub each_once : List Place → List Place
each_once places = fold noted [] places

-- the store of which these were ignored
abbrev pub with_ignored : List Place → Store → Store
with_ignored places store = record store { ignored = each_once places }

-- what is kept is ignored, and nothing else
abbrev pub KeptAreIgnored : Place → List Place → Store → Type 0
KeptAreIgnored place places store = was_ignored place (with_ignored places store) ≡ is_among place places
