use Rattle.std.proofs.Common.{◌≡◌, ◌++◌, drop}
use Rattle.object_tree.specs.Places.{places_from}
use Rattle.object_tree.proofs.instance.Instance.add_places.Given as goal

-- with those that are left, all will be there
abbrev pub invariant-loop-index : goal.invariant-loop-index
invariant-loop-index l = l.places.items ++ places_from l.serial l.index (drop l.index l.property-items) ≡ l.fn.places.items ++ places_from l.serial 0 l.property-items
