use Rattle.std.proofs.Common.{◌≡◌, ◌++◌, drop}
use Rattle.object_tree.specs.Places.{places_under}
use Rattle.object_tree.proofs.objects.Objects.places.Given as goal

-- with those that are left, all will be there
abbrev pub invariant-loop-serial : goal.invariant-loop-serial
invariant-loop-serial l = l.places.items ++ places_under (drop l.serial-index l.serial-items) l.self ≡ places_under l.serial-items l.self
