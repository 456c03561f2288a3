use Rattle.std.proofs.Common.{◌≡◌, drop, fold, flat_map, None}
use Rattle.unit_check.specs.Unrun.{earlier, object_place}
use Rattle.unit_check.proofs.unrun.first_place.Given as goal

-- with those that are left, the first of all is noted
abbrev pub invariant-loop-object : goal.invariant-loop-object
invariant-loop-object l =
    fold earlier l.first (flat_map object_place (drop l.object-index l.object-items)) ≡ fold earlier None (flat_map object_place l.object-items)
