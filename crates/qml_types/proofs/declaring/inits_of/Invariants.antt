use Rattle.std.proofs.Common.{◌≡◌, ◌++◌, map, drop}
use Rattle.std.specs.List.{flat_map}
use Rattle.qml_types.specs.Placed.{inits_in}
use Rattle.qml_types.specs.Readings.{part_of}
use Rattle.qml_types.proofs.declaring.inits_of.Given as goal

-- with the members that are left, all will be there
abbrev pub invariant-loop-member : goal.invariant-loop-member
invariant-loop-member l =
    l.inits ++ flat_map inits_in (map part_of (drop l.member-index l.members)) ≡ flat_map inits_in (map part_of l.members)
