use Rattle.std.proofs.Common.{◌≡◌, ◌++◌, map, drop}
use Rattle.std.specs.List.{flat_map}
use Rattle.qml_types.specs.Placed.{handlers_in}
use Rattle.qml_types.specs.Readings.{part_of}
use Rattle.qml_types.proofs.declaring.handlers_of.Given as goal

-- with the members that are left, all will be there
abbrev pub invariant-loop-member : goal.invariant-loop-member
invariant-loop-member l =
    l.handlers ++ flat_map handlers_in (map part_of (drop l.member-index l.members)) ≡ flat_map handlers_in (map part_of l.members)
