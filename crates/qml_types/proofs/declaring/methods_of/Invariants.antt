use Rattle.std.proofs.Common.{◌≡◌, ◌++◌, map, drop}
use Rattle.std.specs.List.{flat_map}
use Rattle.qml_types.specs.Placed.{methods_in}
use Rattle.qml_types.specs.Readings.{part_of}
use Rattle.qml_types.proofs.declaring.methods_of.Given as goal

-- with the members that are left, all will be there
abbrev pub invariant-loop-member : goal.invariant-loop-member
invariant-loop-member l =
    l.methods ++ flat_map methods_in (map part_of (drop l.member-index l.members)) ≡ flat_map methods_in (map part_of l.members)
