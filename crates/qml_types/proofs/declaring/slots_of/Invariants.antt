use Rattle.std.proofs.Common.{◌≡◌, ◌++◌, map, drop}
use Rattle.std.specs.List.{flat_map}
use Rattle.qml_types.specs.Placed.{slots_in}
use Rattle.qml_types.specs.Readings.{part_of}
use Rattle.qml_types.proofs.declaring.slots_of.Given as goal

-- with the members that are left, all will be there
abbrev pub invariant-loop-member : goal.invariant-loop-member
invariant-loop-member l =
    l.slots ++ flat_map (slots_in l.known) (map part_of (drop l.member-index l.members)) ≡ flat_map (slots_in l.known) (map part_of l.members)
