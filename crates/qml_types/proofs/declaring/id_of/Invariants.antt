use Rattle.std.proofs.Common.{◌≡◌, map, drop}
use Rattle.std.specs.List.{flat_map}
use Rattle.qml_types.specs.Placed.{ids_in, first_of_all}
use Rattle.qml_types.specs.Readings.{part_of}
use Rattle.qml_types.proofs.declaring.id_of.Given as goal

-- the members that are left decide
abbrev pub invariant-loop-member : goal.invariant-loop-member
invariant-loop-member l =
    first_of_all (flat_map ids_in (map part_of (drop l.member-index l.members))) ≡ first_of_all (flat_map ids_in (map part_of l.members))
