use Rattle.std.proofs.Common.{◌≡◌, map, drop, true}
use Rattle.std.specs.List.{flat_map}
use Rattle.qml_types.specs.Faults.{told}
use Rattle.qml_types.specs.Readings.{part_of}
use Rattle.qml_types.specs.Rules.{second_id, beyond}
use Rattle.qml_types.proofs.object_rules.second_ids.Given as goal

-- with the members that are left, each id but the first will be told
abbrev pub invariant-loop-member : goal.invariant-loop-member
invariant-loop-member l =
    told l.first (beyond l.is_first (flat_map second_id (map part_of (drop l.member-index l.members))))
    ≡ told l.fn.first (beyond true (flat_map second_id (map part_of l.members)))
