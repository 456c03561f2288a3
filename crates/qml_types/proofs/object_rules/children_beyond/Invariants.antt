use Rattle.std.proofs.Common.{◌≡◌, map, drop}
use Rattle.std.specs.List.{flat_map}
use Rattle.qml_types.specs.Faults.{told}
use Rattle.qml_types.specs.Readings.{part_of}
use Rattle.qml_types.specs.Rules.{further_child, beyond}
use Rattle.qml_types.proofs.object_rules.children_beyond.Given as goal

-- with the members that are left, the children will be told
abbrev pub invariant-loop-member : goal.invariant-loop-member
invariant-loop-member l =
    told l.first (beyond l.is_lawful (flat_map further_child (map part_of (drop l.member-index l.members))))
    ≡ told l.fn.first (beyond l.one (flat_map further_child (map part_of l.members)))
