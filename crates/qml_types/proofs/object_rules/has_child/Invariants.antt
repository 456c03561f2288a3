use Rattle.std.proofs.Common.{◌≡◌, map, drop}
use Rattle.std.specs.List.{flat_map}
use Rattle.qml_types.specs.Readings.{part_of}
use Rattle.qml_types.specs.Rules.{further_child, is_none}
use Rattle.qml_types.proofs.object_rules.has_child.Given as goal

-- the members that are left decide
abbrev pub invariant-loop-member : goal.invariant-loop-member
invariant-loop-member l =
    is_none (flat_map further_child (map part_of (drop l.member-index l.members))) ≡ is_none (flat_map further_child (map part_of l.members))
