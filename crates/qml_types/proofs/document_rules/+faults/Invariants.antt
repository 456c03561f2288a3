use Rattle.std.proofs.Common.{◌≡◌, map, drop, fold}
use Rattle.std.specs.List.{flat_map}
use Rattle.qml_types.specs.Faults.{earlier}
use Rattle.qml_types.specs.Readings.{part_of}
use Rattle.qml_types.specs.Rules.{member_faults}
use Rattle.qml_types.specs.Types.{scope_seen}
use Rattle.qml_types.proofs.document_rules.+faults.Given as goal

-- with the members that are left, all faults will be told
abbrev pub invariant-all_member_faults-loop-member : goal.invariant-all_member_faults-loop-member
invariant-all_member_faults-loop-member l =
    fold earlier l.first (flat_map (member_faults (scope_seen l.scope)) (map part_of (drop l.member-index l.members)))
    ≡ fold earlier l.fn.first (flat_map (member_faults (scope_seen l.scope)) (map part_of l.members))
