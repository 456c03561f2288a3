use Rattle.std.proofs.Common.{◌≡◌, map, drop, fold}
use Rattle.std.specs.List.{flat_map}
use Rattle.qml_types.specs.Readings.{part_of}
use Rattle.qml_types.specs.Rules.{note, member_ids}
use Rattle.qml_types.specs.Types.{scope_seen}
use Rattle.qml_types.proofs.document_rules.+ids.Given as goal

-- with the members that are left, all ids will be claimed
abbrev pub invariant-all_member_ids-loop-member : goal.invariant-all_member_ids-loop-member
invariant-all_member_ids-loop-member l =
    fold note (l.seen, l.first) (flat_map (member_ids (scope_seen l.scope)) (map part_of (drop l.member-index l.members)))
    ≡ fold note (l.fn.seen, l.fn.first) (flat_map (member_ids (scope_seen l.scope)) (map part_of l.members))
