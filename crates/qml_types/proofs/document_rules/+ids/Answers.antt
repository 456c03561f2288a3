use Rattle.std.proofs.Common.{map, fold}
use Rattle.std.specs.List.{flat_map}
use Rattle.qml_types.specs.Readings.{part_of, reading_of}
use Rattle.qml_types.specs.Rules.{note, member_ids}
use Rattle.qml_types.specs.Types.{scope_seen}
use Rattle.qml_types.proofs.Documents.{ids_told}
use Rattle.qml_types.proofs.Turns.{turn}
use Rattle.qml_types.proofs.document_rules.+ids.Goals as goal

pub object_ids-returns : goal.object_ids-returns
object_ids-returns t c =
    ids_told c.args.decl.now c.args.known.now (scope_seen c.in_ok-scope.scope) c.as_slice-members.result.now (c.args.seen.now, c.args.first.now)
    (c.all_member_ids.new.seen, c.all_member_ids.new.first) c.as_slice-members.ensures c.in_ok-scope.ensures c.in_ok-all_member_ids.ensures

pub all_member_ids-loop-member-preserved : goal.all_member_ids-loop-member-preserved
all_member_ids-loop-member-preserved t c =
    let scope = scope_seen c.args.scope.now in
    turn note (member_ids scope) c.args.members.now c.loop-member.member-index c.member-item.result (c.loop-member.seen, c.loop-member.first)
    (c.member_ids.new.seen, c.member_ids.new.first) (fold note (c.args.seen.now, c.args.first.now) (flat_map (member_ids scope) (map part_of c.args.members.now)))
    c.member-item.is c.loop-member-test.true c.in_ok-member_ids.ensures c.loop-member.invariant
