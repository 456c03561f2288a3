use Rattle.std.proofs.Common.{map, fold}
use Rattle.std.specs.List.{flat_map}
use Rattle.qml_types.specs.Faults.{earlier}
use Rattle.qml_types.specs.Readings.{part_of, reading_of}
use Rattle.qml_types.specs.Rules.{member_faults}
use Rattle.qml_types.specs.Types.{scope_seen}
use Rattle.qml_types.proofs.Documents.{component_told, member_told, object_told}
use Rattle.qml_types.proofs.Turns.{turn}
use Rattle.qml_types.proofs.document_rules.+faults.Goals as goal

pub component_faults-returns : goal.component_faults-returns
component_faults-returns t c =
    component_told c.args.known.now (reading_of c.args.decl.now) c.args.first.now c.object_faults.new.first c.object_ids.new.first c.new-seen.result c.object_ids.new.seen
    c.new-seen.ensures c.in_ok-object_faults.ensures c.in_ok-object_ids.ensures

pub object_faults-returns : goal.object_faults-returns
object_faults-returns t c =
    object_told c.args.decl.now c.args.known.now (scope_seen c.in_ok-scope.scope) c.as_slice-members.result.now c.args.first.now c.faults_together.new.first
    c.all_member_faults.new.first c.as_slice-members.ensures c.in_ok-scope.ensures c.in_ok-faults_together.ensures c.in_ok-all_member_faults.ensures

pub all_member_faults-loop-member-preserved : goal.all_member_faults-loop-member-preserved
all_member_faults-loop-member-preserved t c =
    let scope = scope_seen c.args.scope.now in
    let member = c.member-item.result in
    turn earlier (member_faults scope) c.args.members.now c.loop-member.member-index member c.loop-member.first c.faults_within.new.first
    (fold earlier c.args.first.now (flat_map (member_faults scope) (map part_of c.args.members.now)))
    c.member-item.is c.loop-member-test.true
    (member_told scope (part_of member) c.loop-member.first c.own_faults.new.first c.faults_within.new.first c.in_ok-own_faults.ensures c.in_ok-faults_within.ensures)
    c.loop-member.invariant
