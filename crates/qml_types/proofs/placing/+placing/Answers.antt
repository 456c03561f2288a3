use Rattle.std.proofs.Common.{◌∙◌, ap, map, fold}
use Rattle.qml_types.specs.Placed.{with_part}
use Rattle.qml_types.specs.Readings.{part_of, reading_of}
use Rattle.qml_types.specs.Sizes.{sizes_of}
use Rattle.qml_types.specs.Types.{scope_seen}
use Rattle.qml_types.proofs.Objects.{component_placed, object_made, object_placed}
use Rattle.qml_types.proofs.Turns.{whole_turn}
use Rattle.qml_types.proofs.placing.+placing.Goals as goal

pub place_members-loop-member-preserved : goal.place_members-loop-member-preserved
place_members-loop-member-preserved t c =
    let g = with_part (scope_seen c.args.scope.now) c.args.file.now c.args.owner in
    whole_turn g c.args.members.now c.loop-member.member-index c.member-item.result c.loop-member.objects c.place_member.new.objects
    (fold g c.args.objects.now (map part_of c.args.members.now)) c.member-item.is c.loop-member-test.true c.in_ok-place_member.ensures c.loop-member.invariant

pub place_object-returns : goal.place_object-returns
place_object-returns t c =
    object_placed c.args.decl.now c.args.known.now (scope_seen c.in_ok-scope.scope) c.as_slice-members.result.now
    (record { file = c.args.file.now; owner = c.args.owner; role = c.args.role }) c.in_ok-index.index c.in_ok-object.object c.args.objects.now c.push.new.self
    c.place_members.new.objects c.as_slice-members.ensures c.in_ok-scope.ensures c.in_ok-index.ensures c.in_ok-object.ensures c.in_ok-push.ensures.ok c.in_ok-place_members.ensures

pub component_of-returns : goal.component_of-returns
component_of-returns t c =
    component_placed c.args.known.now c.args.file.now c.in_ok-copied.copied (reading_of c.args.decl.now) c.new-objects.result c.place_object.new.objects c.in_ok-sizes.sizes
    c.new-objects.ensures c.in_ok-copied.ensures c.in_ok-place_object.ensures (c.in_ok-sizes.ensures ∙ ap sizes_of c.as_slice.ensures)

pub object_of-returns : goal.object_of-returns
object_of-returns t c =
    object_made (scope_seen c.args.scope.now) (record { file = c.args.file.now; owner = c.args.owner; role = c.args.role }) c.args.at (map part_of c.args.members.now)
    c.in_ok-content.content c.in_ok-base.base c.in_ok-inner.inner c.in_ok-content.ensures c.in_ok-base.ensures c.in_ok-inner.ensures
