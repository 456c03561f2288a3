use Rattle.std.proofs.Common.{map}
use Rattle.std.specs.List.{flat_map}
use Rattle.qml_types.specs.Placed.{handlers_in}
use Rattle.qml_types.specs.Readings.{part_of}
use Rattle.qml_types.proofs.Turns.{gather_turn}
use Rattle.qml_types.proofs.declaring.handlers_of.Goals as goal

pub loop-member-preserved : goal.loop-member-preserved
loop-member-preserved c =
    gather_turn handlers_in c.args.members.now c.loop-member.member-index c.member-item.result c.loop-member.handlers c.add_handler.new.handlers
    (flat_map handlers_in (map part_of c.args.members.now)) c.member-item.is c.loop-member-test.true c.in_ok-add_handler.ensures c.loop-member.invariant
