use Rattle.std.proofs.Common.{map}
use Rattle.std.specs.List.{flat_map}
use Rattle.qml_types.specs.Placed.{signals_in}
use Rattle.qml_types.specs.Readings.{part_of}
use Rattle.qml_types.proofs.Turns.{gather_turn}
use Rattle.qml_types.proofs.declaring.signals_of.Goals as goal

pub loop-member-preserved : goal.loop-member-preserved
loop-member-preserved c =
    gather_turn (signals_in c.args.known.now) c.args.members.now c.loop-member.member-index c.member-item.result c.loop-member.signals c.add_signal.new.signals
    (flat_map (signals_in c.args.known.now) (map part_of c.args.members.now)) c.member-item.is c.loop-member-test.true c.in_ok-add_signal.ensures c.loop-member.invariant
