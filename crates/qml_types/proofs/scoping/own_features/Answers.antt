use Rattle.std.proofs.Common.{map, fold, []}
use Rattle.std.specs.List.{flat_map}
use Rattle.qml_types.specs.Features.{with_feature}
use Rattle.qml_types.specs.Readings.{part_of}
use Rattle.qml_types.specs.Rules.{own_feature}
use Rattle.qml_types.proofs.Turns.{turn}
use Rattle.qml_types.proofs.scoping.own_features.Goals as goal

pub loop-member-preserved : goal.loop-member-preserved
loop-member-preserved c =
    turn with_feature (own_feature c.args.known.now) c.args.members.now c.loop-member.member-index c.member-item.result c.loop-member.own c.add_feature.new.own
    (fold with_feature [] (flat_map (own_feature c.args.known.now) (map part_of c.args.members.now)))
    c.member-item.is c.loop-member-test.true c.in_ok-add_feature.ensures c.loop-member.invariant
