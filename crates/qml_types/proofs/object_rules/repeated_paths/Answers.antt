use Rattle.std.proofs.Common.{map, fold, []}
use Rattle.std.specs.List.{flat_map}
use Rattle.qml_types.specs.Readings.{part_of}
use Rattle.qml_types.specs.Rules.{note, path_claim}
use Rattle.qml_types.proofs.Turns.{turn}
use Rattle.qml_types.proofs.object_rules.repeated_paths.Goals as goal

pub loop-member-preserved : goal.loop-member-preserved
loop-member-preserved c =
    turn note path_claim c.args.members.now c.loop-member.member-index c.member-item.result (c.loop-member.seen, c.loop-member.first)
    (c.claim_initialised.new.seen, c.claim_initialised.new.first) (fold note ([], c.args.first.now) (flat_map path_claim (map part_of c.args.members.now)))
    c.member-item.is c.loop-member-test.true c.in_ok-claim_initialised.ensures c.loop-member.invariant
