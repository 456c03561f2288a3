use Rattle.std.proofs.Common.{map, fold}
use Rattle.std.specs.List.{flat_map}
use Rattle.qml_types.specs.Mentions.{with_mention}
use Rattle.qml_types.specs.Readings.{part_of, types_in}
use Rattle.qml_types.proofs.Documents.{types_told}
use Rattle.qml_types.proofs.Turns.{turn}
use Rattle.qml_types.proofs.mentioning.+mentions.Goals as goal

pub mention_object-returns-clause-added : goal.mention_object-returns-clause-added
mention_object-returns-clause-added t c =
    types_told c.args.decl.now c.as_slice.result.now c.args.mentions.now c.mention.new.mentions c.mention_members.new.mentions c.as_slice.ensures
    c.in_ok-mention.ensures.added c.in_ok-mention_members.ensures.added

pub mention_members-loop-member-preserved : goal.mention_members-loop-member-preserved
mention_members-loop-member-preserved t c = (
  c.in_ok-mention_member.ensures.kept,
  turn with_mention types_in c.args.members.now c.loop-member.member-index c.member-item.result c.loop-member.mentions c.mention_member.new.mentions
      (fold with_mention c.args.mentions.now (flat_map types_in (map part_of c.args.members.now)))
      c.member-item.is c.loop-member-test.true c.in_ok-mention_member.ensures.added c.loop-member.invariant.1,
)
