use Rattle.std.proofs.Common.{◌∙◌, arith}
use Rattle.std.proofs.lemmas.Grind.{common_steps}
use Rattle.qml_parse.proofs.Names.{last_name_on}
use Rattle.qml_parse.proofs.lookahead.ends_type.Goals as goal

pub loop-next-preserved : goal.loop-next-preserved
loop-next-preserved c =
    c.loop-next.invariant ∙ last_name_on c.loop-next.name.now c.in-Some.next.now c.loop-next.rest.now _ c.in-Some.ensures.name (grind (arith, common_steps))
