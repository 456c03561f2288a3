use Rattle.std.proofs.Common.{rules, arith}
use Rattle.std.proofs.lemmas.Grind.{common_steps}
use Rattle.qml_tokens.proofs.Marks.{written, absent}
use Rattle.qml_tokens.proofs.mark.mark.Goals as goal

pub unreachable-requires : goal.unreachable-requires
unreachable-requires c = absent c.args.text.now (c.mark_of.result) c.mark_of.ensures c.in-None.is c.requires

pub returns : goal.returns
returns c = written c.args.text.now c.in-Some.mark (first_of (search rules, grind (arith, common_steps)))
