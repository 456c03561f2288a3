use Rattle.std.proofs.Common.{true, arith, ◌∙◌}
use Rattle.baton.proofs.EachStep.{collects_again}
use Rattle.baton.proofs.waiting.await_answer.Goals as goal

pub compare_exchange-found-requires : goal.compare_exchange-found-requires
compare_exchange-found-requires g c = let t = g.P.Turns in let same = c.loop.invariant in let sits = c.requires.sits in let one = sits.1 in (
  same.0 ∙ sits.0,
  omega arith,
  collects_again t.asked t.told t.may_ask t.may_answer true _ _ c.loop.seat.me c.args.seat.now.me same.2 (same.1 ∙ c.requires.asker) sits.3 c.requires.asked,
)
