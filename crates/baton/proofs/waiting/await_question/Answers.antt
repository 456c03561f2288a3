use Rattle.std.proofs.Common.{arith, ◌∙◌}
use Rattle.baton.proofs.EachStep.{takes_again}
use Rattle.baton.proofs.waiting.await_question.Goals as goal

pub compare_exchange-found-requires : goal.compare_exchange-found-requires
compare_exchange-found-requires g c = let t = g.P.Turns in let same = c.loop.invariant in let sits = c.requires.sits in let one = sits.1 in (
  same.0 ∙ sits.0,
  omega arith,
  takes_again t.asked t.told t.may_ask t.may_answer _ _ c.loop.seat.me c.args.seat.now.me same.2 sits.3 c.requires.waits,
)
