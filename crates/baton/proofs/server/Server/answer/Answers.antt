use Rattle.std.proofs.Common.{arith, ap, sym, ◌∙◌}
use Rattle.baton.proofs.EachStep.{replies_from}
use Rattle.baton.proofs.server.Server.answer.Goals as goal

pub store-requires : goal.store-requires
store-requires g c = let t = g.P.Turns in let sits = c.self.invariant in let put = c.exchange.ensures in let here = ap (λ s. s.shared.table_id) c.deref.ensures in let words = ap (λ z. z.words) here ∙ sits.1 in (
  put.0 ∙ (sits.0 ∙ sym here),
  omega arith,
  replies_from t.asked t.told t.may_ask t.may_answer c.args.answer _ _ c.self.inside.seat.table_id c.args.self.now c.self.inside.seat.me _ c.self.view_is c.requires sits.3 put.3,
)
