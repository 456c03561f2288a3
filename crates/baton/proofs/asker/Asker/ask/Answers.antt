use Rattle.std.proofs.Common.{arith, ap, sym, ◌∙◌}
use Rattle.baton.proofs.EachStep.{asks_from}
use Rattle.baton.proofs.asker.Asker.ask.Goals as goal

pub store-requires : goal.store-requires
store-requires g c = let t = g.P.Turns in let sits = c.self.invariant.0 in let put = c.exchange.ensures in let here = ap (λ s. s.shared.table_id) c.deref.ensures in let words = ap (λ z. z.words) here ∙ sits.1 in (
  put.0 ∙ (sits.0 ∙ sym here),
  omega arith,
  asks_from t.asked t.told t.may_ask t.may_answer c.args.question _ _ c.self.inside.seat.table_id c.args.self.now c.self.inside.seat.me _ c.self.view_is c.requires.idle c.requires.lawful sits.3 put.3 (put.1 ∙ c.self.invariant.1),
)
