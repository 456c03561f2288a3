use Rattle.std.proofs.Common.{arith, ap, sym, ◌∙◌}
use Rattle.baton.proofs.EachStep.{collects_from}
use Rattle.baton.proofs.asker.Asker.try_collect.Goals as goal

pub compare_exchange-found-requires : goal.compare_exchange-found-requires
compare_exchange-found-requires g c = let t = g.P.Turns in let sits = c.self.invariant.0 in let here = ap (λ s. s.shared.table_id) c.deref.ensures in let words = ap (λ z. z.words) here ∙ sits.1 in (
  sits.0 ∙ sym here,
  omega arith,
  collects_from t.asked t.told t.may_ask t.may_answer _ _ c.self.inside.seat.table_id c.args.self.now c.self.inside.seat.me c.self.view_is c.requires sits.3 c.self.invariant.1,
)
