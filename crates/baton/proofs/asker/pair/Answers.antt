use Rattle.std.proofs.Common.{arith, ap, sym, subst, ◌∙◌}
use Rattle.baton.proofs.Standing.{IsSole, IsFresh}
use Rattle.baton.proofs.EachStep.{opens, parts, starts}
use Rattle.baton.proofs.asker.pair.Goals as goal

pub vacant-requires : goal.vacant-requires
vacant-requires g c = let t = g.P.Turns in opens t.asked t.told t.may_ask t.may_answer

pub split_seat-server-requires : goal.split_seat-server-requires
split_seat-server-requires g c =
    let t = g.P.Turns in
    let made = c.in_ok-table.ensures in
    let seat = c.in_ok-table.seat in
    let here = ap (λ s. s.shared.table_id) (c.deref.ensures ∙ c.in_ok-table-2.ensures.ok) in
    let words = ap (λ z. z.words) here ∙ made.0 in (
      made.2 ∙ sym here,
      omega arith,
      parts t.asked t.told t.may_ask t.may_answer seat.id seat.me.0 made.3 (subst (λ m. IsSole m.0.stage) (sym made.4) tt),
    )

pub store-requires : goal.store-requires
store-requires g c =
    let t = g.P.Turns in
    let made = c.in_ok-table.ensures in
    let split = c.split_seat-server.ensures in
    let seat = c.split_seat-server.new.seat in
    let here = ap (λ s. s.shared.table_id) (c.deref.ensures ∙ c.in_ok-table-2.ensures.ok) in
    let words = ap (λ z. z.words) here ∙ made.0 in (
      split.0 ∙ (made.2 ∙ sym here),
      omega arith,
      starts t.asked t.told t.may_ask t.may_answer _ seat.id seat.me (split.1 ∙ made.3) (ap (λ m. m.1) split.2 ∙ ap (λ m. m.1) made.4) (subst (λ m. IsFresh m.0.stage) (sym split.2) tt),
    )
