use Rattle.std.proofs.Common.{arith, ap, sym, subst, ◌∙◌}
use Rattle.baton.specs.Sides.{InHand}
use Rattle.baton.proofs.Standing.{IsMet}
use Rattle.baton.proofs.EachStep.{joins_from, learns}
use Rattle.baton.proofs.asker.Closer.meet.Goals as goal

pub join_seat-requires : goal.join_seat-requires
join_seat-requires g c =
    let t = g.P.Turns in
    let sits = c.self.invariant.0 in
    let here = ap (λ s. s.shared.table_id) c.deref.ensures in
    let words = ap (λ z. z.words) here ∙ sits.1 in
    let server = c.into_seat.result in
    let known = c.into_seat.ensures.known in (
      sits.0 ∙ sym here,
      ap (λ s. s.gate) (sym known) ∙ (c.requires.gate ∙ (ap (λ s. s.gate) (sym c.self.view_is) ∙ (sits.0 ∙ sym here))),
      c.into_seat.ensures.hand c.requires.dismissed,
      omega arith,
      joins_from t.asked t.told t.may_ask t.may_answer c.self.inside.seat.id c.self.inside.seat.me.0 server.id server.me.0 c.self.invariant.1
          c.self.invariant.2 (ap (λ s. s.stage) (sym known) ∙ c.requires.dismissed),
    )

pub load-requires : goal.load-requires
load-requires g c =
    let t = g.P.Turns in
    let sits = c.self.invariant.0 in
    let here = ap (λ s. s.shared.table_id) c.deref.ensures in
    let words = ap (λ z. z.words) here ∙ sits.1 in
    let joined = c.join_seat.ensures in
    let seat = c.join_seat.new.seat in
    let stands = c.self.invariant.2 in (
      joined.0 ∙ (sits.0 ∙ sym here),
      omega arith,
      learns t.asked t.told t.may_ask t.may_answer _ seat.id seat.me (joined.1 ∙ c.self.invariant.1)
          (ap (λ m. m.1) joined.2 ∙ subst (λ stage. InHand stage c.self.inside.seat.me.1) stands sits.3) (subst (λ m. IsMet m.0.stage) (sym joined.2) tt),
    )
