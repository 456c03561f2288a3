-- The seat stays as it was as long as there is no question.
use Rattle.std.proofs.Common.{◌≡◌}
use Rattle.baton.proofs.waiting.await_question.Given as goal

abbrev pub invariant-loop : goal.invariant-loop
invariant-loop g l = (l.seat.table_id ≡ l.initial.seat.table_id) × (l.seat.id ≡ l.initial.seat.id) × (l.seat.me ≡ l.initial.seat.me)
