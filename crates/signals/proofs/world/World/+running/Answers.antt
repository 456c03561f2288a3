use Rattle.std.proofs.Common.{◌∙◌, sym, ap, subst, arith}
use Rattle.std.specs.Prelude.{Ok}
use Rattle.signals.specs.Endings.{Leaves}
use Rattle.signals.proofs.Begun.{assigns, chooses, performs}
use Rattle.signals.specs.Running.{exec, handle, change_told}
use Rattle.signals.proofs.Rooms.{ran_ok, ran_fault, ran_halted}
use Rattle.std.proofs.lemmas.Result.{err_from_is_err_and}
use Rattle.signals.proofs.Each.{each_next, each_stops}
use Rattle.signals.proofs.Turns.{begins, turn_goes}
use Rattle.signals.proofs.world.World.+running.Goals as goal

pub call-returns-in-Log-clause-runs : goal.call-returns-in-Log-clause-runs
call-returns-in-Log-clause-runs t c = rw (← c.in_ok-called.ensures, c.in-Log.is, ← c.as_slice.ensures) (c.log.ensures.runs c.args.locals.now)

pub call-returns-in-Signal-clause-runs : goal.call-returns-in-Signal-clause-runs
call-returns-in-Signal-clause-runs t c = rw (← c.in_ok-called.ensures, c.in-Signal.is, ← c.as_slice-in-Signal.ensures) (c.call_signal.ensures.runs c.args.locals.now)

pub call-returns-in-Method-clause-runs : goal.call-returns-in-Method-clause-runs
call-returns-in-Method-clause-runs t c = rw (← c.in_ok-called.ensures, c.in-Method.is, ← c.as_slice-in-Method.ensures) (c.call_method.ensures.runs c.args.locals.now)

pub statement-returns-in-Assign-clause-runs : goal.statement-returns-in-Assign-clause-runs
statement-returns-in-Assign-clause-runs t c =
    subst (λ s. Leaves (exec (handle c.args.at.now.room) c.args.at.now.site.now s c.args.self.now c.args.locals.now) c.assign.result c.assign.new.self c.assign.new.locals) (sym c.in-Assign.is)
    (assigns _ _ _ c.begin_statement.new.self _ _ _ _ c.in-Assign.target c.in-Assign.op c.in-Assign.right c.in_ok-begin_statement.ensures.begins c.assign.ensures.runs)

pub statement-returns-in-If-clause-runs : goal.statement-returns-in-If-clause-runs
statement-returns-in-If-clause-runs t c =
    subst (λ s. Leaves (exec (handle c.args.at.now.room) c.args.at.now.site.now s c.args.self.now c.args.locals.now) c.choose.result c.choose.new.self c.choose.new.locals) (sym c.in-If.is)
    (chooses _ _ _ c.begin_statement.new.self _ _ _ _ c.in-If.condition c.in-If.first c.in-If.otherwise c.in_ok-begin_statement.ensures.begins
    (rw (← c.as_ref-in-If.ensures.value) c.choose.ensures.runs))

pub perform-returns-in-Call-clause-runs : goal.perform-returns-in-Call-clause-runs
perform-returns-in-Call-clause-runs t c =
    performs (handle c.args.at.now.room) c.args.at.now.site.now c.args.self.now c.args.self.now c.args.locals.now c.call.result c.call.new.self c.call.new.locals c.args.e.now c.in-Call.callee c.in-Call.arguments c.in-Call.is
    (rw (← c.get.ensures, ← c.as_slice.ensures) c.call.ensures.runs)

pub run-returns-in-Ok-clause-runs : goal.run-returns-in-Ok-clause-runs
run-returns-in-Ok-clause-runs t c =
    ran_ok c.args.room c.args.job.now c.args.self.now c.if-room-eq0.false c.in_ok-locals.locals c.in_ok-locals.ensures c.in-Ok.field-0 c.run_body.new.self c.run_body.new.locals c.in-Ok.ensures.runs

pub run-returns-in-Err-Fault-clause-runs : goal.run-returns-in-Err-Fault-clause-runs
run-returns-in-Err-Fault-clause-runs t c =
    ran_fault c.args.room c.args.job.now c.args.self.now c.if-room-eq0.false c.in_ok-locals.locals c.in_ok-locals.ensures c.in-Err-Fault.fault c.in-Err-Fault.field-0 c.run_body.new.self c.note_end.new.self c.run_body.new.locals c.in-Err-Fault.field-0-is c.in-Err-Fault.ensures.runs
    c.in_ok-note_end-in-Err-Fault.ensures.noted

pub run-returns-clause-runs : goal.run-returns-clause-runs
run-returns-clause-runs t c =
    ran_halted c.args.room c.args.job.now c.args.self.now c.if-room-eq0.false c.in_ok-locals.locals c.in_ok-locals.ensures c.in-Err-Halted.halt c.in-Err-Halted.field-0 c.run_body.new.self c.run_body.new.locals c.in-Err-Halted.field-0-is c.in-Err-Halted.ensures.runs

pub tell_changes-returns-in_err-tell_change-clause-runs : goal.tell_changes-returns-in_err-tell_change-clause-runs
tell_changes-returns-in_err-tell_change-clause-runs t c =
    let p = err_from_is_err_and c.from_residual.result c.from_residual.ensures.1 in
    rw (p.1, p.2) (each_stops (change_told (handle c.args.room)) c.args.changed.now c.loop-place.place-index _ c.loop-place.self c.tell_change.new.self _ _ c.loop-place-test.true c.loop-place.invariant.0 c.in_err-tell_change.ensures.runs)

pub tell_changes-loop-place-preserved : goal.tell_changes-loop-place-preserved
tell_changes-loop-place-preserved t c =
    (each_next (change_told (handle c.args.room)) c.args.changed.now c.loop-place.place-index _ c.loop-place.self c.tell_change.new.self _ c.loop-place-test.true c.loop-place.invariant.0 c.in_ok-tell_change.ensures.runs, omega (arith, c.loop-place.invariant.1, c.in_ok-tell_change.ensures.left))

pub turns-loop-self-init : goal.turns-loop-self-init
turns-loop-self-init t c = (begins _ _ _ _ _, omega arith)

pub turns-loop-self-preserved : goal.turns-loop-self-preserved
turns-loop-self-preserved t c = (
  turn_goes _ _ _ c.loop-self.self c.loop-self.locals _ c.in_ok-condition.field-0 c.turn.new.self c.turn.new.locals c.loop-self.invariant.0 c.in_ok-condition.ensures c.if-branch.true
      (c.in_ok-turn.ensures.runs ∙ ap (λ flow. (Ok flow, (c.turn.new.self, c.turn.new.locals))) c.in-Going.is) c.in_ok-turn.ensures.spends,
  omega (arith, c.loop-self.invariant.1, c.in_ok-turn.ensures.left),
)
