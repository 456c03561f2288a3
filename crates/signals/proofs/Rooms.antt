-- What runs a handler, by how many may still nest.
use Rattle.std.proofs.Common.{◌≡◌, ◌∙◌, ◌-◌, ℕ, zero, suc, refl, sym, ap, subst, arith}
use Rattle.std.specs.Prelude.{List, Ok, Err}
use Rattle.qml_ast.specs.declared.eval_fault.EvalFault.{EvalFault}
use Rattle.expr_eval.specs.declared.locals.NamedLocal.{NamedLocal}
use Rattle.signals.specs.Endings.{Flowing, Ends, Leaves, LeavesHalted, ended, stopped}
use Rattle.signals.specs.Noting.{with_fault_note}
use Rattle.signals.specs.declared.ending.Flow.{Flow}
use Rattle.signals.specs.declared.ending.Stop.{Stop}
use Rattle.signals.specs.declared.ending.Stop.TheVariants.{Fault, Halted}
use Rattle.signals.specs.declared.ending.Halt.{Halt}
use Rattle.signals.specs.declared.ending.Halt.TheVariants.{Budget, TooDeep, NoMemory}
use Rattle.signals.specs.declared.job.Site.{Site}
use Rattle.signals.specs.Running.{handle, body_done, ended_as}
use Rattle.signals.specs.declared.job.Job.{Job}
use Rattle.signals.specs.declared.world.World.{World}

pub with_room : (room : ℕ) (job : Job) (w : World) → (room ≡ 0 → ⊥) → handle room job w ≡ ended_as job.site (body_done (handle (room - 1)) job.site job.body w job.locals)
unfolding handle
with_room zero job w some = absurd (some refl)
with_room (suc room) job w some = ap (λ n. ended_as job.site (body_done (handle n) job.site job.body w job.locals)) (omega arith)

-- a limit that is met in a handler is met by what runs it
pub ended_halted : (o : Flowing) (site : Site) (halt : Halt) (w : World) (locals : List NamedLocal) → LeavesHalted o halt w locals → Ends (ended_as site o) (Err halt) w
ended_halted o site Budget w locals h = rw h refl
ended_halted o site TooDeep w locals h = rw h refl
ended_halted o site NoMemory w locals h = tt

-- a body that has run, with a copy of the job's locals
module _ (room : ℕ) (job : Job) (w : World) (some : room ≡ 0 → ⊥) (locals : List NamedLocal) (copied : locals ≡ job.locals) where
  with_copy : handle room job w ≡ ended_as job.site (body_done (handle (room - 1)) job.site job.body w locals)
  with_copy = with_room room job w some ∙ ap (λ l. ended_as job.site (body_done (handle (room - 1)) job.site job.body w l)) (sym copied)

  pub ran_ok : (flow : Flow) (w2 : World) (l2 : List NamedLocal) → body_done (handle (room - 1)) job.site job.body w locals ≡ (Ok flow, (w2, l2)) → handle room job w ≡ ended w2
  ran_ok flow w2 l2 ran = with_copy ∙ ap (ended_as job.site) ran

  pub ran_fault : (fault : EvalFault) (stop : Stop) (w2 w3 : World) (l2 : List NamedLocal) → stop ≡ Fault fault → Leaves (body_done (handle (room - 1)) job.site job.body w locals) (Err stop) w2 l2 →
      w3 ≡ with_fault_note job.site fault w2 → handle room job w ≡ ended w3
  ran_fault fault stop w2 w3 l2 is ran noted =
      let ends : body_done (handle (room - 1)) job.site job.body w locals ≡ stopped (Fault fault) w2 l2 =
      subst (λ s. Leaves (body_done (handle (room - 1)) job.site job.body w locals) (Err s) w2 l2) is ran in
      with_copy ∙ (ap (ended_as job.site) ends ∙ ap ended (sym noted))

  pub ran_halted : (halt : Halt) (stop : Stop) (w2 : World) (l2 : List NamedLocal) → stop ≡ Halted halt → Leaves (body_done (handle (room - 1)) job.site job.body w locals) (Err stop) w2 l2 →
      Ends (handle room job w) (Err halt) w2
  ran_halted halt stop w2 l2 is ran =
      subst (λ e. Ends e (Err halt) w2) (sym with_copy)
      (ended_halted (body_done (handle (room - 1)) job.site job.body w locals) job.site halt w2 l2
      (subst (λ s. Leaves (body_done (handle (room - 1)) job.site job.body w locals) (Err s) w2 l2) is ran))
