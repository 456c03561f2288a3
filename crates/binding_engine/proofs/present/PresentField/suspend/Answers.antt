use Rattle.std.proofs.Common.{◌≡◌, sym, subst, ◌∙◌, ap}
use Rattle.settling.specs.Phases.{phase_of, Moves, left}
use Rattle.settling.specs.declared.field.Phase.TheVariants.{Stopped}
use Rattle.object_tree.specs.Store.{Store}
use Rattle.binding_engine.specs.Entries.{Entries, at, space}
use Rattle.binding_engine.specs.Progress.{AreMet}
use Rattle.binding_engine.proofs.Moves.{gives_up}
use Rattle.binding_engine.proofs.Onward.{met_left}
use Rattle.binding_engine.proofs.present.PresentField.suspend.Goals as goal

pub invariant_of-self : goal.invariant_of-self
invariant_of-self c =
    let stopped : phase_of (at (c.take_progress.new.self.objects.now, c.take_progress.new.self.cells) c.args.place) ≡ Stopped =
    ap (λ (store : Store). phase_of (at (store, c.take_progress.new.self.cells) c.args.place)) c.take_progress.ensures.objects
    ∙ ap (λ (es : Entries). phase_of (at (c.args.self.now.objects.now, es) c.args.place)) c.take_progress.ensures.cells ∙ c.requires in
    record {
      met = subst (λ (es : Entries). AreMet (c.take_progress.new.self.objects.now, es) c.take_progress.new.self.waiting.items) (sym c.suspend.ensures)
          (met_left (c.take_progress.new.self.objects.now, c.take_progress.new.self.cells) c.args.place c.take_progress.new.self.waiting.items c.take_progress.new.self.met stopped);
    }

pub returns-clause-state : goal.returns-clause-state
returns-clause-state c =
    let stopped : phase_of (at (c.take_progress.new.self.objects.now, c.take_progress.new.self.cells) c.args.place) ≡ Stopped =
    ap (λ (store : Store). phase_of (at (store, c.take_progress.new.self.cells) c.args.place)) c.take_progress.ensures.objects
    ∙ ap (λ (es : Entries). phase_of (at (c.args.self.now.objects.now, es) c.args.place)) c.take_progress.ensures.cells ∙ c.requires in
    let moved : Moves space left (c.take_progress.new.self.objects.now, c.take_progress.new.self.cells) c.args.place (c.take_progress.new.self.objects.now, c.suspend.new.self) =
    ap (λ (es : Entries). (c.take_progress.new.self.objects.now, es)) c.suspend.ensures ∙ gives_up (c.take_progress.new.self.objects.now, c.take_progress.new.self.cells) c.args.place stopped in
    subst (λ (es : Entries). Moves space left (c.args.self.now.objects.now, es) c.args.place (c.take_progress.new.self.objects.now, c.suspend.new.self)) c.take_progress.ensures.cells
    (subst (λ (store : Store). Moves space left (store, c.take_progress.new.self.cells) c.args.place (c.take_progress.new.self.objects.now, c.suspend.new.self)) c.take_progress.ensures.objects moved)
