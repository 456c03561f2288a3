use Rattle.std.proofs.Common.{◌≡◌, sym, subst, ap, ◌∙◌}
use Rattle.settling.specs.Phases.{phase_of}
use Rattle.settling.specs.declared.field.Phase.TheVariants.{UnderWay}
use Rattle.object_tree.specs.Store.{Store}
use Rattle.binding_engine.specs.Entries.{Entries, at}
use Rattle.binding_engine.specs.Progress.{AreMet}
use Rattle.binding_engine.proofs.Onward.{met_valued, met_failed}
use Rattle.binding_engine.proofs.present.PresentField.evaluate.Goals as goal

pub invariant_of-self-in-Is : goal.invariant_of-self-in-Is
invariant_of-self-in-Is c =
    let under_way : phase_of (at (c.take_progress-progress.new.self.objects.now, c.take_progress-progress.new.self.cells) c.args.place) ≡ UnderWay =
    ap (λ (store : Store). phase_of (at (store, c.take_progress-progress.new.self.cells) c.args.place)) c.take_progress-progress.ensures.objects
    ∙ ap (λ (es : Entries). phase_of (at (c.args.self.now.objects.now, es) c.args.place)) c.take_progress-progress.ensures.cells ∙ c.requires in
    record {
      met = subst (λ (es : Entries). AreMet (c.take_progress-progress.new.self.objects.now, es) c.take_progress-progress.new.self.waiting.items) (sym c.put.ensures)
          (met_valued (c.take_progress-progress.new.self.objects.now, c.take_progress-progress.new.self.cells) c.args.place c.take_progress-progress.new.self.waiting.items c.take_progress-progress.new.self.met
          c.in-Is.value under_way);
    }

pub invariant_of-self-in-Faulted : goal.invariant_of-self-in-Faulted
invariant_of-self-in-Faulted c =
    let under_way : phase_of (at (c.take_progress-progress.new.self.objects.now, c.take_progress-progress.new.self.cells) c.args.place) ≡ UnderWay =
    ap (λ (store : Store). phase_of (at (store, c.take_progress-progress.new.self.cells) c.args.place)) c.take_progress-progress.ensures.objects
    ∙ ap (λ (es : Entries). phase_of (at (c.args.self.now.objects.now, es) c.args.place)) c.take_progress-progress.ensures.cells ∙ c.requires in
    record {
      met = subst (λ (es : Entries). AreMet (c.take_progress-progress.new.self.objects.now, es) c.take_progress-progress.new.self.waiting.items) (sym c.fail.ensures)
          (met_failed (c.take_progress-progress.new.self.objects.now, c.take_progress-progress.new.self.cells) c.args.place c.take_progress-progress.new.self.waiting.items c.take_progress-progress.new.self.met
          c.in-Faulted.fault under_way);
    }
