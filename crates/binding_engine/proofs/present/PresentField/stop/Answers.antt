use Rattle.std.proofs.Common.{sym, subst, ◌∙◌, ap}
use Rattle.binding_engine.specs.Entries.{Entries}
use Rattle.binding_engine.specs.Progress.{AreMet}
use Rattle.binding_engine.proofs.Moves.{stops}
use Rattle.binding_engine.proofs.Onward.{met_halted}
use Rattle.binding_engine.proofs.present.PresentField.stop.Goals as goal

pub invariant_of-self : goal.invariant_of-self
invariant_of-self c = record {
  met = subst (λ (es : Entries). AreMet (c.args.self.now.objects.now, es) c.args.self.now.waiting.items) (sym c.stop.ensures)
      (met_halted (c.args.self.now.objects.now, c.args.self.now.cells) c.args.place c.args.self.now.waiting.items c.args.self.now.met c.requires);
}

pub returns-clause-state : goal.returns-clause-state
returns-clause-state c =
    ap (λ (es : Entries). (c.args.self.now.objects.now, es)) c.stop.ensures ∙ stops (c.args.self.now.objects.now, c.args.self.now.cells) c.args.place c.requires
