use Rattle.std.proofs.Common.{List, sym, subst}
use Rattle.std.specs.Prelude.{is_ok}
use Rattle.binding_engine.specs.Progress.{AreMet}
use Rattle.binding_engine.specs.declared.waiting.Waiting.{Waiting}
use Rattle.binding_engine.proofs.Onward.{met_pushed}
use Rattle.binding_engine.proofs.present.Present.keep_progress.Goals as goal

pub invariant_of-self : goal.invariant_of-self
invariant_of-self c = record {
  met = subst (λ (ws : List Waiting). AreMet (c.args.self.now.objects.now, c.args.self.now.cells) ws) (sym c.push.ensures.items)
      (met_pushed (c.args.self.now.objects.now, c.args.self.now.cells) c.args.self.now.waiting.items c.args.place c.args.progress (is_ok c.push.result) c.args.self.now.met c.requires);
}
