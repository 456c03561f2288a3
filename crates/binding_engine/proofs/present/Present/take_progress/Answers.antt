use Rattle.std.proofs.Common.{rules, ◌≡◌, ◌-◌, true, Some, List, length, sym, ap, subst, ◌∙◌, slice_get}
use Rattle.std.specs.Prelude.{option_copied, option_to_list}
use Rattle.item_equations.specs.declared.progress.Progress.{Progress}
use Rattle.qml_ast.specs.declared.place.Place.{Place}
use Rattle.expr_eval.specs.Traces.{are_same}
use Rattle.binding_engine.specs.Progress.{IsMetAt, AreMet}
use Rattle.binding_engine.specs.Standing.{one_place}
use Rattle.binding_engine.specs.declared.waiting.Waiting.{Waiting}
use Rattle.binding_engine.proofs.Onward.{nothing_met_at, met_at, met_first}
use Rattle.binding_engine.proofs.present.Present.take_progress.Goals as goal

pub invariant_of-self : goal.invariant_of-self
invariant_of-self c = record {
  met = met_first (c.args.self.now.objects.now, c.args.self.now.cells) c.pop.new.self.items (option_to_list c.pop.result)
      (subst (λ (ws : List Waiting). AreMet (c.args.self.now.objects.now, c.args.self.now.cells) ws) c.pop.ensures.items c.args.self.now.met);
}

pub returns-in-Some-clause-met : goal.returns-in-Some-clause-met
returns-in-Some-clause-met c =
    let found : slice_get c.as_slice.result.now (length c.as_slice.result.now - 1) ≡ Some c.in-Some.last.now = sym c.last.ensures.value ∙ ap option_copied c.in-Some.is in
    let test : are_same c.in-Some.last.now.place c.args.place ≡ true = search rules in
    let same : c.in-Some.last.now.place ≡ c.args.place = one_place c.in-Some.last.now.place c.args.place test in
    subst (λ (p : Place). IsMetAt (c.args.self.now.objects.now, c.args.self.now.cells) p c.in-Some.last.now.progress) same
    (met_at (c.args.self.now.objects.now, c.args.self.now.cells) c.as_slice.result.now (length c.as_slice.result.now - 1) c.in-Some.last.now found
    (subst (λ (ws : List Waiting). AreMet (c.args.self.now.objects.now, c.args.self.now.cells) ws) (sym c.as_slice.ensures.value) c.args.self.now.met))

pub returns-in_default-clause-met : goal.returns-in_default-clause-met
returns-in_default-clause-met c =
    subst (λ (far : Progress). IsMetAt (c.args.self.now.objects.now, c.args.self.now.cells) c.args.place far) (sym c.none.ensures) (nothing_met_at (c.args.self.now.objects.now, c.args.self.now.cells) c.args.place)
