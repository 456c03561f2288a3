use Rattle.std.proofs.Common.{◌≡◌, ◌∙◌, subst, ap}
use Rattle.std.specs.Prelude.{IfOk}
use Rattle.qml_ast.specs.declared.eval_fault.EvalFault.{EvalFault}
use Rattle.qml_ast.specs.declared.place.Place.{Place}
use Rattle.qml_ast.specs.declared.value.Value.{Value}
use Rattle.expr_eval.specs.declared.answer.Eval.{Eval}
use Rattle.expr_eval.specs.declared.answer.Eval.TheVariants as answer
use Rattle.settling.specs.Evaluations.{Outcome}
use Rattle.binding_engine.specs.Entries.{outcome_of}
use Rattle.binding_engine.proofs.Walking.{bound_comes}
use Rattle.binding_engine.proofs.present.Present.bound.Goals as goal

pub returns-in-Is : goal.returns-in-Is
returns-in-Is c =
    subst (λ (x : Outcome Place Value EvalFault). IfOk c.taken.result (λ e. outcome_of e ≡ x))
    (bound_comes (c.args.self.now.objects.now, c.args.self.now.cells) c.args.place c.args.binding.now c.get-expr.result.now c.new-locals.result c.new-trace.result c.eval.new.trace (answer.Is c.in-Is.value)
    c.get-expr.ensures c.new-locals.ensures c.new-trace.ensures (c.in_ok-value.ensures ∙ ap (λ (e : Eval). (e, c.eval.new.trace)) c.in-Is.is))
    c.taken.ensures

pub returns-in-Faulted : goal.returns-in-Faulted
returns-in-Faulted c =
    bound_comes (c.args.self.now.objects.now, c.args.self.now.cells) c.args.place c.args.binding.now c.get-expr.result.now c.new-locals.result c.new-trace.result c.eval.new.trace (answer.Faulted c.in-Faulted.fault)
    c.get-expr.ensures c.new-locals.ensures c.new-trace.ensures (c.in_ok-value.ensures ∙ ap (λ (e : Eval). (e, c.eval.new.trace)) c.in-Faulted.is)

pub returns : goal.returns
returns c =
    bound_comes (c.args.self.now.objects.now, c.args.self.now.cells) c.args.place c.args.binding.now c.get-expr.result.now c.new-locals.result c.new-trace.result c.eval.new.trace (answer.Needs c.in-Needs.needed)
    c.get-expr.ensures c.new-locals.ensures c.new-trace.ensures (c.in_ok-value.ensures ∙ ap (λ (e : Eval). (e, c.eval.new.trace)) c.in-Needs.is)
