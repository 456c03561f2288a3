use Rattle.std.proofs.Common.{◌≡◌, sym, ◌∙◌, add-one, ap, ◌++◌, append_assoc, arith, [], drop}
use Rattle.std.specs.Prelude.{None, Some, slice_get}
use Rattle.std.specs.Option.{option_copied}
use Rattle.std.proofs.lemmas.List.{append-nil}
use Rattle.expr_eval.specs.Names.{bound}
use Rattle.expr_eval.proofs.Named.{bound_step, bound_past_values}
use Rattle.expr_eval.proofs.locals.Locals.of_call.Goals as goal

pub loop-i-preserved : goal.loop-i-preserved
loop-i-preserved c =
    let found : slice_get c.args.arguments.now c.loop-i.i ≡ Some c.in-Some.argument.now = sym c.at.ensures ∙ ap option_copied c.in-Some.is in
    let next = bound_step c.args.params.now c.args.arguments.now c.loop-i.i c.index-params-i.result c.in-Some.argument.now (omega arith) c.index-params-i.is found in
    rw (c.in_ok-push-in-Some.ensures.items, c.in_ok-name-in-Some.ensures, c.in_ok-copy-in-Some.ensures, add-one c.loop-i.i, append_assoc, ← next) c.loop-i.invariant

pub returns-in-None : goal.returns-in-None
returns-in-None c =
    let none : slice_get c.args.arguments.now c.loop-i.i ≡ None = sym c.at.ensures ∙ ap option_copied c.in-None.is in
    let past : bound (drop c.loop-i.i c.args.params.now) (drop c.loop-i.i c.args.arguments.now) ≡ [] = bound_past_values (drop c.loop-i.i c.args.params.now) c.args.arguments.now c.loop-i.i none in
    sym (append-nil c.loop-i.entries.items) ∙ (ap (λ l. c.loop-i.entries.items ++ l) (sym past) ∙ c.loop-i.invariant)
