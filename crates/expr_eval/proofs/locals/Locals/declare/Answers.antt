use Rattle.std.proofs.Common.{sym, ◌∙◌}
use Rattle.expr_eval.proofs.Named.{set_declared, push_declared}
use Rattle.expr_eval.proofs.locals.Locals.declare.Goals as goal

pub returns-in-Some-clause-ok : goal.returns-in-Some-clause-ok
returns-in-Some-clause-ok c =
    let set = set_declared c.args.name.now c.args.held c.args.fixed c.args.self.now c.in-Some.at (sym c.position-at.ensures.value ∙ c.in-Some.is) in
    rw (c.put_at.ensures, c.in_ok-name.ensures) set

pub returns-in_ok-push-in-None-clause-ok : goal.returns-in_ok-push-in-None-clause-ok
returns-in_ok-push-in-None-clause-ok c =
    let pushed = push_declared c.args.name.now c.args.held c.args.fixed c.args.self.now (sym c.position-at.ensures.value ∙ c.in-None.is) in
    rw (c.in_ok-push-in-None.ensures.items, c.in_ok-name.ensures) (rw c.self.view_is pushed)
