use Rattle.std.proofs.Common.{◌≡◌, suc, ◌-◌, ap, ◌∙◌, refl, arith}
use Rattle.std.specs.Prelude.{Ok}
use Rattle.expr_eval.specs.Evaluation.{body}
use Rattle.expr_eval.specs.Progress.{node}
use Rattle.expr_eval.proofs.Bodies.{deeper, at_call}
use Rattle.expr_eval.proofs.evaluation.+evaluation.Goals as goal

pub body_value-returns-then-at-eq0-clause-value : goal.body_value-returns-then-at-eq0-clause-value
unfolding body
body_value-returns-then-at-eq0-clause-value g t c = rw c.if-at-eq0.true refl

pub body_value-returns-clause-value : goal.body_value-returns-clause-value
body_value-returns-clause-value g t c =
    let clean = g.R.Reader.clean c.args.at.now.reader.now in
    let means = g.R.Reader.means c.args.at.now.reader.now in
    let one_more : c.args.at.now.calls ≡ suc (c.args.at.now.calls - 1) = omega arith in
    let inside = ap (λ calls. body clean means calls c.args.returned.now (c.args.frame, c.args.locals.now)) one_more ∙ deeper clean means (c.args.at.now.calls - 1) c.args.returned.now (c.args.frame, c.args.locals.now) in
    rw inside c.sense_of_value.ensures.value

pub sense-returns-in-Call-clause-value : goal.sense-returns-in-Call-clause-value
sense-returns-in-Call-clause-value g t c =
    let clean = g.R.Reader.clean c.args.at.now.reader.now in
    let means = g.R.Reader.means c.args.at.now.reader.now in
    let layer = at_call clean means c.args.at.now.calls c.in-Call.callee c.in-Call.arguments in
    let visited : node c.args.progress.now ≡ (Ok c.in_ok-visit_node.field-0, c.visit_node.new.progress) = c.in_ok-visit_node.ensures.value in
    rw (c.in-Call.is, layer, visited, ← c.get-in-Call.ensures, ← c.as_slice.ensures) c.called.ensures.value
