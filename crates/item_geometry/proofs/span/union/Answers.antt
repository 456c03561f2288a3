use Rattle.std.proofs.Common.{refl, subst, FitsSigned, w32, arith}
use Rattle.std.proofs.lemmas.Int.{ints, clamps}
use Rattle.std.specs.Int.{int_min, int_max}
use Rattle.item_geometry.specs.Span.{end_of}
use Rattle.item_geometry.proofs.Spans.{span_fits, span_leaves}
use Rattle.item_geometry.proofs.span.union.Goals as goal

pub overflow_sub-len : goal.overflow_sub-len
overflow_sub-len c = omega (arith, ints, clamps)

pub returns-in-Ok-clause-ends : goal.returns-in-Ok-clause-ends
returns-in-Ok-clause-ends c = omega (arith, ints, clamps, c.in-Ok.ensures.0, c.in-Ok.ensures.1)

pub returns-in-Ok-clause-fits : goal.returns-in-Ok-clause-fits
returns-in-Ok-clause-fits c = (λ ok. subst (FitsSigned w32) (omega (arith, ints, clamps)) c.in-Ok.ensures.0, λ fits. refl)

pub returns-in-Err-clause-fits : goal.returns-in-Err-clause-fits
returns-in-Err-clause-fits c = (λ ok. cc, λ fits. absurd (c.in-Err.ensures (subst (FitsSigned w32) (omega (arith, ints, clamps)) fits)))

pub returns-in-Ok-clause-answer : goal.returns-in-Ok-clause-answer
returns-in-Ok-clause-answer c =
    span_fits (int_min c.args.a.at c.args.b.at) (int_max (end_of c.args.a) (end_of c.args.b)) _ _ (omega (arith, ints, clamps)) (omega (arith, ints, clamps, c.in-Ok.ensures.0, c.in-Ok.ensures.1))
    (subst (FitsSigned w32) (omega (arith, ints, clamps)) c.in-Ok.ensures.0)

pub returns-in-Err-clause-answer : goal.returns-in-Err-clause-answer
returns-in-Err-clause-answer c = span_leaves (int_min c.args.a.at c.args.b.at) (int_max (end_of c.args.a) (end_of c.args.b)) (λ fits. c.in-Err.ensures (subst (FitsSigned w32) (omega (arith, ints, clamps)) fits))
