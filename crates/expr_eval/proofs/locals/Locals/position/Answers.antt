use Rattle.std.proofs.Common.{◌≡◌, true, false, slice_index_or, sym, ◌∙◌, arith, add-one}
use Rattle.expr_eval.specs.Names.{is_named}
use Rattle.expr_eval.proofs.Named.{found_at, none_more}
use Rattle.expr_eval.proofs.locals.Locals.position.Goals as goal

pub returns-then-is-clause-value : goal.returns-then-is-clause-value
returns-then-is-clause-value c =
    let holds : is_named c.args.name.now (slice_index_or c.deref-entry-items.result.now c.loop-at.at c.entry-item.result) ≡ true = rw (sym c.entry-item.is) (sym c.is.ensures.value ∙ c.if-is.true) in
    let found = found_at c.args.name.now c.deref-entry-items.result.now c.loop-at.at c.entry-item.result c.loop-at.invariant (omega arith) holds in
    cc

pub loop-at-preserved : goal.loop-at-preserved
loop-at-preserved c =
    let fails : is_named c.args.name.now (slice_index_or c.deref-entry-items.result.now c.loop-at.at c.entry-item.result) ≡ false = rw (sym c.entry-item.is) (sym c.is.ensures.value ∙ c.if-is.false) in
    rw (add-one c.loop-at.at) (none_more c.args.name.now c.deref-entry-items.result.now c.loop-at.at c.entry-item.result c.loop-at.invariant (omega arith) fails)
