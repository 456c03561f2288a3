use Rattle.std.proofs.Common.{◌∙◌, sym, arith}
use Rattle.color_text.proofs.Entries.{found, passed, none_left}
use Rattle.color_text.proofs.table.color_among.Goals as goal

pub returns-then-is_alike : goal.returns-then-is_alike
returns-then-is_alike c =
    found c.args.text.now c.args.names.now c.loop-entry.entry-index c.loop-entry-test.true (sym c.is_alike.ensures ∙ c.if-is_alike.true) ∙ c.loop-entry.invariant

pub loop-entry-preserved : goal.loop-entry-preserved
loop-entry-preserved c =
    passed c.args.text.now c.args.names.now c.loop-entry.entry-index c.loop-entry-test.true (sym c.is_alike.ensures ∙ c.if-is_alike.false) ∙ c.loop-entry.invariant

pub returns : goal.returns
returns c = none_left c.args.text.now c.args.names.now c.loop-entry.entry-index (omega arith) ∙ c.loop-entry.invariant
