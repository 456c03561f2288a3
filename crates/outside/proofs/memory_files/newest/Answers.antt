use Rattle.std.proofs.Common.{ap, sym, ◌∙◌, Some}
use Rattle.outside.proofs.Storing.{get-found, get-passed, get-nothing}
use Rattle.outside.proofs.memory_files.newest.Goals as goal

pub returns-then-eq : goal.returns-then-eq
returns-then-eq c =
    ap Some c.as_slice.ensures.value
    ∙ sym (c.loop-file.invariant ∙ get-found _ _ c.in-Some.file.now _ c.as_str.result.now c.eq.result c.in-Some.ensures.steps c.as_str.ensures.value c.eq.ensures c.if-eq.true)

pub loop-file-preserved : goal.loop-file-preserved
loop-file-preserved c =
    c.loop-file.invariant ∙ get-passed _ _ c.in-Some.file.now _ c.as_str.result.now c.eq.result c.in-Some.ensures.steps c.as_str.ensures.value c.eq.ensures c.if-eq.false

pub returns : goal.returns
returns c = sym (c.loop-file.invariant ∙ get-nothing _ _ c.in-None.ensures.steps.0)
