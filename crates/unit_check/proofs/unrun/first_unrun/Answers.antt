use Rattle.std.proofs.Common.{◌∙◌, ap, sym, arith}
use Rattle.unit_check.specs.Unrun.{first_place, first_unrun}
use Rattle.unit_check.proofs.Noted.{place_found, no_place}
use Rattle.unit_check.proofs.unrun.first_unrun.Goals as goal

pub returns-in-Some-clause-first : goal.returns-in-Some-clause-first
unfolding first_unrun
returns-in-Some-clause-first c =
    place_found c.args.components.now c.loop-document.document c.index-components-document.result c.in-Some.at _ c.loop-document-test.true
    c.index-components-document.is (sym c.in-Some.is ∙ (c.first_place.ensures ∙ ap first_place c.get.ensures)) c.loop-document.invariant

pub returns-clause-first : goal.returns-clause-first
unfolding first_unrun
returns-clause-first c = no_place c.args.components.now c.loop-document.document _ (omega arith) c.loop-document.invariant
