use Rattle.std.proofs.Common.{◌≡◌, ◌∙◌, IfOk, ap, subst}
use Rattle.std.specs.Prelude.{Some}
use Rattle.stage_run.specs.Shown.{picture_of, notes_of, picture_with, notes_with}
use Rattle.stage_run.proofs.Showing.{first_started}
use Rattle.stage_run.proofs.picture.opening_of.Goals as goal

pub returns-clause-shown : goal.returns-clause-shown
unfolding picture_of
returns-clause-shown c =
    let first = first_started (c.args.unit.now).components c.as_slice.result.now c.main-item.result c.as_slice.ensures c.in-len1-up.len_at_least c.main-item.is in
    subst (λ p. IfOk c.opening_in.result (λ opening. opening.canvas ≡ p)) (ap picture_with (ap Some c.in_ok-world-in-len1-up.ensures ∙ first)) c.opening_in.ensures.shown

pub returns-clause-noted : goal.returns-clause-noted
unfolding notes_of
returns-clause-noted c =
    let first = first_started (c.args.unit.now).components c.as_slice.result.now c.main-item.result c.as_slice.ensures c.in-len1-up.len_at_least c.main-item.is in
    subst (λ p. IfOk c.opening_in.result (λ opening. opening.notes.items ≡ p)) (ap notes_with (ap Some c.in_ok-world-in-len1-up.ensures ∙ first)) c.opening_in.ensures.noted
