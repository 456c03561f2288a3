use Rattle.std.proofs.Common.{Some, length, refl, ap, sym, ◌∙◌, arith}
use Rattle.std.proofs.lemmas.Option.{slice_get_read, slice_get_within, same_Some}
use Rattle.links.specs.Free.{previous_free}
use Rattle.links.proofs.Rings.{changed_by_set, unchanged_at}
use Rattle.links.proofs.slot.set_previous.Goals as goal

pub returns-in-Some-Free : goal.returns-in-Some-Free
returns-in-Some-Free g c =
    let found = slice_get_read c.args.slots.now (length c.args.slots.now) c.args.at c.in-Some-Free.field-0.now refl c.in-Some-Free.ensures.lookup.3.0 c.in-Some-Free.ensures.lookup.1 in
    changed_by_set (previous_free c.args.previous) c.args.at c.args.slots.now _ _ (found ∙ ap Some c.in-Some-Free.field-0-is) refl

pub returns-in-Some-Full : goal.returns-in-Some-Full
returns-in-Some-Full g c =
    let found = slice_get_read c.args.slots.now (length c.args.slots.now) c.args.at c.in-Some-Full.field-0.now refl c.in-Some-Full.ensures.lookup.3.0 c.in-Some-Full.ensures.lookup.1 in
    sym (unchanged_at (previous_free c.args.previous) c.args.at c.args.slots.now
    (λ x e. let same = same_Some _ _ (sym e ∙ (found ∙ ap Some c.in-Some-Full.field-0-is)) in ap (previous_free c.args.previous) same ∙ sym same))

pub returns-in-None : goal.returns-in-None
returns-in-None g c =
    sym (unchanged_at (previous_free c.args.previous) c.args.at c.args.slots.now
    (λ x e. let within = slice_get_within c.args.slots.now c.args.at x e in absurd (omega (arith, c.in-None.ensures.lookup.3))))
