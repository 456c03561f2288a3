use Rattle.std.proofs.Common.{◌∙◌, None, fold, flat_map, ap, arith}
use Rattle.unit_check.specs.Unrun.{earlier, object_place, first_place, unrun_places}
use Rattle.unit_check.proofs.Noted.{noted_more, noted_all}
use Rattle.unit_check.proofs.unrun.first_place.Goals as goal

pub loop-object-preserved : goal.loop-object-preserved
loop-object-preserved c =
    noted_more object_place c.as_slice-object-items.result.now c.loop-object.object-index c.object-item.result _ _ _ c.loop-object-test.true c.object-item.is c.note_object.ensures c.loop-object.invariant

pub returns : goal.returns
unfolding first_place unrun_places
returns c =
    noted_all object_place c.as_slice-object-items.result.now c.loop-object.object-index _ _ (omega arith) c.loop-object.invariant
    ∙ ap (λ objects. fold earlier None (flat_map object_place objects)) c.as_slice-object-items.ensures
