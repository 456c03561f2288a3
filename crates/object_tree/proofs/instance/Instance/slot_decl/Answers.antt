use Rattle.std.proofs.Common.{◌∙◌, ap, sym}
use Rattle.std.specs.Prelude.{slice_get}
use Rattle.object_tree.specs.Layers.{decl_of, slots_in, declared_slots}
use Rattle.object_tree.proofs.Walks.{layer_has, layer_lacks}
use Rattle.object_tree.proofs.instance.Instance.slot_decl.Goals as goal

pub returns-then-left-slots : goal.returns-then-left-slots
returns-then-left-slots c =
    sym (layer_has (λ l. slots_in (decl_of l)) c.as_slice-layer-items.result.now c.loop-layer.layer-index c.layer-item.result c.slots-slots.result.now c.loop-layer.left c.index-slots-left.result
    c.layer-item.is c.loop-layer-test.true c.slots-slots.ensures c.if-left-slots.true c.index-slots-left.is)
    ∙ c.loop-layer.invariant ∙ ap (λ layers. slice_get (declared_slots layers) c.args.index) c.as_slice-layer-items.ensures

pub loop-layer-preserved : goal.loop-layer-preserved
loop-layer-preserved c =
    sym (layer_lacks (λ l. slots_in (decl_of l)) c.as_slice-layer-items.result.now c.loop-layer.layer-index c.layer-item.result c.slots-slots.result.now c.loop-layer.left
    c.layer-item.is c.loop-layer-test.true c.slots-slots.ensures c.if-left-slots.false)
    ∙ c.loop-layer.invariant
