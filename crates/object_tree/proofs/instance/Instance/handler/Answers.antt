use Rattle.std.proofs.Common.{◌∙◌, Some, ap, sym}
use Rattle.std.specs.Prelude.{slice_get}
use Rattle.object_tree.specs.Handlers.{handlers_in, handler_of, handlers_under}
use Rattle.object_tree.specs.Layers.{decl_of}
use Rattle.object_tree.proofs.Walks.{mapped_has, mapped_lacks}
use Rattle.object_tree.proofs.instance.Instance.handler.Goals as goal

pub returns-then-left-handlers : goal.returns-then-left-handlers
returns-then-left-handlers c =
    ap Some c.handler.ensures
    ∙ sym (mapped_has (λ l. handlers_in (decl_of l)) (handler_of c.args.serial) c.as_slice-layer-items.result.now c.loop-layer.layer-index c.layer-item.result c.handlers-handlers.result.now c.loop-layer.left c.index-handlers-left.result
    c.layer-item.is c.loop-layer-test.true c.handlers-handlers.ensures c.if-left-handlers.true c.index-handlers-left.is)
    ∙ c.loop-layer.invariant ∙ ap (λ layers. slice_get (handlers_under c.args.serial layers) c.args.index) c.as_slice-layer-items.ensures

pub loop-layer-preserved : goal.loop-layer-preserved
loop-layer-preserved c =
    sym (mapped_lacks (λ l. handlers_in (decl_of l)) (handler_of c.args.serial) c.as_slice-layer-items.result.now c.loop-layer.layer-index c.layer-item.result c.handlers-handlers.result.now c.loop-layer.left
    c.layer-item.is c.loop-layer-test.true c.handlers-handlers.ensures c.if-left-handlers.false)
    ∙ c.loop-layer.invariant
