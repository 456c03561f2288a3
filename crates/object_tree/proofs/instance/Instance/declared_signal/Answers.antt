use Rattle.std.proofs.Common.{◌∙◌, ap, sym}
use Rattle.std.specs.Prelude.{slice_get}
use Rattle.object_tree.specs.Handlers.{signals_in, declared_signals}
use Rattle.object_tree.specs.Layers.{decl_of}
use Rattle.object_tree.proofs.Walks.{layer_has, layer_lacks}
use Rattle.object_tree.proofs.instance.Instance.declared_signal.Goals as goal

pub returns-then-left-signals : goal.returns-then-left-signals
returns-then-left-signals c =
    sym (layer_has (λ l. signals_in (decl_of l)) c.as_slice-layer-items.result.now c.loop-layer.layer-index c.layer-item.result c.signals-signals.result.now c.loop-layer.left c.index-signals-left.result
    c.layer-item.is c.loop-layer-test.true c.signals-signals.ensures c.if-left-signals.true c.index-signals-left.is)
    ∙ c.loop-layer.invariant ∙ ap (λ layers. slice_get (declared_signals layers) c.args.index) c.as_slice-layer-items.ensures

pub loop-layer-preserved : goal.loop-layer-preserved
loop-layer-preserved c =
    sym (layer_lacks (λ l. signals_in (decl_of l)) c.as_slice-layer-items.result.now c.loop-layer.layer-index c.layer-item.result c.signals-signals.result.now c.loop-layer.left
    c.layer-item.is c.loop-layer-test.true c.signals-signals.ensures c.if-left-signals.false)
    ∙ c.loop-layer.invariant
