use Rattle.std.proofs.Common.{◌∙◌, Some, ap, sym}
use Rattle.std.specs.Prelude.{slice_get}
use Rattle.object_tree.specs.Handlers.{methods_in, method_in, declared_methods}
use Rattle.object_tree.specs.Layers.{decl_of}
use Rattle.object_tree.proofs.Walks.{mapped_has, mapped_lacks}
use Rattle.object_tree.proofs.instance.Instance.declared_method.Goals as goal

pub returns-then-left-methods : goal.returns-then-left-methods
returns-then-left-methods c =
    ap Some c.method.ensures
    ∙ sym (mapped_has (λ l. methods_in (decl_of l)) (method_in c.args.serial) c.as_slice-layer-items.result.now c.loop-layer.layer-index c.layer-item.result c.methods-methods.result.now c.loop-layer.left c.index-methods-left.result
    c.layer-item.is c.loop-layer-test.true c.methods-methods.ensures c.if-left-methods.true c.index-methods-left.is)
    ∙ c.loop-layer.invariant ∙ ap (λ layers. slice_get (declared_methods c.args.serial layers) c.args.index) c.as_slice-layer-items.ensures

pub loop-layer-preserved : goal.loop-layer-preserved
loop-layer-preserved c =
    sym (mapped_lacks (λ l. methods_in (decl_of l)) (method_in c.args.serial) c.as_slice-layer-items.result.now c.loop-layer.layer-index c.layer-item.result c.methods-methods.result.now c.loop-layer.left
    c.layer-item.is c.loop-layer-test.true c.methods-methods.ensures c.if-left-methods.false)
    ∙ c.loop-layer.invariant
