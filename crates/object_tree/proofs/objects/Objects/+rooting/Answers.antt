use Rattle.std.proofs.Common.{◌≡◌, ◌∙◌, OnOk, None, ap, sym, subst}
use Rattle.object_tree.specs.Store.{Store}
use Rattle.qml_types.specs.declared.component.ComponentType.{out-ComponentType}
use Rattle.qml_types.specs.declared.component.ObjectDecl.{out-ObjectDecl}
use Rattle.object_tree.specs.Growing.{Grower, grower_of, grower_under, built_in_grower, declared, declared_last, next_serial, root_declared, with_context, new_context}
use Rattle.object_tree.proofs.Growers.{built_in_is, document_grower, rooted_none, rooted_some}
use Rattle.object_tree.proofs.Onward.{number_new, serial_new}
use Rattle.object_tree.proofs.objects.Objects.+rooting.Goals as goal

pub add_base-returns-in-BuiltIn-clause-rooted : goal.add_base-returns-in-BuiltIn-clause-rooted
add_base-returns-in-BuiltIn-clause-rooted t c =
    let same : grower_under c.args.base.now ≡ built_in_grower _ = ap grower_under c.in-BuiltIn.is ∙ built_in_is _ in
    subst (λ (g : Grower). OnOk c.born.result (c.born.new.self ≡ g.rooted c.args.parent c.args.as_child None c.args.self.now)) (sym same) c.born.ensures.born

pub add_base-returns-in-Document-clause-rooted : goal.add_base-returns-in-Document-clause-rooted
add_base-returns-in-Document-clause-rooted t c =
    let same : grower_under c.args.base.now ≡ grower_of _ = ap grower_under c.in-Document.is ∙ document_grower _ in
    subst (λ (g : Grower). OnOk c.add_root.result (c.add_root.new.self ≡ g.rooted c.args.parent c.args.as_child None c.args.self.now)) (sym same) c.add_root.ensures.rooted

pub add_root-returns-in_default-clause-rooted : goal.add_root-returns-in_default-clause-rooted
add_root-returns-in_default-clause-rooted t c =
    sym (rooted_none c.args.component.now c.as_slice.result.now c.args.parent c.args.as_child c.args.around c.args.self.now
    (c.as_slice.ensures ∙ ap (λ d. (out-ComponentType d).objects) c.get.ensures) c.in_default.len_below)

pub add_root-returns-clause-rooted : goal.add_root-returns-clause-rooted
add_root-returns-clause-rooted t c =
    let root = c.root-item.result in
    let component = c.args.component.now in
    let based = (grower_under (out-ObjectDecl root).base).rooted c.args.parent c.args.as_child None c.args.self.now in
    let around = ap (λ s. with_context (new_context component c.args.around) s) c.in_ok-add_base.ensures.rooted in
    let step : declared component root c.last_context-number.result c.in_ok-serial.serial c.add_context.new.self ≡ root_declared component root c.args.around (next_serial c.args.self.now) based =
    ap (λ n. declared component root n c.in_ok-serial.serial c.add_context.new.self) c.last_context-number.ensures
    ∙ ap (λ s. declared_last component root c.in_ok-serial.serial s) (c.in_ok-add_context.ensures.added ∙ around)
    ∙ ap (λ n. root_declared component root c.args.around n based) c.in_ok-serial.ensures in
    subst (λ (s : Store). OnOk c.declare.result (c.declare.new.self ≡ s))
    (step ∙ rooted_some component c.as_slice.result.now root c.args.parent c.args.as_child c.args.around c.args.self.now (c.as_slice.ensures ∙ ap (λ d. (out-ComponentType d).objects) c.get.ensures) c.in-len1-up.len_at_least c.root-item.is)
    c.declare.ensures.declared

pub add_root-returns-clause-goes_on : goal.add_root-returns-clause-goes_on
add_root-returns-clause-goes_on t c = λ parent first begun owner.
    let based = c.add_base.ensures.goes_on parent first begun owner in
    let added = c.add_context.ensures.goes_on parent first based tt in
    c.declare.ensures.goes_on parent first added (
      number_new parent first c.add_base.new.self based _ c.add_context.new.self c.last_context-number.result c.in_ok-add_context.ensures.added c.last_context-number.ensures,
      serial_new parent first c.args.self.now begun c.in_ok-serial.serial c.in_ok-serial.ensures,
    )
