use Rattle.std.proofs.Common.{◌≡◌, ◌∙◌, ap, sym, subst, map, fold, IfOk}
use Rattle.type_table.specs.declared.built_in.BuiltIn.TheVariants as built_in
use Rattle.qml_types.specs.declared.component.Base.TheVariants as base
use Rattle.qml_types.specs.declared.component.ObjectDecl.{ObjectDecl, out-ObjectDecl}
use Rattle.qml_types.specs.Features.{TypeView, with_feature, slot_feature, signal_feature, method_feature, type_of, view_of}
use Rattle.qml_types.proofs.TypesOf.{root_has_type, members_added, type_of_none, document_view, built_in_view}
use Rattle.qml_types.proofs.features.+gather.Goals as goal

pub gather-returns-in-empty : goal.gather-returns-in-empty
gather-returns-in-empty t c =
    type_of_none c.args.component.now c.as_slice.result.now c.as_slice.ensures c.in-empty.len_below
    ∙ ap (λ fs. record { built_in = built_in.QtObject; features = fs }) (sym c.requires)

pub gather-returns-in_ok-add_methods-in-len1-up : goal.gather-returns-in_ok-add_methods-in-len1-up
gather-returns-in_ok-add_methods-in-len1-up t c =
    let root = c.root-item.result in
    root_has_type c.args.component.now c.as_slice.result.now root c.as_slice.ensures c.in-len1-up.len_at_least c.root-item.is
    ∙ members_added root (view_of (out-ObjectDecl root).base) c.in_ok-built_in-in-len1-up.built_in c.gather_base.new.features c.add_slots.new.features
    c.add_signals.new.features c.add_methods.new.features c.in_ok-built_in-in-len1-up.ensures
    (c.in_ok-add_slots-in-len1-up.ensures ∙ ap (λ xs. fold with_feature c.gather_base.new.features (map slot_feature xs)) c.as_slice-in-len1-up.ensures)
    (c.in_ok-add_signals-in-len1-up.ensures ∙ ap (λ xs. fold with_feature c.add_slots.new.features (map signal_feature xs)) c.as_slice-in-len1-up-2.ensures)
    (c.in_ok-add_methods-in-len1-up.ensures ∙ ap (λ xs. fold with_feature c.add_signals.new.features (map method_feature xs)) c.as_slice-in-len1-up-3.ensures)

pub gather_base-returns-in-BuiltIn : goal.gather_base-returns-in-BuiltIn
gather_base-returns-in-BuiltIn t c =
    ap view_of c.in-BuiltIn.is ∙ built_in_view c.in-BuiltIn.built_in
    ∙ ap (λ fs. record { built_in = c.in-BuiltIn.built_in; features = fs }) (sym c.requires)

pub gather_base-returns-in-Document : goal.gather_base-returns-in-Document
gather_base-returns-in-Document t c =
    let view : view_of c.args.base.now ≡ type_of c.get.result.now =
    ap view_of (c.in-Document.is ∙ ap (λ d. base.Document d) (sym c.get.ensures)) ∙ document_view c.get.result.now in
    subst (λ v. IfOk c.gather.result (λ b. v ≡ record { built_in = b; features = c.gather.new.features })) (sym view) c.gather.ensures
