use Rattle.std.proofs.Common.{◌≡◌, ◌∙◌, ◌+◌, ◌-◌, ◌≤◌, OnOk, List, length, take, drop, map, fold, length-drop, ap, sym, subst, arith}
use Rattle.std.proofs.lemmas.List.{take_all}
use Rattle.qml_types.specs.declared.component.ObjectDecl.{ObjectDecl, out-ObjectDecl}
use Rattle.object_tree.specs.Store.{Store}
use Rattle.qml_types.specs.declared.component.ComponentType.{out-ComponentType}
use Rattle.object_tree.specs.Growing.{Grower, grower_of, grower_under, built_in_grower, with_grown, object_grower}
use Rattle.object_tree.proofs.Growers.{built_in_is, document_grower, below_none, below_some, object_steps}
use Rattle.object_tree.specs.Undoing.{documents_of, documents_under}
use Rattle.object_tree.proofs.Documents.{of_document}
use Rattle.object_tree.proofs.Onward.{root_last, one_last, object_last}
use Rattle.object_tree.proofs.Turns.{left_item}
use Rattle.object_tree.proofs.objects.Objects.+growing.Goals as goal

pub add_base_rest-returns-in-BuiltIn-clause-grown : goal.add_base_rest-returns-in-BuiltIn-clause-grown
add_base_rest-returns-in-BuiltIn-clause-grown t c =
    let same : grower_under c.args.base.now ≡ built_in_grower _ = ap grower_under c.in-BuiltIn.is ∙ built_in_is _ in
    ap (λ (g : Grower). g.below c.args.number c.args.serial c.args.self.now) (sym same)

pub add_base_rest-returns-in-Document-clause-grown : goal.add_base_rest-returns-in-Document-clause-grown
add_base_rest-returns-in-Document-clause-grown t c =
    let same : grower_under c.args.base.now ≡ grower_of _ = ap grower_under c.in-Document.is ∙ document_grower _ in
    subst (λ (g : Grower). OnOk c.add_rest.result (c.add_rest.new.self ≡ g.below c.args.number c.args.serial c.args.self.now)) (sym same) c.add_rest.ensures.grown

pub add_rest-returns-in_default-clause-grown : goal.add_rest-returns-in_default-clause-grown
add_rest-returns-in_default-clause-grown t c =
    sym (below_none c.args.component.now c.as_slice.result.now c.args.number c.args.serial c.args.self.now
    (c.as_slice.ensures ∙ ap (λ d. (out-ComponentType d).objects) c.get.ensures) c.in_default.len_below)

pub add_rest-loop-object-init : goal.add_rest-loop-object-init
add_rest-loop-object-init t c =
    let component = c.args.component.now in
    let all = c.as_slice.result.now in
    let root = c.root-item.result in
    let rest : take (length all - 1) (drop 1 all) ≡ drop 1 all = take_all (length all - 1) (drop 1 all) (omega (arith, length-drop {A = ObjectDecl})) in
    let grown =
    ap (λ (os : List ObjectDecl). fold (with_grown component c.args.number) c.add_base_rest.new.self (map object_grower os)) rest
    ∙ ap (λ (s : Store). fold (with_grown component c.args.number) s (map object_grower (drop 1 all)))
    (c.in_ok-add_base_rest.ensures.grown ∙ ap (λ n. (grower_under (out-ObjectDecl root).base).below n c.args.serial c.args.self.now) c.saturating_sub.ensures)
    ∙ below_some component all root c.args.number c.args.serial c.args.self.now (c.as_slice.ensures ∙ ap (λ d. (out-ComponentType d).objects) c.get.ensures) c.in-len1-up.len_at_least c.root-item.is in (
      grown,
      λ parent first begun last.
          c.add_base_rest.ensures.goes_on parent first begun
          (root_last component all root (length first.contexts) c.args.number c.saturating_sub.result (c.as_slice.ensures ∙ ap (λ d. (out-ComponentType d).objects) c.get.ensures) c.in-len1-up.len_at_least c.root-item.is c.saturating_sub.ensures last),
    )

pub add_rest-loop-object-preserved : goal.add_rest-loop-object-preserved
add_rest-loop-object-preserved t c =
    let component = c.args.component.now in
    let objects = take (length c.as_slice.result.now - 1) (drop 1 c.as_slice.result.now) in
    let object = c.object-item.result in
    let step =
    object_steps component c.args.number c.in_ok-placed.placed.last c.in_ok-placed.placed.serial c.loop-object.self c.place_object.new.self c.add_base_rest-in-loop-object.new.self object
    c.in_ok-placed.ensures.serial c.in_ok-placed.ensures.last c.in_ok-placed.ensures.placed c.in_ok-add_base_rest-2.ensures.grown in
    let grown =
    ap (λ (s : Store). fold (with_grown component c.args.number) s (map object_grower (drop (c.loop-object.object-index + 1) objects))) step
    ∙ sym (left_item (with_grown component c.args.number) object_grower objects c.loop-object.object-index object c.loop-object.self c.object-item.is c.loop-object-test.true)
    ∙ c.loop-object.invariant.0 in (
      grown,
      λ parent first begun last.
          let here = c.loop-object.invariant.1 parent first begun last in
          let one = one_last component c.as_slice.result.now c.root-item.result (length first.contexts) c.args.number (c.as_slice.ensures ∙ ap (λ d. (out-ComponentType d).objects) c.get.ensures) c.in-len1-up.len_at_least c.root-item.is last in
          c.add_base_rest-in-loop-object.ensures.goes_on parent first (c.place_object.ensures.goes_on parent first here one)
          (object_last parent first c.loop-object.self here object c.args.number c.in_ok-placed.placed.last c.in_ok-placed.ensures.last),
    )

pub add_base_rest-returns-in-Document-clause-goes_on : goal.add_base_rest-returns-in-Document-clause-goes_on
add_base_rest-returns-in-Document-clause-goes_on t c = λ parent first begun last.
    let same : documents_under c.args.base.now ≡ documents_of _ = ap documents_under c.in-Document.is ∙ of_document _ in
    c.add_rest.ensures.goes_on parent first begun (subst (λ n. length first.contexts + n ≤ c.args.number) same last)

pub add_rest-returns-in_err-add_base_rest-clause-goes_on : goal.add_rest-returns-in_err-add_base_rest-clause-goes_on
add_rest-returns-in_err-add_base_rest-clause-goes_on t c = λ parent first begun last.
    c.add_base_rest.ensures.goes_on parent first begun
    (root_last c.args.component.now c.as_slice.result.now c.root-item.result (length first.contexts) c.args.number c.saturating_sub.result (c.as_slice.ensures ∙ ap (λ d. (out-ComponentType d).objects) c.get.ensures) c.in-len1-up.len_at_least c.root-item.is c.saturating_sub.ensures last)

pub add_rest-returns-in_err-placed-clause-goes_on : goal.add_rest-returns-in_err-placed-clause-goes_on
add_rest-returns-in_err-placed-clause-goes_on t c = λ parent first begun last.
    c.place_object.ensures.goes_on parent first (c.loop-object.invariant.1 parent first begun last)
    (one_last c.args.component.now c.as_slice.result.now c.root-item.result (length first.contexts) c.args.number (c.as_slice.ensures ∙ ap (λ d. (out-ComponentType d).objects) c.get.ensures) c.in-len1-up.len_at_least c.root-item.is last)

pub add_rest-returns-in_err-add_base_rest-2-clause-goes_on : goal.add_rest-returns-in_err-add_base_rest-2-clause-goes_on
add_rest-returns-in_err-add_base_rest-2-clause-goes_on t c = λ parent first begun last.
    let here = c.loop-object.invariant.1 parent first begun last in
    let one = one_last c.args.component.now c.as_slice.result.now c.root-item.result (length first.contexts) c.args.number (c.as_slice.ensures ∙ ap (λ d. (out-ComponentType d).objects) c.get.ensures) c.in-len1-up.len_at_least c.root-item.is last in
    c.add_base_rest-in-loop-object.ensures.goes_on parent first (c.place_object.ensures.goes_on parent first here one)
    (object_last parent first c.loop-object.self here c.object-item.result c.args.number c.in_ok-placed.placed.last c.in_ok-placed.ensures.last)

pub add_rest-returns-clause-goes_on : goal.add_rest-returns-clause-goes_on
add_rest-returns-clause-goes_on t c = c.loop-object.invariant.1
