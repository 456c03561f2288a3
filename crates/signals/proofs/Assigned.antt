-- An assignment to a place, step by step.
use Rattle.std.proofs.Common.{◌≡◌, ◌∙◌, sym, ap, subst}
use Rattle.std.specs.Prelude.{Result, Ok}
use Rattle.qml_ast.specs.declared.eval_fault.EvalFault.{EvalFault}
use Rattle.qml_ast.specs.declared.place.Place.{Place}
use Rattle.qml_ast.specs.declared.stmt.AssignOp.{AssignOp}
use Rattle.qml_ast.specs.declared.value.Value.{Value}
use Rattle.expr_eval.specs.declared.answer.Aim.{Aim}
use Rattle.object_tree.specs.Changes.{value_or_null}
use Rattle.object_tree.specs.Store.{Store}
use Rattle.signals.specs.Assigning.{assignment, aimed_place, combined, placed, set_place, then_with}
use Rattle.signals.specs.Endings.{Gives}
use Rattle.signals.specs.declared.ending.Stop.{Stop}

pub assigned_so : (target : Aim) (op : AssignOp) (right : Result Value EvalFault) (store : Store) (place set : Place) (old v : Value) (r : Result (Place × Value) Stop) →
    aimed_place target ≡ Ok place → old ≡ value_or_null place store → combined op (Ok old) right ≡ Ok v → set ≡ set_place place store →
    Gives (placed set store v) r → Gives (assignment target op right store) r
unfolding assignment
assigned_so target op right store place set old v r aims is gives stands h =
    let last : Place → Value → Result (Place × Value) EvalFault = λ p x. placed (set_place p store) store x in
    let rest : Place → Result (Place × Value) EvalFault = λ p. then_with (combined op (Ok (value_or_null p store)) right) (last p) in
    subst (λ o. Gives o r)
    (sym (ap (λ a. then_with a rest) aims
    ∙ (ap (λ x. then_with (combined op (Ok x) right) (last place)) (sym is)
    ∙ (ap (λ a. then_with a (last place)) gives ∙ ap (λ s. placed s store v) (sym stands))))) h
