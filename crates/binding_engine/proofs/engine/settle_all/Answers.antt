use Rattle.std.proofs.Common.{◌∙◌, List, sym, subst}
use Rattle.qml_ast.specs.declared.eval_fault.EvalFault.{EvalFault}
use Rattle.qml_ast.specs.declared.place.Place.{Place}
use Rattle.object_tree.specs.Order.{AreRising}
use Rattle.object_tree.specs.Places.{places_of}
use Rattle.object_tree.proofs.Rising.{rising_filter}
use Rattle.binding_engine.specs.Equations.{has_equation}
use Rattle.binding_engine.specs.Findings.{places_faulted}
use Rattle.binding_engine.proofs.Marking.{entries_faulted}
use Rattle.binding_engine.proofs.Order.{faulted_rises}
use Rattle.binding_engine.proofs.Written.{cells_settled}
use Rattle.binding_engine.proofs.engine.settle_all.Goals as goal

pub returns-clause-store : goal.returns-clause-store
returns-clause-store c =
    c.in_ok-write_all.ensures
    ∙ cells_settled c.args.objects.now c.in_ok-places.field-0.cells c.as_slice-2.result.now (c.as_slice-2.ensures.value ∙ c.in_ok-places.ensures.places) c.in_ok-places.ensures.stands

pub returns-clause-faulted : goal.returns-clause-faulted
returns-clause-faulted c =
    c.in_ok-faulted.ensures
    ∙ entries_faulted c.args.objects.now c.in_ok-places.field-0.cells c.as_slice.result.now (c.as_slice.ensures.value ∙ c.in_ok-places.ensures.places) c.in_ok-places.ensures.stands

pub returns-clause-faulted_rise : goal.returns-clause-faulted_rise
returns-clause-faulted_rise c =
    subst (λ (fs : List (Place × EvalFault)). AreRising (places_faulted fs)) (sym (returns-clause-faulted c)) (faulted_rises c.args.objects.now (rising_filter (has_equation c.args.objects.now) (places_of c.args.objects.now) c.in_ok-places.ensures.rising))
