use Rattle.std.proofs.Common.{List, sym, subst}
use Rattle.qml_ast.specs.declared.place.Place.{Place}
use Rattle.object_tree.specs.Changes.{has_changed}
use Rattle.object_tree.specs.Order.{AreRising}
use Rattle.object_tree.proofs.Rising.{rising_filter}
use Rattle.binding_engine.proofs.findings.changed.Goals as goal

pub returns-clause-rising : goal.returns-clause-rising
returns-clause-rising c =
    subst (λ (ps : List Place). AreRising ps) (sym c.in_ok-found.ensures)
    (rising_filter (λ place. has_changed place c.args.objects.now) c.as_slice.result.now
    (subst (λ (ps : List Place). AreRising ps) (sym c.as_slice.ensures.value) c.in_ok-places.ensures.rising))
