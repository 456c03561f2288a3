use Rattle.std.proofs.Common.{◌∙◌, sym, subst, ℕ, List}
use Rattle.std.specs.List.Sorted.{IsStrictlySortedBy}
use Rattle.std.specs.Ordering.{nat_cmp}
use Rattle.qml_ast.specs.declared.place.Place.{Place}
use Rattle.object_tree.specs.Order.{AreRising}
use Rattle.object_tree.proofs.Listed.{objects_more, objects_end}
use Rattle.object_tree.proofs.Rising.{rising_under}
use Rattle.object_tree.proofs.objects.Objects.places.Goals as goal

pub loop-serial-preserved : goal.loop-serial-preserved
loop-serial-preserved c =
    objects_more c.args.self.now c.loop-serial.serial-index c.deref-serial-items.result.now c.loop-serial.places.items c.add_places.new.places.items c.loop-serial-test.true c.in_ok-add_places.ensures
    ∙ c.loop-serial.invariant

pub returns-clause-rising : goal.returns-clause-rising
returns-clause-rising c =
    let serials = c.deref-serial-items.result.now in
    let whole = sym (objects_end c.args.self.now c.loop-serial.serial-index serials c.loop-serial.places.items c.loop-serial-test.false) ∙ c.loop-serial.invariant in
    subst (λ (ps : List Place). AreRising ps) (sym whole)
    (rising_under c.args.self.now serials (subst (λ (ns : List ℕ). IsStrictlySortedBy nat_cmp ns) (sym c.deref-serial-items.ensures.value) c.in_ok-serials.ensures.rising))
