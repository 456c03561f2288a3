use Rattle.std.proofs.Common.{◌∙◌, ℕ, ap, sym, subst}
use Rattle.std.specs.Prelude.{slice_get, slice_set}
use Rattle.object_tree.specs.Undoing.{IsBegun}
use Rattle.object_tree.proofs.Undone.{context_call}
use Rattle.object_tree.proofs.objects.Objects.add_serial.Goals as goal

pub returns-clause-goes_on : goal.returns-clause-goes_on
returns-clause-goes_on c = λ parent first begun new.
    let here = subst (IsBegun parent first) (sym c.self.view_is) begun in
    let one = c.saturating_sub.ensures in
    subst (λ (at : ℕ). IsBegun parent first (record { objects = c.self.inside.objects; contexts = slice_set c.self.inside.contexts at c.add_serial.new.self; settle = c.self.inside.settle; ignored = c.self.inside.ignored.keys }))
    (sym one)
    (context_call c.add_serial.result parent first _ here c.args.number c.args.serial _ c.in-Some.context.now c.add_serial.new.self new
    (ap (slice_get c.self.inside.contexts) (sym one) ∙ sym c.in-Some.ensures.value) c.add_serial.ensures.ok c.add_serial.ensures.err)
