use Rattle.std.proofs.Common.{sym, subst}
use Rattle.object_tree.specs.Undoing.{IsBegun}
use Rattle.object_tree.proofs.Undone.{new_written}
use Rattle.object_tree.proofs.objects.Objects.give_object.Goals as goal

pub returns-clause-goes_on : goal.returns-clause-goes_on
returns-clause-goes_on c = λ parent first begun new.
    let here = subst (IsBegun parent first) (sym c.self.view_is) begun in
    new_written parent first _ here c.args.owner c.in-Some.instance.now c.give_object.new.self new (sym c.in-Some.ensures.value)
