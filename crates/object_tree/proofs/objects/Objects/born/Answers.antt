use Rattle.std.proofs.Common.{sym, subst}
use Rattle.arena.specs.Arena.{Arena}
use Rattle.object_tree.specs.declared.instance.Instance.{Instance}
use Rattle.object_tree.specs.Undoing.{IsBegun}
use Rattle.object_tree.proofs.Undone.{inserted, child_call}
use Rattle.object_tree.proofs.objects.Objects.born.Goals as goal

pub returns-clause-goes_on : goal.returns-clause-goes_on
returns-clause-goes_on c = λ parent first begun owner.
    let here = subst (IsBegun parent first) (sym c.self.view_is) begun in
    let more = subst (λ (a : Arena Instance). IsBegun parent first (record { objects = a; contexts = c.self.inside.contexts; settle = c.self.inside.settle; ignored = c.self.inside.ignored.keys }))
    (sym c.in_ok-insert.ensures.ok) (inserted parent first _ here _) in
    child_call c.add_child.result parent first _ more c.in_ok-serial.serial c.args.parent c.in-Some.owner.now c.add_child.new.self owner
    (sym c.in-Some.ensures.value) c.add_child.ensures.ok c.add_child.ensures.err
