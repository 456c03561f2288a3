use Rattle.std.proofs.Common.{sym, subst}
use Rattle.object_tree.specs.Undoing.{IsBegun}
use Rattle.object_tree.proofs.Undone.{push_call}
use Rattle.object_tree.proofs.objects.Objects.add_context.Goals as goal

pub returns-clause-goes_on : goal.returns-clause-goes_on
returns-clause-goes_on c = λ parent first begun there.
    let here = subst (IsBegun parent first) (sym c.self.view_is) begun in
    push_call c.push.result parent first _ here _ c.push.new.self c.new.ensures c.push.ensures.ok c.push.ensures.err
