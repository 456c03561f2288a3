use Rattle.std.proofs.Common.{sym, subst}
use Rattle.object_tree.specs.Undoing.{IsBegun}
use Rattle.object_tree.proofs.Undone.{written}
use Rattle.object_tree.proofs.objects.Objects.declare.Goals as goal

pub returns-clause-goes_on : goal.returns-clause-goes_on
returns-clause-goes_on c = λ parent first begun new.
    let here = subst (IsBegun parent first) (sym c.self.view_is) (c.add_serial.ensures.goes_on parent first begun new) in
    written parent first _ here c.args.serial c.add_layer.new.self new.1
