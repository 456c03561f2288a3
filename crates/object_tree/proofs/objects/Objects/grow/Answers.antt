use Rattle.object_tree.proofs.Onward.{component_last}
use Rattle.object_tree.proofs.objects.Objects.grow.Goals as goal

pub returns-in_err-add_rest-clause-goes_on : goal.returns-in_err-add_rest-clause-goes_on
returns-in_err-add_rest-clause-goes_on c = λ parent first begun owner.
    c.add_rest.ensures.goes_on parent first (c.add_root.ensures.goes_on parent first begun owner)
    (component_last parent first c.args.self.now begun c.args.component.now _ _ _ c.add_root.new.self c.last_context-number.result c.in_ok-add_root.ensures.rooted c.last_context-number.ensures)

pub returns-clause-goes_on : goal.returns-clause-goes_on
returns-clause-goes_on c = λ parent first begun owner.
    c.add_rest.ensures.goes_on parent first (c.add_root.ensures.goes_on parent first begun owner)
    (component_last parent first c.args.self.now begun c.args.component.now _ _ _ c.add_root.new.self c.last_context-number.result c.in_ok-add_root.ensures.rooted c.last_context-number.ensures)
