use Rattle.std.proofs.Common.{ℕ, List, reverse, sym, ap, ◌∙◌, subst}
use Rattle.sync_tests.specs.Staged.{IsReordered}
use Rattle.sync_tests.proofs.Growing.{reordered_same, reordered_other}
use Rattle.sync_tests.proofs.stage.in_order.Goals as goal

pub returns : goal.returns
returns c = subst (IsReordered c.args.children.now) (sym c.in_ok-copy.ensures.items) (reordered_same c.args.children.now)

pub returns-then-reversed : goal.returns-then-reversed
returns-then-reversed c =
    subst (IsReordered c.args.children.now) (sym (c.reverse.ensures.items ∙ ap (λ (xs : List ℕ). reverse xs) c.in_ok-copy.ensures.items)) (reordered_other c.args.children.now)
