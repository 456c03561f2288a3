use Rattle.std.proofs.Common.{rules}
use Rattle.std.proofs.lemmas.Fn.{always_returns_same}
use Rattle.item_geometry.specs.PaintOrder.{z_of}
use Rattle.item_geometry.proofs.Ordered.{painting_order-from_sort, split-from_sort}
use Rattle.item_geometry.proofs.painting.paint_order.Goals as goal

pub returns-clause-all : goal.returns-clause-all
returns-clause-all c = search rules

pub returns-clause-sorted : goal.returns-clause-sorted
returns-clause-sorted c =
    c.sort_unstable_by_key.ensures.sorted (λ item. (z_of c.args.z.now item, item)) (always_returns_same _ _ _ (λ a r f k. search rules))

pub returns-clause-order : goal.returns-clause-order
returns-clause-order c = painting_order-from_sort c.args.z.now _ (returns-clause-all c) (returns-clause-sorted c)

pub returns-clause-count : goal.returns-clause-count
returns-clause-count c = search rules

pub returns-clause-under : goal.returns-clause-under
returns-clause-under c =
    (split-from_sort c.args.z.now _ c.count.result (returns-clause-all c) (returns-clause-sorted c) (returns-clause-count c)).0

pub returns-clause-over : goal.returns-clause-over
returns-clause-over c =
    (split-from_sort c.args.z.now _ c.count.result (returns-clause-all c) (returns-clause-sorted c) (returns-clause-count c)).1
