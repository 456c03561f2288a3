use Rattle.std.proofs.Common.{[], ◌+◌, ◌-◌, ◌/◌, arith}
use Rattle.type_table.proofs.Places.{left}
use Rattle.type_table.proofs.Orders.{parts_after, parts_before, compared, met_slot, no_slot}
use Rattle.type_table.proofs.slot.find.Goals as goal

pub loop-low-preserved-in-Less : goal.loop-low-preserved-in-Less
loop-low-preserved-in-Less c =
    parts_after _ [] _ _ _ _ _ (left _ _ c.order_of-order.ensures.order) (omega arith)
    (compared c.args.built_in c.order_of-order.result.now _ _ (c.loop-low.low + (c.loop-low.high - c.loop-low.low) / 2) _ _ _ c.from-index.ensures c.slot_path.ensures.path c.cmp.ensures c.in-Less.is)
    c.loop-low.invariant

pub loop-low-preserved : goal.loop-low-preserved
loop-low-preserved c =
    parts_before _ [] _ _ _ _ _ (left _ _ c.order_of-order.ensures.order) (omega arith)
    (compared c.args.built_in c.order_of-order.result.now _ _ (c.loop-low.low + (c.loop-low.high - c.loop-low.low) / 2) _ _ _ c.from-index.ensures c.slot_path.ensures.path c.cmp.ensures c.in-Greater.is)
    c.loop-low.invariant

pub returns-in-Equal : goal.returns-in-Equal
returns-in-Equal c = met_slot _ _ _ _ _ c.cmp.ensures c.in-Equal.is c.slot_path.ensures.found

pub returns : goal.returns
returns c = no_slot _ _ _ _ _ c.order_of-order.ensures.order (omega arith) c.loop-low.invariant
