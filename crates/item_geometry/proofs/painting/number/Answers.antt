use Rattle.std.proofs.Common.{ap, ◌∙◌, length, arith}
use Rattle.std.proofs.lemmas.Grind.{common_steps}
use Rattle.std.proofs.lemmas.List.FromFn.{length-range_with_len}
use Rattle.item_geometry.proofs.Indices.{range_with_len-suc}
use Rattle.item_geometry.proofs.painting.number.Goals as goal

pub unreachable-requires : goal.unreachable-requires
unreachable-requires c =
    let len = ap length c.loop-item.invariant.0 ∙ length-range_with_len 0 c.loop-item.item in
    grind (arith, common_steps, len, c.in-Err.ensures.full)

pub loop-item-preserved : goal.loop-item-preserved
loop-item-preserved c =
    let more = range_with_len-suc 0 c.loop-item.item c.loop-item.item (omega arith) in
    (grind (arith, common_steps, more, c.in-Ok.ensures.items), omega (arith, c.push.ensures.capacity))
