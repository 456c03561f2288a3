use Rattle.std.proofs.Common.{◌≡◌, ◌≤◌, vec_capacity}
use Rattle.std.specs.List.{range_with_len}
use Rattle.item_geometry.proofs.painting.number.Given as goal

-- those before the item, and room for all of them
abbrev pub invariant-loop-item : goal.invariant-loop-item
invariant-loop-item l = (l.out.items ≡ range_with_len 0 l.item) × (l.count ≤ vec_capacity l.out)
