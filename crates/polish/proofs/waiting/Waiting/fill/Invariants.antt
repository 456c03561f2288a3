use Rattle.std.proofs.Common.{◌≡◌}
use Rattle.std.specs.List.{range_with_len}
use Rattle.links.specs.Chains.{cells_in}
use Rattle.polish.specs.Waiting.{IsWaiting}
use Rattle.polish.proofs.waiting.Waiting.fill.Given as goal

-- those before this one wait
abbrev pub invariant-loop-positioner : goal.invariant-loop-positioner
invariant-loop-positioner l =
    IsWaiting l.self-inside.links l.self-inside.list l.self-inside.count
    × ((cells_in l.self-inside.links.lists l.self-inside.list ≡ range_with_len 0 l.positioner) × (l.self-inside.count ≡ l.positioner-end))
