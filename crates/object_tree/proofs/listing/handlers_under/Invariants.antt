use Rattle.std.proofs.Common.{◌≡◌, map, take}
use Rattle.object_tree.specs.Handlers.{handler_seen, handlers_under}
use Rattle.object_tree.proofs.listing.handlers_under.Given as goal

-- those of the layers so far
abbrev pub invariant-loop-layer : goal.invariant-loop-layer
invariant-loop-layer l = map handler_seen l.handlers.items ≡ handlers_under l.serial (take l.layer-index l.layers)
