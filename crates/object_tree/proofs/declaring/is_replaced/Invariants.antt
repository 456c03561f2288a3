use Rattle.std.proofs.Common.{◌≡◌, drop}
use Rattle.object_tree.specs.Making.{is_replaced}
use Rattle.object_tree.proofs.declaring.is_replaced.Given as goal

-- the layers that are left decide
abbrev pub invariant-loop-layer : goal.invariant-loop-layer
invariant-loop-layer l = is_replaced l.context l.other (drop l.layer-index l.layers) ≡ is_replaced l.context l.other l.layers
