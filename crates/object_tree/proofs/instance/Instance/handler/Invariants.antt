use Rattle.std.proofs.Common.{◌≡◌, drop}
use Rattle.std.specs.Prelude.{slice_get}
use Rattle.object_tree.specs.Handlers.{handlers_under}
use Rattle.object_tree.proofs.instance.Instance.handler.Given as goal

-- what is sought lies in the layers that are left
abbrev pub invariant-loop-layer : goal.invariant-loop-layer
invariant-loop-layer l = slice_get (handlers_under l.serial (drop l.layer-index l.layer-items)) l.left ≡ slice_get (handlers_under l.serial l.layer-items) l.index
