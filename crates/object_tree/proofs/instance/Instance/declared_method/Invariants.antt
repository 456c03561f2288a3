use Rattle.std.proofs.Common.{◌≡◌, drop}
use Rattle.std.specs.Prelude.{slice_get}
use Rattle.object_tree.specs.Handlers.{declared_methods}
use Rattle.object_tree.proofs.instance.Instance.declared_method.Given as goal

-- what is sought lies in the layers that are left
abbrev pub invariant-loop-layer : goal.invariant-loop-layer
invariant-loop-layer l = slice_get (declared_methods l.serial (drop l.layer-index l.layer-items)) l.left ≡ slice_get (declared_methods l.serial l.layer-items) l.index
