use Rattle.std.proofs.Common.{◌≡◌, ◌++◌, map, drop}
use Rattle.qml_types.specs.Placed.{param_of}
use Rattle.qml_types.proofs.declaring.signal_params.Given as goal

-- with the parameters that are left, all will be there
abbrev pub invariant-loop-param : goal.invariant-loop-param
invariant-loop-param l = l.made ++ map (param_of l.known) (drop l.param-index l.params) ≡ map (param_of l.known) l.params
