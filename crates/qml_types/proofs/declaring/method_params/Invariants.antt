use Rattle.std.proofs.Common.{◌≡◌, ◌++◌, map, drop}
use Rattle.qml_types.proofs.declaring.method_params.Given as goal

-- with the parameters that are left, all will be there
abbrev pub invariant-loop-param : goal.invariant-loop-param
invariant-loop-param l = l.made ++ map (λ p. p.name) (drop l.param-index l.params) ≡ map (λ p. p.name) l.params
