use Rattle.std.proofs.Common.{◌≡◌, ◌++◌, codes, take}
use Rattle.std.specs.Prelude.{flat_map}
use Rattle.qml_print.proofs.decl.write_method_names.Given as goal

-- the first name and the others so far
abbrev pub invariant-loop-param : goal.invariant-loop-param
invariant-loop-param l = l.out ≡ l.initial.out ++ flat_map (λ p. codes ", " ++ p.name) (take l.param-index l.others)
