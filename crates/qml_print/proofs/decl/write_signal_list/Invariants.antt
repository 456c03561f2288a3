use Rattle.std.proofs.Common.{◌≡◌, ◌++◌, codes, take}
use Rattle.std.specs.Prelude.{flat_map}
use Rattle.qml_grammar.specs.Canonical.{signal_param_text}
use Rattle.qml_print.proofs.decl.write_signal_list.Given as goal

-- the first parameter and the others so far
abbrev pub invariant-loop-param : goal.invariant-loop-param
invariant-loop-param l = l.out ≡ l.initial.out ++ flat_map (λ p. codes ", " ++ signal_param_text p) (take l.param-index l.others)
