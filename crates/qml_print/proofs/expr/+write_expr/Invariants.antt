use Rattle.std.proofs.Common.{◌≡◌, ◌++◌, codes, take}
use Rattle.std.specs.Prelude.{flat_map}
use Rattle.qml_grammar.specs.CanonicalExpressions.{bound, printed}
use Rattle.qml_print.proofs.expr.+write_expr.Given as goal

-- the first argument and the others so far
abbrev pub invariant-write_arguments-loop-argument : goal.invariant-write_arguments-loop-argument
invariant-write_arguments-loop-argument l =
    l.out ≡ l.initial.out ++ flat_map (λ y. codes ", " ++ bound 0 (printed y)) (take l.argument-index l.others)
