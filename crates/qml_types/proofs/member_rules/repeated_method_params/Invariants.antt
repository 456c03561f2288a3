use Rattle.std.proofs.Common.{◌≡◌, map, drop, fold, []}
use Rattle.qml_types.specs.Rules.{note, method_claim}
use Rattle.qml_types.proofs.member_rules.repeated_method_params.Given as goal

-- with the parameters that are left, the names will be given and the faults told
abbrev pub invariant-loop-param : goal.invariant-loop-param
invariant-loop-param l =
    fold note (l.seen, l.first) (map method_claim (drop l.param-index l.params)) ≡ fold note ([], l.fn.first) (map method_claim l.params)
