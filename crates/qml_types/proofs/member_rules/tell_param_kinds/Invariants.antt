use Rattle.std.proofs.Common.{◌≡◌, drop}
use Rattle.std.specs.List.{flat_map}
use Rattle.qml_types.specs.Faults.{told}
use Rattle.qml_types.specs.Rules.{unknown_kind}
use Rattle.qml_types.proofs.member_rules.tell_param_kinds.Given as goal

-- with the parameters that are left, the kinds will be told
abbrev pub invariant-loop-param : goal.invariant-loop-param
invariant-loop-param l =
    told l.first (flat_map (λ p. unknown_kind l.known p.kind p.kind_span) (drop l.param-index l.params))
    ≡ told l.fn.first (flat_map (λ p. unknown_kind l.known p.kind p.kind_span) l.params)
