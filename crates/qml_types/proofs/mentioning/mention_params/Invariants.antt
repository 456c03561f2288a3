use Rattle.std.proofs.Common.{◌≡◌, map, drop, fold}
use Rattle.qml_types.specs.Mentions.{with_mention}
use Rattle.qml_types.specs.Readings.{param_types}
use Rattle.qml_types.proofs.mentioning.mention_params.Given as goal

-- the names are those of the mentions; with the parameters that are left, all types will be there
abbrev pub invariant-loop-param : goal.invariant-loop-param
invariant-loop-param l =
    (l.names ≡ map (λ m. m.name) l.mentions)
    × (fold with_mention l.mentions (param_types (drop l.param-index l.params)) ≡ fold with_mention l.fn.mentions (param_types l.params))
