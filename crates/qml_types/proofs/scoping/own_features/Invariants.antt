use Rattle.std.proofs.Common.{◌≡◌, map, drop, fold, []}
use Rattle.std.specs.List.{flat_map}
use Rattle.qml_types.specs.Features.{with_feature}
use Rattle.qml_types.specs.Readings.{part_of}
use Rattle.qml_types.specs.Rules.{own_feature}
use Rattle.qml_types.proofs.scoping.own_features.Given as goal

-- with the members that are left, all features will be there
abbrev pub invariant-loop-member : goal.invariant-loop-member
invariant-loop-member l =
    fold with_feature l.own (flat_map (own_feature l.known) (map part_of (drop l.member-index l.members)))
    ≡ fold with_feature [] (flat_map (own_feature l.known) (map part_of l.members))
