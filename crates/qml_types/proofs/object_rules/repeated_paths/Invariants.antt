use Rattle.std.proofs.Common.{◌≡◌, map, drop, fold, []}
use Rattle.std.specs.List.{flat_map}
use Rattle.qml_types.specs.Readings.{part_of}
use Rattle.qml_types.specs.Rules.{note, path_claim}
use Rattle.qml_types.proofs.object_rules.repeated_paths.Given as goal

-- with the members that are left, the names will be given and the faults told
abbrev pub invariant-loop-member : goal.invariant-loop-member
invariant-loop-member l =
    fold note (l.seen, l.first) (flat_map path_claim (map part_of (drop l.member-index l.members)))
    ≡ fold note ([], l.fn.first) (flat_map path_claim (map part_of l.members))
