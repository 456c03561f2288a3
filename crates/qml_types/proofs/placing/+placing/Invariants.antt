use Rattle.std.proofs.Common.{◌≡◌, map, drop, fold}
use Rattle.std.specs.List.{flat_map}
use Rattle.qml_types.specs.Placed.{children_in, first_of_all, with_part}
use Rattle.qml_types.specs.Readings.{part_of}
use Rattle.qml_types.specs.Types.{scope_seen}
use Rattle.qml_types.proofs.placing.+placing.Given as goal

-- the members that are left decide
abbrev pub invariant-inner_of-loop-member : goal.invariant-inner_of-loop-member
invariant-inner_of-loop-member l =
    first_of_all (flat_map children_in (map part_of (drop l.member-index l.members))) ≡ first_of_all (flat_map children_in (map part_of l.members))

-- with the members that are left, all objects will be there
abbrev pub invariant-place_members-loop-member : goal.invariant-place_members-loop-member
invariant-place_members-loop-member l =
    fold (with_part (scope_seen l.scope) l.file l.owner) l.objects (map part_of (drop l.member-index l.members))
    ≡ fold (with_part (scope_seen l.scope) l.file l.owner) l.fn.objects (map part_of l.members)
