use Rattle.std.proofs.Common.{◌≡◌, map, drop, fold}
use Rattle.std.specs.List.{flat_map}
use Rattle.qml_types.specs.Mentions.{with_mention}
use Rattle.qml_types.specs.Readings.{part_of, types_in}
use Rattle.qml_types.proofs.mentioning.+mentions.Given as goal

-- the names are those of the mentions; with the members that are left, all types will be there
abbrev pub invariant-mention_members-loop-member : goal.invariant-mention_members-loop-member
invariant-mention_members-loop-member l =
    (l.names ≡ map (λ m. m.name) l.mentions)
    × (fold with_mention l.mentions (flat_map types_in (map part_of (drop l.member-index l.members)))
    ≡ fold with_mention l.fn.mentions (flat_map types_in (map part_of l.members)))
