use Rattle.std.proofs.Common.{◌≡◌, fold, map, drop, []}
use Rattle.type_table.specs.Slots.{slots}
use Rattle.object_tree.specs.Making.{with_new, info_of}
use Rattle.object_tree.proofs.declaring.new_properties.Given as goal

-- with those that are left, the slots will be all
abbrev pub invariant-loop-slot : goal.invariant-loop-slot
invariant-loop-slot l =
    fold (with_new l.settle l.serial) l.properties (map info_of (drop l.slot (slots l.built_in))) ≡ fold (with_new l.settle l.serial) [] (map info_of (slots l.built_in))
