use Rattle.std.proofs.Common.{◌≡◌, ℕ, ◌≤◌, max, length, slice_index, drop, map, []}
use Rattle.qml_types.specs.Sizes.{greatest, level_on}
use Rattle.qml_types.proofs.sizing.levels_on.Given as goal

-- each object so far has its level, none is above their number, and with the objects that are left the greatest is
-- that of all
abbrev pub invariant-loop-object : goal.invariant-loop-object
invariant-loop-object l = record {
  counted : length l.levels.items ≡ l.object-index;
  within : (k : ℕ) → slice_index l.levels.items k ≤ length l.levels.items;
  so_far : max l.greatest (greatest l.levels.items (map level_on (drop l.object-index l.objects))) ≡ greatest [] (map level_on l.objects);
}
