use Rattle.std.proofs.Common.{◌≡◌, ◌+◌, ◌-◌, ◌^◌, ◌≤◌, min, drop}
use Rattle.std.specs.List.{sum_by}
use Rattle.qml_types.specs.Sizes.{contexts_on}
use Rattle.qml_types.proofs.sizing.contexts_on.Given as goal

-- with the objects that are left, the sum is that of all
abbrev pub invariant-loop-object : goal.invariant-loop-object
invariant-loop-object l = record {
  within : l.count ≤ 2 ^ 64 - 1;
  so_far : min (l.count + sum_by contexts_on (drop l.object-index l.objects)) (2 ^ 64 - 1) ≡ min (sum_by contexts_on l.objects) (2 ^ 64 - 1);
}
