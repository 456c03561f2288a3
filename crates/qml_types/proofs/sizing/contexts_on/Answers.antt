use Rattle.std.proofs.Common.{◌-◌, ◌^◌, min}
use Rattle.std.specs.List.{sum_by}
use Rattle.qml_types.specs.Sizes.{contexts_on}
use Rattle.qml_types.proofs.Counting.{count_end}
use Rattle.qml_types.proofs.sizing.contexts_on.Goals as goal

pub returns : goal.returns
returns c =
    count_end contexts_on (2 ^ 64 - 1) c.args.objects.now c.loop-object.object-index c.loop-object.count (min (sum_by contexts_on c.args.objects.now) (2 ^ 64 - 1))
    c.loop-object-test.false c.loop-object.invariant.within c.loop-object.invariant.so_far
