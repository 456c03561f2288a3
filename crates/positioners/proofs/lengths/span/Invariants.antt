use Rattle.std.proofs.Common.{◌≡◌, ◌*◌, ◌^◌, pos, neg_ℤ, ◌≤ℤ◌, map, take}
use Rattle.positioners.specs.Axis.{along}
use Rattle.positioners.specs.Layout.{span_of}
use Rattle.positioners.proofs.lengths.span.Given as goal

abbrev pub invariant-loop-size : goal.invariant-loop-size
invariant-loop-size l =
    (l.far ≡ span_of l.spacing (take l.size-index (map (along l.axis) l.sizes)))
    × (neg_ℤ (pos (2 ^ 32 * l.size-index)) ≤ℤ l.far) × (l.far ≤ℤ pos (2 ^ 32 * l.size-index))
