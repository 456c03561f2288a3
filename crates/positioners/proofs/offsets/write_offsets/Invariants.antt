use Rattle.std.proofs.Common.{◌≡◌, ℕ, ◌<◌, ◌*◌, ◌^◌, pos, neg_ℤ, ◌≤ℤ◌, map, take, get_or}
use Rattle.positioners.specs.Axis.{along}
use Rattle.positioners.specs.Layout.{span_of, directed_offset_at, capped}
use Rattle.positioners.proofs.offsets.write_offsets.Given as goal

abbrev pub invariant-loop-child : goal.invariant-loop-child
invariant-loop-child l = record {
  reach : l.offset ≡ span_of l.spacing (take l.child (map (along l.axis) l.sizes));
  low : neg_ℤ (pos (2 ^ 32 * l.child)) ≤ℤ l.offset;
  high : l.offset ≤ℤ pos (2 ^ 32 * l.child);
  written : (k : ℕ) → k < l.child → get_or l.out k (pos 0) ≡ capped (directed_offset_at l.reversed l.spacing (map (along l.axis) l.sizes) k);
}
