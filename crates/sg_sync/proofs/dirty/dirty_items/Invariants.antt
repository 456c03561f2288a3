use Rattle.std.proofs.Common.{◌≡◌, ℕ, ◌-◌, ◌≤◌, take, length, Some, IsSome}
use Rattle.std.specs.List.{slice_get}
use Rattle.std.specs.FinMap as map
use Rattle.sg_sync.specs.Own.{IsIn}
use Rattle.links.specs.Slots.{IsApart}
use Rattle.sg_sync.proofs.dirty.dirty_items.Given as goal

abbrev pub invariant-loop-next : goal.invariant-loop-next
invariant-loop-next l = record {
  so_far : l.serials.items ≡ take (length l.serials.items) l.scene.dirty;
  within : length l.serials.items ≤ length l.scene.dirty;
  next : l.next ≡ slice_get l.scene.dirty (length l.serials.items);
  items : (serial : ℕ) → IsIn l.serials.items serial → IsSome (map.get l.scene.items serial);
  known : (serial : ℕ) → l.next ≡ Some serial → IsSome (map.get l.scene.items serial);
  apart : IsApart l.scene.dirty;
}

abbrev pub decreases-loop-next : goal.decreases-loop-next
decreases-loop-next l = length l.scene.dirty - length l.serials.items
