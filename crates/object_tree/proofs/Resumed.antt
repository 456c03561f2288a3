-- A loop over all slots.
use Rattle.std.proofs.Common.{◌≡◌, ℕ, ◌+◌, refl, add-one}
use Rattle.object_tree.specs.declared.instance.Instance.{Instance}
use Rattle.object_tree.specs.Resuming.{resumed, resumed_first}
use Rattle.object_tree.specs.Writing.{with_property}

pub resumed_more : (n : ℕ) (instance : Instance) → resumed_first (n + 1) instance ≡ with_property resumed n (resumed_first n instance)
resumed_more n instance = rw add-one refl
