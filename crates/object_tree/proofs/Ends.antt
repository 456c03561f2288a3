-- Where the numbers of settles begin again.
use Rattle.std.proofs.Common.{◌≡◌, ℕ, ◌+◌, refl, add-one}
use Rattle.object_tree.specs.declared.instance.Instance.{Instance}
use Rattle.object_tree.specs.Properties.{restarted}
use Rattle.object_tree.specs.Store.{Store}
use Rattle.object_tree.specs.Writing.{with_property, with_instance, restarted_first, restarted_instance, restarted_up_to}

pub first_more : (n : ℕ) (instance : Instance) → restarted_first (n + 1) instance ≡ with_property restarted n (restarted_first n instance)
first_more n instance = rw add-one refl

pub up_to_more : (n : ℕ) (store : Store) → restarted_up_to (n + 1) store ≡ with_instance restarted_instance (n + 1) (restarted_up_to n store)
up_to_more n store = rw add-one refl
