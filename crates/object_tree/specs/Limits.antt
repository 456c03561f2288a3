-- What is not made.
use Rattle.std.specs.Prelude.{◌≡◌, ℕ, ◌+◌, ◌-◌, ◌^◌, min, nat_lt, Bool, ◌||◌, if◌then◌else◌, Option, None, Some, Result, Ok, Err, length}
use Rattle.qml_types.specs.declared.component.ComponentType.{ComponentType}
use Rattle.qml_types.specs.Sizes.{objects_made, contexts_made, levels_made}
use Rattle.object_tree.specs.declared.fault.MakeFault.{MakeFault}
use Rattle.object_tree.specs.declared.fault.MakeFault.TheVariants.{Full, Deep, NoMemory}
use Rattle.object_tree.specs.declared.instance.Instance.{Instance}
use Rattle.object_tree.specs.Growing.{grown, next_serial}
use Rattle.object_tree.specs.Reading.{instance_at}
use Rattle.object_tree.specs.Store.{Store}

-- a number that is counted up to 2^64 - 1
abbrev pub capped : ℕ → ℕ
capped n = min n (2 ^ 64 - 1)

-- there would be more than 100,000 objects, or a serial or the number of a context would pass 2^64 - 1
abbrev pub is_full : ComponentType → Store → Bool
is_full component store =
    nat_lt 100000 (length store.objects.things + capped (objects_made component))
    || (nat_lt (2 ^ 64 - 1) (store.objects.last + capped (objects_made component))
    || nat_lt (2 ^ 64 - 1) (length store.contexts + capped (contexts_made component)))

abbrev pub depth_of : Option Instance → ℕ
depth_of None = 0
depth_of (Some i) = i.depth

-- an object would stand more than 256 levels below its content item
abbrev pub is_deep : ComponentType → ℕ → Store → Bool
is_deep component parent store = nat_lt 256 (depth_of (instance_at parent store) + levels_made component)

-- why the component is not made; that there are too many objects comes first
unfoldable pub make_fault : ComponentType → ℕ → Store → Option MakeFault
make_fault component parent store = if is_full component store then Some Full else (if is_deep component parent store then Some Deep else None)

-- what is answered, unless memory ran out
abbrev pub Tells : Option MakeFault → Result ℕ MakeFault → Type 0
Tells fault (Ok serial) = fault ≡ None
Tells fault (Err NoMemory) = Unit {0}
Tells fault (Err f) = fault ≡ Some f

-- what becomes of the store: where nothing is made, it is as before
abbrev pub Makes : ComponentType → ℕ → Option ℕ → Store → Store → Result ℕ MakeFault → Type 0
Makes component parent around before after (Ok serial) = (serial ≡ next_serial before) × (after ≡ grown component parent around before)
Makes component parent around before after (Err f) = after ≡ before
