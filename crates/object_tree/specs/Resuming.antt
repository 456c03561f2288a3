-- Places that a loop had stopped are resumed.
use Rattle.std.specs.Prelude.{ℕ, zero, suc, false, length, option_map}
use Rattle.object_tree.specs.declared.instance.Instance.{Instance}
use Rattle.object_tree.specs.declared.property.Held.{Held}
use Rattle.object_tree.specs.declared.property.Property.{Property}
use Rattle.object_tree.specs.Store.{Store}
use Rattle.object_tree.specs.Writing.{with_property, with_instance}

-- without the mark of a loop
abbrev pub awake : Held → Held
awake held = record held { marks = record held.marks { suspended = false } }

-- the same on both sides of a slot
abbrev pub resumed : Property → Property
resumed property = record property { set = option_map awake property.set; shown = awake property.shown }

-- the first slots as they stand once they are resumed
abbrev pub resumed_first : ℕ → Instance → Instance
resumed_first zero instance = instance
resumed_first (suc n) instance = with_property resumed n (resumed_first n instance)

abbrev pub resumed_instance : Instance → Instance
resumed_instance instance = resumed_first (length instance.properties) instance

-- the store once the places of one object are resumed
abbrev pub resumed_at : ℕ → Store → Store
resumed_at serial store = with_instance resumed_instance serial store
