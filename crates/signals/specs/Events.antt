-- What happens in a settle that the rest of the machine acts upon.
use Rattle.std.specs.Prelude.{ℕ, ◌||◌, if◌then◌else◌, List, [], ◌∷◌, Option, None, Some, bytes_eq, codes}
use Rattle.qml_ast.specs.Arithmetic.{truth_of}
use Rattle.qml_ast.specs.declared.place.Place.{Place}
use Rattle.qml_ast.specs.declared.value.Value.{Value}
use Rattle.type_table.specs.declared.built_in.BuiltIn.{BuiltIn}
use Rattle.type_table.specs.declared.built_in.BuiltIn.TheVariants as built_in
use Rattle.object_tree.specs.Changes.{value_or_null}
use Rattle.object_tree.specs.Origins.{path_at}
use Rattle.object_tree.specs.Reading.{instance_at}
use Rattle.object_tree.specs.Store.{Store}
use Rattle.object_tree.specs.declared.instance.Instance.{Instance}
use Rattle.signals.specs.declared.world.Event.{Event}
use Rattle.signals.specs.declared.world.Event.TheVariants.{Running, Interval, Off}

-- a timer's `running` or `interval`
abbrev pub timer_event : ℕ → List ℕ → Value → List Event
timer_event serial path v =
    if bytes_eq path (codes "running") then Running serial (truth_of v) ∷ []
    else (if bytes_eq path (codes "interval") then Interval serial ∷ [] else [])

-- a mouse area that shows itself invisible or disabled
abbrev pub area_event : ℕ → List ℕ → Value → List Event
area_event serial path v =
    if bytes_eq path (codes "visible") || bytes_eq path (codes "enabled") then (if truth_of v then [] else Off serial ∷ []) else []

abbrev pub event_on : BuiltIn → ℕ → List ℕ → Value → List Event
event_on built_in.Timer serial path v = timer_event serial path v
event_on built_in.MouseArea serial path v = area_event serial path v
event_on _ serial path v = []

abbrev pub event_by : Option Instance → Option (List ℕ) → ℕ → Value → List Event
event_by (Some instance) (Some path) serial v = event_on instance.built_in serial path v
event_by _ _ serial v = []

-- what happens where the place shows another value than before
abbrev pub event_at : Store → Place → List Event
event_at store place = event_by (instance_at place.serial store) (path_at place store) place.serial (value_or_null place store)

abbrev pub listed : Option Event → List Event
listed None = []
listed (Some event) = event ∷ []
