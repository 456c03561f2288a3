-- The world with which a run starts.
use Rattle.std.specs.Prelude.{ℕ, ℤ, Option, None, Some, option_map, [], fold}
use Rattle.std.specs.Map.{keys_of}
use Rattle.qml_ast.specs.declared.span.Span.{Span}
use Rattle.qml_ast.specs.declared.place.Place.{Place}
use Rattle.qml_ast.specs.declared.place.Side.{Side}
use Rattle.qml_ast.specs.declared.place.Side.TheVariants.{Set, Shown}
use Rattle.qml_ast.specs.declared.value.Value.TheVariants.{Int}
use Rattle.qml_types.specs.declared.component.ComponentType.{ComponentType, out-ComponentType}
use Rattle.type_table.specs.declared.item_slots.TheConstants.{WIDTH, HEIGHT}
use Rattle.object_tree.specs.First.{first_store}
use Rattle.object_tree.specs.Growing.{grown}
use Rattle.object_tree.specs.Limits.{make_fault}
use Rattle.object_tree.specs.Store.{Store}
use Rattle.object_tree.specs.Writing.{kept, written}
use Rattle.object_tree.specs.declared.fault.MakeFault.{MakeFault}
use Rattle.object_tree.specs.declared.fault.MakeFault.TheVariants as fault
use Rattle.binding_engine.specs.declared.engine.Engine.{Engine}
use Rattle.script_text.specs.Notes.{limit_text}
use Rattle.script_text.specs.declared.note.LimitKind.{LimitKind}
use Rattle.script_text.specs.declared.note.LimitKind.TheVariants as limit
use Rattle.signals.specs.Calls.{fresh_world, react_ran, complete_ran}
use Rattle.signals.specs.Noting.{noted}
use Rattle.signals.specs.declared.world.World.{World}
use Rattle.item_paint.specs.declared.showing.TheConstants.{CONTENT_ITEM}

-- a slot's side of the content item
abbrev pub content_place : ℕ → Side → Place
content_place slot side = record { serial = CONTENT_ITEM; slot = slot; side = side }

-- the content item's slot is set to the number and shows it
abbrev pub with_content : ℕ → ℤ → Store → Store
with_content slot n store =
    kept (content_place slot Shown) (Int n) (written (content_place slot Set) (Int n) store)

-- the content item has the window's size
abbrev pub sized : ℤ → ℤ → Store → Store
sized width height store = with_content HEIGHT height (with_content WIDTH width store)

-- the objects of a component are made, unless that is refused
abbrev pub grown_unless : Option MakeFault → ComponentType → Store → Store
grown_unless None main store = grown main CONTENT_ITEM None store
grown_unless (Some fault) main store = store

abbrev pub rooted : ComponentType → Store → Store
rooted main store = grown_unless (make_fault main CONTENT_ITEM store) main store

-- ---- what is noted where the objects are refused
abbrev pub refusal : MakeFault → LimitKind
refusal fault.Full = limit.Objects
refusal fault.Deep = limit.Depth
refusal fault.NoMemory = limit.Objects

-- it stands at the beginning of the main document
abbrev pub document_start : Span
document_start = record { line = 1; col = 1 }

abbrev pub refusal_of : Option MakeFault → Option LimitKind
refusal_of fault = option_map refusal fault

abbrev pub with_limit : Option LimitKind → ComponentType → World → World
with_limit None main w = w
with_limit (Some met) main w = noted (limit_text (out-ComponentType main).file document_start met) w

-- ---- the start
-- the world before anything is settled
abbrev pub unsettled : ComponentType → Store → Engine → World
unsettled main store engine = with_limit (refusal_of (make_fault main CONTENT_ITEM store)) main (fresh_world (rooted main store) engine)

-- the handlers of one object's completion have run
abbrev pub completed : World → ℕ → World
completed w serial = (complete_ran serial w).1

-- those of all objects, in the order in which the objects were made
abbrev pub all_completed : World → World
all_completed w = fold completed w (keys_of w.objects.objects.things)

-- The world with which a run starts, in a window of this size: the main document's objects are made in the content item, settled,
-- and completed. Where there would be too many, or they would stand too deep, that is noted, and the content item is alone.
unfoldable pub started : ComponentType → ℤ → ℤ → World
started main width height = all_completed (react_ran [] (unsettled main (sized width height first_store) (record {}))).1
