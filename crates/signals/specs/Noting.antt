-- What a settle does to the world, and what is noted of it.
use Rattle.std.specs.Prelude.{ℕ, Bool, true, false, List, [], ◌++◌, flat_map, Option, None, Some, unwrap_or}
use Rattle.qml_ast.specs.declared.eval_fault.EvalFault.{EvalFault}
use Rattle.qml_ast.specs.declared.place.Place.{Place}
use Rattle.qml_ast.specs.declared.span.Span.{Span}
use Rattle.qml_ast.specs.declared.value.Value.{Value}
use Rattle.qml_types.specs.declared.component.ComponentType.{out-ComponentType}
use Rattle.object_tree.specs.Origins.{Origin, origin_of, type_origin_at, path_at}
use Rattle.object_tree.specs.Store.{Store}
use Rattle.object_tree.specs.Writing.{written}
use Rattle.binding_engine.specs.Equations.{equated}
use Rattle.binding_engine.specs.Findings.{changed_in, faulted_in}
use Rattle.binding_engine.specs.Holding.{mark_in, looped_in}
use Rattle.binding_engine.specs.Ignored.{newly_ignored}
use Rattle.binding_engine.specs.declared.ignored.Ignored.{Ignored}
use Rattle.binding_engine.specs.Settling.{resumed_by, settled_store, after_settle}
use Rattle.script_text.specs.Notes.{loop_text, fault_text, target_text, center_text, limit_text}
use Rattle.script_text.specs.declared.note.LimitKind.{LimitKind}
use Rattle.signals.specs.Events.{event_at}
use Rattle.signals.specs.declared.job.Site.{Site}
use Rattle.signals.specs.declared.world.World.{World}

-- a note on a place of a document; what stands in none is not noted
abbrev pub note_at : Option Origin → (List ℕ → Span → List ℕ) → List ℕ
note_at None text = []
note_at (Some origin) text = text origin.file origin.span

abbrev pub loop_note : Store → Place → List ℕ
loop_note store place = note_at (origin_of place store) (λ file at. loop_text file at (unwrap_or (path_at place store) []))

abbrev pub fault_note : Store → Place × EvalFault → List ℕ
fault_note store found = note_at (origin_of found.0 store) (λ file at. fault_text file at found.1)

-- an anchor that counts for nothing is noted at the name of the item's type
abbrev pub ignored_text : Bool → List ℕ → Span → List ℕ → List ℕ
ignored_text false file at path = target_text file at path
ignored_text true file at path = center_text file at path

abbrev pub ignored_note : Store → Ignored → List ℕ
ignored_note store ignored =
    note_at (type_origin_at ignored.place.serial store) (λ file at. ignored_text ignored.center file at (unwrap_or (path_at ignored.place store) []))

-- ---- of a settle after writes to these places
-- the places that loops suspended
unfoldable pub loops_of : List Place → Store → List Place
loops_of writes store = looped_in (resumed_by writes store) (after_settle writes store)

-- the places whose expression faults as it did not before
unfoldable pub faults_of : List Place → Store → List (Place × EvalFault)
faults_of writes store = faulted_in (mark_in (after_settle writes store)) (resumed_by writes store) (equated (resumed_by writes store))

-- the places that show another value than before
unfoldable pub changes_of : List Place → Store → List Place
changes_of writes store = changed_in (settled_store (resumed_by writes store))

-- the anchors that count for nothing and did not do so before
unfoldable pub ignored_of : List Place → Store → List Ignored
ignored_of writes store = newly_ignored (settled_store (resumed_by writes store))

-- first the loops are noted, then the faults and then the anchors, each in the order of their places
abbrev pub settle_notes : List Place → Store → List ℕ
settle_notes writes store =
    flat_map (loop_note (after_settle writes store)) (loops_of writes store)
    ++ (flat_map (fault_note (after_settle writes store)) (faults_of writes store)
    ++ flat_map (ignored_note (after_settle writes store)) (ignored_of writes store))

-- the store is settled, with its notes and events
unfoldable pub settled_by : List Place → World → World
settled_by writes w = record w {
  objects = after_settle writes w.objects;
  notes = w.notes ++ settle_notes writes w.objects;
  events = w.events ++ flat_map (event_at (after_settle writes w.objects)) (changes_of writes w.objects);
}

-- a value is written
abbrev pub with_written : Place → Value → World → World
with_written place v w = record w { objects = written place v w.objects }

-- ---- of what runs
abbrev pub noted : List ℕ → World → World
noted text w = record w { notes = w.notes ++ text }

abbrev pub file_of : Site → List ℕ
file_of site = (out-ComponentType site.component).file

-- a fault ends a handler
abbrev pub with_fault_note : Site → EvalFault → World → World
with_fault_note site fault w = noted (fault_text (file_of site) site.span fault) w

-- a limit is met
abbrev pub limited : Site → LimitKind → World → World
limited site limit w = noted (limit_text (file_of site) site.span limit) w
