-- What a settle makes of a store.
use Rattle.std.specs.Prelude.{Bool, true, false, if◌then◌else◌, Option, None, Some, List, fold}
use Rattle.qml_ast.specs.Equality.{are_equal}
use Rattle.qml_ast.specs.declared.eval_fault.EvalFault.{EvalFault}
use Rattle.qml_ast.specs.declared.place.Place.{Place}
use Rattle.qml_ast.specs.declared.value.Value.{Value}
use Rattle.settling.specs.Cells.{Cell, plain, resting, suspended, value_of, mark_of}
use Rattle.settling.specs.Settling.{settled}
use Rattle.object_tree.specs.declared.property.Held.{Held}
use Rattle.object_tree.specs.declared.property.Marks.{Marks}
use Rattle.object_tree.specs.Ignored.{with_ignored}
use Rattle.object_tree.specs.Reading.{held_at}
use Rattle.object_tree.specs.Resuming.{resumed_at}
use Rattle.object_tree.specs.Store.{Store}
use Rattle.object_tree.specs.Writing.{kept, marked as with_marks_at, ended}
use Rattle.binding_engine.specs.Equations.{tree_at, equated}
use Rattle.binding_engine.specs.Ignored.{ignored_in, places_ignored}
use Rattle.binding_engine.specs.Standing.{Standing, space, first}

unfoldable pub resumed_after : Store → Place → Store
resumed_after store place = resumed_at place.serial store

-- the places of each written object are resumed
abbrev pub resumed_by : List Place → Store → Store
resumed_by writes store = fold resumed_after store writes

-- how each place stands once the places of a store are settled
unfoldable pub settled_from : Store → Standing
settled_from store = settled space (tree_at store) (equated store) (first store)

-- ---- what is written to the store
-- another value than the one that the place holds is kept
abbrev pub valued : Option Held → Place → Value → Store → Store
valued None place v store = store
valued (Some held) place v store = if are_equal held.value v then store else kept place v store

-- its evaluation was stopped, now or before
abbrev pub is_stopped : Cell Value EvalFault → Bool
is_stopped (resting k) = true
is_stopped (suspended k) = true
is_stopped _ = false

abbrev pub marks_of : Cell Value EvalFault → Marks
marks_of c = record { suspended = is_stopped c; fault = mark_of c }

-- a place that has no expression is left as it is
abbrev pub with_cell : Place → Cell Value EvalFault → Store → Store
with_cell place (plain k) store = store
with_cell place c store = with_marks_at place (marks_of c) (valued (held_at place store) place (value_of c) store)

abbrev pub with_cell_of : Standing → Store → Place → Store
with_cell_of s store place = with_cell place (s place) store

-- the store in which these places stand so
abbrev pub with_cells : Standing → List Place → Store → Store
with_cells s places store = fold (with_cell_of s) store places

-- the store with its places settled
unfoldable pub settled_store : Store → Store
settled_store store = with_cells (settled_from store) (equated store) store

-- the settle of this store ends, and the anchors that count for nothing are kept
abbrev pub closed : Store → Store
closed store = with_ignored (places_ignored (ignored_in store)) (ended store)

-- and after the writes to these places: their objects' places are resumed first
abbrev pub after_settle : List Place → Store → Store
after_settle writes store = closed (settled_store (resumed_by writes store))
