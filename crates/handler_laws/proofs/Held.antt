-- The equations hold after whatever runs.
use Rattle.std.proofs.Common.{ℕ, List}
use Rattle.qml_ast.specs.declared.place.Place.{Place}
use Rattle.qml_ast.specs.declared.value.Value.{Value}
use Rattle.binding_engine.proofs.Holding.{equations_hold}
use Rattle.binding_engine.specs.Holding.{EquationsHold}
use Rattle.binding_engine.specs.Ignored.{ignored_in, places_ignored}
use Rattle.binding_engine.specs.Settling.{after_settle, resumed_by, settled_store}
use Rattle.object_tree.specs.Store.{Store}
use Rattle.signals.specs.Calls.{react_ran, write_ran, emit_ran, complete_ran, exec_ran}
use Rattle.signals.specs.declared.world.HandlerRef.{HandlerRef}
use Rattle.signals.specs.declared.world.World.{World}
use Rattle.handler_laws.proofs.Kept as kept

settle_holds : (writes : List Place) (store : Store) → EquationsHold (after_settle writes store)
settle_holds writes store =
    let settled = settled_store (resumed_by writes store) in
    equations_hold (resumed_by writes store) (places_ignored (ignored_in settled))

pub reacts : (writes : List Place) (w : World) → EquationsHold ((react_ran writes w).1).objects
reacts = kept.reacts EquationsHold settle_holds

pub writes : (place : Place) (v : Value) (w : World) → EquationsHold ((write_ran place v w).1).objects
writes = kept.writes EquationsHold settle_holds

pub emits : (of signal : ℕ) (args : List Value) (w : World) → EquationsHold w.objects → EquationsHold ((emit_ran of signal args w).1).objects
emits = kept.emits EquationsHold settle_holds

pub completes : (of : ℕ) (w : World) → EquationsHold w.objects → EquationsHold ((complete_ran of w).1).objects
completes = kept.completes EquationsHold settle_holds

pub executes : (h : HandlerRef) (args : List Value) (w : World) → EquationsHold w.objects → EquationsHold ((exec_ran h args w).1).objects
executes = kept.executes EquationsHold settle_holds
