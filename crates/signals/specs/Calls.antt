-- What the machine does: writes and signals, within a move.
use Rattle.std.specs.Prelude.{ℕ, Option, None, Some, true, false, if◌then◌else◌, List, [], ◌∷◌, Ok, Err}
use Rattle.qml_ast.specs.declared.place.Place.{Place}
use Rattle.qml_ast.specs.declared.value.Value.{Value}
use Rattle.binding_engine.specs.declared.engine.Engine.{Engine}
use Rattle.object_tree.specs.Handlers.{handler_at}
use Rattle.object_tree.specs.Store.{Store}
use Rattle.signals.specs.declared.calls.TheConstants.{MOST_STATEMENTS, MOST_HANDLERS}
use Rattle.signals.specs.Endings.{Ending, Handle, ended, each}
use Rattle.signals.specs.Jobs.{handles_completion, handler_job}
use Rattle.signals.specs.Noting.{changes_of, settled_by, with_written}
use Rattle.signals.specs.Running.{handle, handled, emitted, change_told}
use Rattle.signals.specs.declared.ending.Halt.{Halt}
use Rattle.signals.specs.declared.ending.Halt.TheVariants as halt
use Rattle.signals.specs.declared.ending.Ran.{Ran}
use Rattle.signals.specs.declared.ending.Ran.TheVariants as ran
use Rattle.signals.specs.declared.job.Job.{Job}
use Rattle.signals.specs.declared.world.HandlerRef.{HandlerRef}
use Rattle.signals.specs.declared.world.World.{World}

-- a world of these objects, at the beginning of a move
abbrev pub fresh_world : Store → Engine → World
fresh_world store engine = record { objects = store; engine = engine; notes = []; events = []; left = MOST_STATEMENTS; dropped = false }

-- a move begins
abbrev pub moved : World → World
moved w = record w { left = MOST_STATEMENTS; dropped = false }

-- at most 64 handlers nest in each other
abbrev pub top : Handle
top = handle MOST_HANDLERS

abbrev pub halt_ran : Halt → Ran
halt_ran halt.Budget = ran.Budget
halt_ran halt.TooDeep = ran.TooDeep
halt_ran halt.NoMemory = ran.Ended

-- after a limit that was met, the rest of the move's handlers is dropped
abbrev pub ran_of : Ending → Ran × World
ran_of (Ok u, w) = (ran.Ended, w)
ran_of (Err met, w) = (halt_ran met, record w { dropped = true })

-- nothing runs where a limit was met before in this move
abbrev pub unless_dropped : (World → Ending) → World → Ran × World
unless_dropped run w = if w.dropped then (ran.Ended, w) else ran_of (run w)

-- the store is settled after writes to these places, and then the handlers of what has changed run
unfoldable pub react_ran : List Place → World → Ran × World
react_ran writes w = unless_dropped (each (change_told top) (changes_of writes w.objects)) (settled_by writes w)

unfoldable pub write_ran : Place → Value → World → Ran × World
write_ran place v w = react_ran (place ∷ []) (with_written place v w)

unfoldable pub emit_ran : ℕ → ℕ → List Value → World → Ran × World
emit_ran of signal args w = unless_dropped (emitted top of signal args) w

-- the handlers of an object's completion
unfoldable pub complete_ran : ℕ → World → Ran × World
complete_ran of w = unless_dropped (handled top of handles_completion []) w

-- one handler, with the arguments of its signal
abbrev pub run_job : Option Job → World → Ending
run_job None w = ended w
run_job (Some job) w = top job w

unfoldable pub exec_ran : HandlerRef → List Value → World → Ran × World
exec_ran h args w = unless_dropped (run_job (handler_job h.serial args w.objects (handler_at h.serial h.index w.objects))) w
