-- How what runs goes on or ends.
use Rattle.std.specs.Prelude.{◌≡◌, List, [], ◌∷◌, Result, Ok, Err}
use Rattle.qml_ast.specs.declared.eval_fault.EvalFault.{EvalFault}
use Rattle.qml_ast.specs.declared.eval_fault.EvalFault.TheVariants.{NoMemory as NoMemoryFault}
use Rattle.expr_eval.specs.declared.locals.NamedLocal.{NamedLocal}
use Rattle.signals.specs.declared.ending.Flow.{Flow}
use Rattle.signals.specs.declared.ending.Flow.TheVariants.{Going, Returned}
use Rattle.signals.specs.declared.ending.Halt.{Halt}
use Rattle.signals.specs.declared.ending.Halt.TheVariants.{Budget, TooDeep, NoMemory}
use Rattle.signals.specs.declared.ending.Stop.{Stop}
use Rattle.signals.specs.declared.ending.Stop.TheVariants.{Fault, Halted}
use Rattle.signals.specs.declared.job.Job.{Job}
use Rattle.signals.specs.declared.world.World.{World}

-- ---- handlers, writes and signals
-- the world in which one ends, and why all ends with it, if it does
abbrev pub Ending : Type 0
Ending = Result (Unit {0}) Halt × World

-- what runs a handler or a method
abbrev pub Handle : Type 0
Handle = Job → World → Ending

abbrev pub ended : World → Ending
ended w = (Ok tt, w)

-- nothing comes after a limit that was met
abbrev pub after : Ending → (World → Ending) → Ending
after (Ok _, w) next = next w
after (Err halt, w) next = (Err halt, w)

-- one after another
abbrev pub each : {X : Type 0} → (X → World → Ending) → List X → World → Ending
each run [] w = ended w
each run (x ∷ xs) w = after (run x w) (each run xs)

-- ---- statements
-- how a statement goes on or why it stops, the world then, and the locals
abbrev pub Flowing : Type 0
Flowing = Result Flow Stop × (World × List NamedLocal)

abbrev pub Doing : Type 0
Doing = World → List NamedLocal → Flowing

abbrev pub on : Doing
on w locals = (Ok Going, (w, locals))

abbrev pub stopped : Stop → Doing
stopped stop w locals = (Err stop, (w, locals))

-- the next statement comes after one that goes on, and not after one that returned or stopped
abbrev pub followed : Flowing → Doing → Flowing
followed (Ok Going, s) next = next s.0 s.1
followed (Ok Returned, s) next = (Ok Returned, s)
followed (Err stop, s) next = (Err stop, s)

-- a statement goes on where what it ran has ended
abbrev pub going : Ending → List NamedLocal → Flowing
going (Ok _, w) locals = on w locals
going (Err halt, w) locals = stopped (Halted halt) w locals

-- what is done with a value; its fault stops the statement
abbrev pub with_value : {A : Type 0} → Result A EvalFault → World → List NamedLocal → (A → Flowing) → Flowing
with_value (Ok v) w locals next = next v
with_value (Err fault) w locals next = stopped (Fault fault) w locals

-- ---- what the code gives, but for want of memory
abbrev pub Ends : Ending → Result (Unit {0}) Halt → World → Type 0
Ends expected (Ok u) w = expected ≡ (Ok u, w)
Ends expected (Err Budget) w = expected ≡ (Err Budget, w)
Ends expected (Err TooDeep) w = expected ≡ (Err TooDeep, w)
Ends expected (Err NoMemory) w = Unit {0}

abbrev pub LeavesHalted : Flowing → Halt → World → List NamedLocal → Type 0
LeavesHalted expected Budget w locals = expected ≡ stopped (Halted Budget) w locals
LeavesHalted expected TooDeep w locals = expected ≡ stopped (Halted TooDeep) w locals
LeavesHalted expected NoMemory w locals = Unit {0}

abbrev pub Leaves : Flowing → Result Flow Stop → World → List NamedLocal → Type 0
Leaves expected (Ok flow) w locals = expected ≡ (Ok flow, (w, locals))
Leaves expected (Err (Fault fault)) w locals = expected ≡ stopped (Fault fault) w locals
Leaves expected (Err (Halted halt)) w locals = LeavesHalted expected halt w locals

-- a value, or its fault
abbrev pub GivesHalted : Halt → Type 0
GivesHalted Budget = ⊥
GivesHalted TooDeep = ⊥
GivesHalted NoMemory = Unit {0}

abbrev pub Gives : {A : Type 0} → Result A EvalFault → Result A Stop → Type 0
Gives expected (Ok v) = expected ≡ Ok v
Gives expected (Err (Fault fault)) = expected ≡ Err fault
Gives expected (Err (Halted halt)) = GivesHalted halt

-- a fault of a value, as a statement stops at it
abbrev pub stop_of : EvalFault → Stop
stop_of NoMemoryFault = Halted NoMemory
stop_of fault = Fault fault
