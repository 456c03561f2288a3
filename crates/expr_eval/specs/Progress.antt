-- How far an evaluation has come, and what evaluations are.
use Rattle.std.specs.Prelude.{◌≡◌, ◌+◌, ◌≤◌, nat_lt, Bool, if◌then◌else◌, Result, Ok, Err}
use Rattle.qml_ast.specs.declared.eval_fault.EvalFault.{EvalFault}
use Rattle.qml_ast.specs.declared.eval_fault.EvalFault.TheVariants.{TooMuch, NoMemory as NoMemoryFault}
use Rattle.qml_ast.specs.declared.place.Place.{Place}
use Rattle.qml_ast.specs.declared.value.Value.{Value}
use Rattle.expr_eval.specs.Meanings.{Meanings}
use Rattle.expr_eval.specs.Traces.{noted}
use Rattle.expr_eval.specs.declared.progress.Halt.{Halt}
use Rattle.expr_eval.specs.declared.progress.Halt.TheVariants.{Faulted, Needs, NoMemory}
use Rattle.expr_eval.specs.declared.progress.Progress.{Progress}

-- why an evaluation has no value: a fault, or a place that has no value yet
pub data Stop : Type 0 where
  Fault : EvalFault → Stop
  Asks : Place → Stop

-- an evaluation goes on from a progress, and gives something or stops
abbrev pub Evaluation : Type 0 → Type 0
Evaluation A = Progress → Result A Stop × Progress

abbrev pub pure : {A : Type 0} → A → Evaluation A
pure x s = (Ok x, s)

abbrev pub fault : {A : Type 0} → EvalFault → Evaluation A
fault f s = (Err (Fault f), s)

-- what a function of values gives, as an evaluation that reads nothing
abbrev pub lifted : {A : Type 0} → Result A EvalFault → Evaluation A
lifted (Ok x) = pure x
lifted (Err f) = fault f

-- one evaluation after another. Nothing comes after one that has stopped
abbrev pub bind_to : {A B : Type 0} → Result A Stop × Progress → (A → Evaluation B) → Result B Stop × Progress
bind_to (Ok x, s) next = next x s
bind_to (Err stop, s) next = (Err stop, s)

abbrev pub bind : {A B : Type 0} → Evaluation A → (A → Evaluation B) → Evaluation B
bind first next s = bind_to (first s) next

-- a node is visited, of which there are at most 100,000
abbrev pub node : Evaluation (Unit {0})
node s = if nat_lt s.nodes 100000 then (Ok tt, record s { nodes = s.nodes + 1 }) else (Err (Fault TooMuch), s)

-- a place's value is read. Where the place has none yet, the evaluation stops with a request for it
abbrev pub read : (Place → Bool) → Meanings → Place → Evaluation Value
read clean means place s =
    if clean place then (Ok (means.read place), record s { trace = noted s.trace place }) else (Err (Asks place), s)

-- what the code gives is what the evaluation gives, except that memory may run out
abbrev pub Gives : {A : Type 0} → Result A Stop × Progress → Result A Halt → Progress → Type 0
Gives expected (Ok x) after = expected ≡ (Ok x, after)
Gives expected (Err (Faulted f)) after = expected ≡ (Err (Fault f), after)
Gives expected (Err (Needs place)) after = expected ≡ (Err (Asks place), after)
Gives expected (Err NoMemory) after = Unit {0}

-- nodes that were visited stay visited
abbrev pub Grows : Progress → Progress → Type 0
Grows before after = before.nodes ≤ after.nodes

-- a fault of the arithmetic, as the code tells it
abbrev pub halt_of : EvalFault → Halt
halt_of NoMemoryFault = NoMemory
halt_of f = Faulted f
