-- What a part that stops gives to what would come after it.
use Rattle.std.proofs.Common.{◌≡◌, refl, sym}
use Rattle.std.specs.Prelude.{◌≢◌, List, Result, Err}
use Rattle.qml_ast.specs.declared.eval_fault.EvalFault.{EvalFault}
use Rattle.qml_ast.specs.declared.eval_fault.EvalFault.TheVariants.{Overflow, ZeroDivisor, WrongKind, UnknownName, NullMember, TooMuch, TextTooLong, ReadOnly, NoMemory as NoMemoryFault}
use Rattle.expr_eval.specs.declared.locals.NamedLocal.{NamedLocal}
use Rattle.signals.specs.Assigning.{then_with}
use Rattle.signals.specs.Endings.{Ending, Flowing, Doing, after, followed, going, with_value, Ends, Leaves, Gives, stop_of}
use Rattle.signals.specs.declared.ending.Halt.{Halt}
use Rattle.signals.specs.declared.ending.Halt.TheVariants.{Budget, TooDeep, NoMemory}
use Rattle.signals.specs.declared.ending.Stop.{Stop}
use Rattle.signals.specs.declared.ending.Stop.TheVariants.{Fault, Halted}
use Rattle.signals.specs.declared.world.World.{World}

-- the fault of a value stops the statement
pub stops_value : {A : Type 0} (expected : Result A EvalFault) (stop : Stop) (w : World) (locals : List NamedLocal) (next : A → Flowing) → Gives expected (Err stop) → Leaves (with_value expected w locals next) (Err stop) w locals
stops_value expected (Fault f) w locals next h = rw h refl
stops_value expected (Halted Budget) w locals next h = absurd h
stops_value expected (Halted TooDeep) w locals next h = absurd h
stops_value expected (Halted NoMemory) w locals next h = tt

-- and is that of what is made of the value
pub stops_then : {A B : Type 0} (expected : Result A EvalFault) (stop : Stop) (next : A → Result B EvalFault) → Gives expected (Err stop) → Gives (then_with expected next) (Err stop)
stops_then expected (Fault f) next h = rw h refl
stops_then expected (Halted Budget) next h = absurd h
stops_then expected (Halted TooDeep) next h = absurd h
stops_then expected (Halted NoMemory) next h = tt

-- no statement comes after one that has stopped
pub stops_followed : (o : Flowing) (next : Doing) (stop : Stop) (w : World) (locals : List NamedLocal) → Leaves o (Err stop) w locals → Leaves (followed o next) (Err stop) w locals
stops_followed o next (Fault f) w locals h = rw h refl
stops_followed o next (Halted Budget) w locals h = rw h refl
stops_followed o next (Halted TooDeep) w locals h = rw h refl
stops_followed o next (Halted NoMemory) w locals h = tt

-- a limit that was met stops the statement
pub stops_going : (o : Ending) (locals : List NamedLocal) (halt : Halt) (w : World) → Ends o (Err halt) w → Leaves (going o locals) (Err (Halted halt)) w locals
stops_going o locals Budget w h = rw h refl
stops_going o locals TooDeep w h = rw h refl
stops_going o locals NoMemory w h = tt

-- nothing comes after a limit that was met
pub stops_after : (o : Ending) (next : World → Ending) (halt : Halt) (w : World) → Ends o (Err halt) w → Ends (after o next) (Err halt) w
stops_after o next Budget w h = rw h refl
stops_after o next TooDeep w h = rw h refl
stops_after o next NoMemory w h = tt

-- a fault of a value that code gives, but for want of memory
pub lifts : {A : Type 0} (expected : Result A EvalFault) (f : EvalFault) → (◌≢◌ {A = Result A EvalFault} (Err f) (Err NoMemoryFault) → ◌≡◌ {A = Result A EvalFault} (Err f) expected) → Gives expected (Err (stop_of f))
lifts expected Overflow h = sym (h (λ e. cc))
lifts expected ZeroDivisor h = sym (h (λ e. cc))
lifts expected WrongKind h = sym (h (λ e. cc))
lifts expected UnknownName h = sym (h (λ e. cc))
lifts expected NullMember h = sym (h (λ e. cc))
lifts expected TooMuch h = sym (h (λ e. cc))
lifts expected TextTooLong h = sym (h (λ e. cc))
lifts expected ReadOnly h = sym (h (λ e. cc))
lifts expected NoMemoryFault h = tt
