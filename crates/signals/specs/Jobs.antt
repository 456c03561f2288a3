-- What handlers and methods run, and with which locals.
use Rattle.std.specs.Prelude.{ℕ, zero, suc, ◌+◌, Bool, true, false, ◌&&◌, ◌||◌, if◌then◌else◌, is_none, List, [], ◌∷◌, ◌++◌, length, map, filter, take, drop, Option, None, Some, Result, Ok, bytes_eq, codes, slice_get}
use Rattle.qml_ast.specs.declared.eval_fault.EvalFault.{EvalFault}
use Rattle.qml_ast.specs.declared.path.Path.{Path}
use Rattle.qml_ast.specs.declared.value.Value.{Value}
use Rattle.qml_ast.specs.declared.value.Value.TheVariants.{Int}
use Rattle.type_table.specs.declared.slot.Kind.{Kind}
use Rattle.type_table.specs.declared.slot.Kind.TheVariants as kind
use Rattle.qml_types.specs.Scope.{begins_upper, with_lower}
use Rattle.expr_eval.specs.Names.{declared, bound}
use Rattle.expr_eval.specs.declared.locals.Local.TheVariants.{Plain, Mouse}
use Rattle.expr_eval.specs.declared.locals.NamedLocal.{NamedLocal}
use Rattle.object_tree.specs.Handlers.{Handler, Method, signal_name_at, signal_params_at}
use Rattle.object_tree.specs.Reading.{instance_at}
use Rattle.object_tree.specs.declared.instance.Instance.{Instance}
use Rattle.object_tree.specs.Store.{Store}
use Rattle.object_tree.specs.Taking.{taken}
use Rattle.signals.specs.Assigning.{then_with, taken_or_wrong}
use Rattle.signals.specs.declared.job.Body.TheVariants as body
use Rattle.signals.specs.declared.jobs.Occasion.{Occasion}
use Rattle.signals.specs.declared.jobs.Occasion.TheVariants.{Signal, Completion}
use Rattle.signals.specs.declared.job.Job.{Job}
use Rattle.signals.specs.declared.job.Site.{Site}

-- ---- handlers
-- the name after `on`, where an upper-case letter begins it
abbrev pub handled_name : List ℕ → Option (List ℕ)
handled_name name = if bytes_eq (take 2 name) (codes "on") && begins_upper (drop 2 name) then Some (drop 2 name) else None

-- the name is this one, with its first letter as it is or in lower case
abbrev pub is_told_by : List ℕ → Option (List ℕ) → Bool
is_told_by name None = false
is_told_by name (Some handled) = bytes_eq name (with_lower handled) || bytes_eq name handled

-- a handler of that path handles a signal of this name
unfoldable pub handles_signal : List ℕ → Path → Bool
handles_signal name path = is_none path.second && is_told_by name (handled_name path.first)

abbrev pub is_named : List ℕ → Option (List ℕ) → Bool
is_named name None = false
is_named name (Some other) = bytes_eq other name

-- a handler of that path runs once its object is there with all that stands beside it
unfoldable pub handles_completion : Path → Bool
handles_completion path = bytes_eq path.first (codes "Component") && is_named (codes "onCompleted") path.second

abbrev pub job_of : Handler → List NamedLocal → Job
job_of h locals = record {
  site = record { frame = h.frame; component = h.component; span = h.span };
  body = body.Handler h.body;
  locals = locals;
}

-- the jobs of those handlers whose path passes the test
abbrev pub jobs_where : (Path → Bool) → List NamedLocal → List Handler → List Job
jobs_where handles locals handlers = map (λ h. job_of h locals) (filter (λ h. handles h.path) handlers)

-- ---- the locals of a signal's handlers
-- parameters, each with its argument
abbrev pub with_params : List (List ℕ × Kind) → List Value → List NamedLocal → List NamedLocal
with_params [] args locals = locals
with_params (param ∷ params) [] locals = locals
with_params (param ∷ params) (arg ∷ args) locals = with_params params args (declared param.0 (Plain arg) false locals)

-- the built-in signals with arguments tell where the mouse is
abbrev pub mouse_locals : List Value → List NamedLocal
mouse_locals (Int x ∷ Int y ∷ []) = declared (codes "mouse") (Mouse x y) true []
mouse_locals _ = []

abbrev pub signal_locals : Option (List (List ℕ × Kind)) → List Value → List NamedLocal
signal_locals None args = mouse_locals args
signal_locals (Some params) args = with_params params args []

-- ---- the signal that one handler handles
-- the first number from this one on that passes the test, of so many
abbrev pub first_from : (ℕ → Bool) → ℕ → ℕ → Option ℕ
first_from test at zero = None
first_from test at (suc left) = if test at then Some at else first_from test (at + 1) left

abbrev pub is_handled_by : Path → Option (List ℕ) → Bool
is_handled_by path None = false
is_handled_by path (Some name) = handles_signal name path

abbrev pub signal_count : Option Instance → ℕ
signal_count None = 0
signal_count (Some instance) = instance.signals

-- the first signal of the object that a handler of that path handles
abbrev pub signal_of : ℕ → Path → Store → Option ℕ
signal_of of path store =
    first_from (λ number. is_handled_by path (signal_name_at of number store)) 0 (signal_count (instance_at of store))

abbrev pub locals_for : Option ℕ → ℕ → List Value → Store → List NamedLocal
locals_for None of args store = []
locals_for (Some signal) of args store = signal_locals (signal_params_at of signal store) args

-- the job of one handler, with the arguments of its signal
abbrev pub handler_job : ℕ → List Value → Store → Option Handler → Option Job
handler_job of args store None = None
handler_job of args store (Some h) = Some (job_of h (locals_for (signal_of of h.path store) of args store))

-- ---- the arguments of a signal
-- the kind of the parameter of that number; the arguments of built-in signals are numbers
abbrev pub kind_at : Option (List (List ℕ × Kind)) → ℕ → Kind
kind_at None at = kind.Int
kind_at (Some params) at = elim (slice_get params at) [ None ↦ kind.Var | Some param ↦ param.1 ]

-- each argument as its parameter's kind takes it, after those that are done; what one of them does not take is a fault
abbrev pub taken_from : Store → Option (List (List ℕ × Kind)) → List Value → List Value → Result (List Value) EvalFault
taken_from store params done [] = Ok done
taken_from store params done (arg ∷ args) =
    then_with (taken_or_wrong (taken store (kind_at params (length done)) arg)) (λ v. taken_from store params (done ++ v ∷ []) args)

abbrev pub taken_arguments : Store → Option (List (List ℕ × Kind)) → List Value → Result (List Value) EvalFault
taken_arguments store params args = taken_from store params [] args

-- ---- methods
-- a method runs where its names are looked up; its notes stand where those of its caller stand
abbrev pub method_job : Site → Method → List Value → Job
method_job site m args = record {
  site = record site { frame = m.frame };
  body = body.Method m.body;
  locals = bound m.params args;
}

-- ---- the code's test
abbrev pub handles : Occasion → Path → Bool
handles (Signal name) path = handles_signal name.now path
handles Completion path = handles_completion path
