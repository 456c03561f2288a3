-- What statements, handlers, writes and signals do.
use Rattle.std.specs.Prelude.{ℕ, zero, suc, ◌-◌, nat_eq, Bool, true, false, if◌then◌else◌, List, [], ◌∷◌, ◌++◌, map, option_map, Option, None, Some, Result, Ok, Err, codes, pos}
use Rattle.qml_ast.specs.Arithmetic.{truth_of}
use Rattle.qml_ast.specs.declared.eval_fault.EvalFault.{EvalFault}
use Rattle.qml_ast.specs.declared.eval_fault.EvalFault.TheVariants.{WrongKind}
use Rattle.qml_ast.specs.declared.expr.Expr.{Expr, out-Expr}
use Rattle.qml_ast.specs.declared.expr.Expr.TheOpen.{Expr-F}
use Rattle.qml_ast.specs.declared.path.Path.{Path}
use Rattle.qml_ast.specs.declared.place.Place.{Place}
use Rattle.qml_ast.specs.declared.place.Side.TheVariants.{Shown}
use Rattle.qml_ast.specs.declared.stmt.AssignOp.{AssignOp}
use Rattle.qml_ast.specs.declared.stmt.AssignOp.TheVariants.{Add, Sub}
use Rattle.qml_ast.specs.declared.stmt.LocalWord.{LocalWord}
use Rattle.qml_ast.specs.declared.stmt.LocalWord.TheVariants.{Var, Let, Const}
use Rattle.qml_ast.specs.declared.stmt.Stmt.{Stmt, fold-Stmt}
use Rattle.qml_ast.specs.declared.stmt.Stmt.TheOpen.{Stmt-F}
use Rattle.qml_ast.specs.declared.value.Value.{Value}
use Rattle.qml_ast.specs.declared.value.Value.TheVariants.{Bool as Flag, Int}
use Rattle.type_table.specs.Slots.{find_slot}
use Rattle.type_table.specs.declared.built_in.BuiltIn.TheVariants.{Timer}
use Rattle.type_table.specs.declared.slot.Slot.{Slot}
use Rattle.expr_eval.specs.Statements.{aimed, called}
use Rattle.expr_eval.specs.Names.{local_named, declared, assigned, assignable}
use Rattle.expr_eval.specs.Needs.{every}
use Rattle.expr_eval.specs.declared.answer.Called.{Called}
use Rattle.expr_eval.specs.declared.answer.Called.TheVariants as call
use Rattle.expr_eval.specs.declared.found.Frame.{Frame}
use Rattle.expr_eval.specs.declared.locals.Local.TheVariants.{Plain}
use Rattle.expr_eval.specs.declared.locals.NamedLocal.{NamedLocal}
use Rattle.object_tree.specs.Changes.{value_or_null}
use Rattle.object_tree.specs.Handlers.{Method, handlers_at, signal_name_at, signal_params_at, method_at}
use Rattle.object_tree.specs.Origins.{path_at}
use Rattle.object_tree.specs.Settled.{meanings, arities}
use Rattle.object_tree.specs.Store.{Store}
use Rattle.script_text.specs.Notes.{log_text}
use Rattle.script_text.specs.declared.note.LimitKind.TheVariants as limit
use Rattle.signals.specs.Assigning.{local_target, held_value, combined, assignment}
use Rattle.signals.specs.Endings.{Ending, Handle, Flowing, Doing, ended, each, on, stopped, followed, going, with_value}
use Rattle.signals.specs.Jobs.{handles_signal, jobs_where, signal_locals, taken_arguments, method_job}
use Rattle.signals.specs.Noting.{changes_of, settled_by, with_written, noted, with_fault_note, limited}
use Rattle.signals.specs.Values.{value_in, value_or_undefined, holds_in, condition_in, logged_text}
use Rattle.signals.specs.declared.ending.Flow.TheVariants.{Returned}
use Rattle.signals.specs.declared.ending.Halt.TheVariants.{Budget, TooDeep}
use Rattle.signals.specs.declared.ending.Stop.TheVariants.{Fault, Halted}
use Rattle.signals.specs.declared.job.Body.{Body}
use Rattle.signals.specs.declared.job.Body.TheVariants as body
use Rattle.signals.specs.declared.job.Site.{Site}
use Rattle.signals.specs.declared.world.Event.{Event}
use Rattle.signals.specs.declared.world.Event.TheVariants.{Restart}
use Rattle.signals.specs.declared.world.World.{World}

-- ---- assignments to locals
abbrev pub local_assigned : Result (Unit {0}) EvalFault → List ℕ → Value → Doing
local_assigned (Ok u) name v w locals = on w (assigned name v locals)
local_assigned (Err fault) name v w locals = stopped (Fault fault) w locals

abbrev pub to_local : List ℕ → AssignOp → Result Value EvalFault → Doing
to_local name op right w locals =
    with_value (combined op (held_value (local_named name locals)) right) w locals (λ v. local_assigned (assignable name locals) name v w locals)

-- ---- parts of statements
abbrev pub is_fixed_word : LocalWord → Bool
is_fixed_word Var = false
is_fixed_word Let = false
is_fixed_word Const = true

abbrev pub part : Option Doing → Doing
part None = on
part (Some doing) = doing

abbrev pub in_order : List Doing → Doing
in_order [] w locals = on w locals
in_order (doing ∷ rest) w locals = followed (doing w locals) (in_order rest)

abbrev pub chosen : Bool → Doing → Option Doing → Doing
chosen holds first otherwise w locals = if holds then first w locals else part otherwise w locals

-- so many turns of a loop at most: while the condition holds, the body and then the step
abbrev pub turns : Frame → Option Expr → Doing → ℕ → Doing
turns frame test turn zero w locals = stopped (Halted Budget) w locals
turns frame test turn (suc more) w locals =
    with_value (condition_in frame w.objects locals test) w locals
    (λ holds. if holds then followed (turn w locals) (turns frame test turn more) else on w locals)

-- each turn begins a statement, of which no more than are left begin
unfoldable pub looped : Frame → Option Expr → Doing → Doing
looped frame test turn w locals = turns frame test turn (suc w.left) w locals

abbrev pub turn_of : Doing → Option Doing → Doing
turn_of first step w locals = followed (first w locals) (part step)

-- a statement begins, unless none is left in this move
abbrev pub begun : Site → World → Ending
begun site w = if nat_eq w.left 0 then (Err Budget, limited site limit.Statements w) else ended (record w { left = w.left - 1 })

-- ---- a timer's `running`
abbrev pub place_of : ℕ → Slot → Place
place_of of slot = record { serial = of; slot = slot.index; side = Shown }

unfoldable pub running_place : ℕ → Option Place
running_place of = option_map (place_of of) (find_slot Timer (codes "running"))

abbrev pub is_shown_true : Option Place → Store → Bool
is_shown_true None store = false
is_shown_true (Some place) store = truth_of (value_or_null place store)

abbrev pub with_event : Event → World → World
with_event event w = record w { events = w.events ++ (event ∷ []) }

-- ---- handlers of objects, where this is what runs one
module _ (handle : Handle) where
  -- the handlers of an object whose path passes the test run, in their order
  unfoldable pub handled : ℕ → (Path → Bool) → List NamedLocal → World → Ending
  handled of handles locals w = each handle (jobs_where handles locals (handlers_at of w.objects)) w

  abbrev pub emitted_as : ℕ → Option (List ℕ) → List NamedLocal → World → Ending
  emitted_as of None locals w = ended w
  emitted_as of (Some name) locals w = handled of (handles_signal name) locals w

  -- a signal of an object runs its handlers
  unfoldable pub emitted : ℕ → ℕ → List Value → World → Ending
  emitted of signal args w = emitted_as of (signal_name_at of signal w.objects) (signal_locals (signal_params_at of signal w.objects) args) w

  abbrev pub told_change : ℕ → Option (List ℕ) → World → Ending
  told_change of None w = ended w
  told_change of (Some path) w = handled of (handles_signal (path ++ codes "Changed")) [] w

  -- the handlers of a place's changes run
  abbrev pub change_told : Place → World → Ending
  change_told place w = told_change place.serial (path_at place w.objects) w

  -- the store is settled after writes to these places, and then the handlers of what has changed run
  unfoldable pub reacted : List Place → World → Ending
  reacted writes w = each change_told (changes_of writes w.objects) (settled_by writes w)

  -- a write takes the place of what the slot was bound to
  unfoldable pub write : Place → Value → World → Ending
  write place v w = reacted (place ∷ []) (with_written place v w)

  -- ---- a timer's methods
  abbrev pub written_to : Option Place → Value → World → Ending
  written_to None v w = ended w
  written_to (Some place) v w = write place v w

  -- `running` is written
  abbrev pub run_timer : ℕ → Bool → World → Ending
  run_timer of running w = written_to (running_place of) (Flag running) w

  -- a timer that runs begins anew
  abbrev pub restarted : ℕ → World → Ending
  restarted of w = if is_shown_true (running_place of) w.objects then ended (with_event (Restart of) w) else run_timer of true w

  -- `start`, `stop` and `restart`
  unfoldable pub timer_called : ℕ → ℕ → World → Ending
  timer_called of method w =
      if nat_eq method 0 then run_timer of true w
      else (if nat_eq method 1 then run_timer of false w else (if nat_eq method 2 then restarted of w else ended w))

  -- ---- the statements of what runs here
  module _ (site : Site) where
    abbrev pub method_called : ℕ → ℕ → Option Method → List Value → World → Ending
    method_called of method None args w = timer_called of method w
    method_called of method (Some m) args w = handle (method_job site m args) w

    -- what a call that stands as a statement does
    abbrev pub call_done : Called → Doing
    call_done call.Done w locals = on w locals
    call_done (call.Log values) w locals = with_value (logged_text values) w locals (λ text. on (noted (log_text text) w) locals)
    call_done (call.Signal of signal values) w locals =
        with_value (taken_arguments w.objects (signal_params_at of signal w.objects) values) w locals (λ args. going (emitted of signal args w) locals)
    call_done (call.Method of method values) w locals = going (method_called of method (method_at of method w.objects) values w) locals
    call_done (call.Needs place) w locals = stopped (Fault WrongKind) w locals
    call_done (call.Faulted fault) w locals = stopped (Fault fault) w locals

    -- a call's method or signal runs; the value of another expression is dropped
    abbrev pub done_step : Expr → Expr-F Expr → Doing
    done_step e (Expr-F.Call callee args) w locals = call_done (called every (meanings w.objects) (arities w.objects) callee args site.frame locals []).0 w locals
    done_step e _ w locals = with_value (value_in site.frame w.objects locals e) w locals (λ v. on w locals)

    -- ---- assignments
    abbrev pub assigned_by : Option (List ℕ) → Expr → AssignOp → Result Value EvalFault → Doing
    assigned_by (Some name) target op right w locals = to_local name op right w locals
    assigned_by None target op right w locals =
        with_value (assignment (aimed every (meanings w.objects) target site.frame locals []).0 op right w.objects) w locals (λ a. going (write a.0 a.1 w) locals)

    -- an assignment to a local, or else to a place
    unfoldable pub assigned_to : Expr → AssignOp → Result Value EvalFault → Doing
    assigned_to target op right w locals = assigned_by (local_target target locals) target op right w locals

    -- ---- the forms of statements
    abbrev pub visit : Stmt-F Doing → Doing
    visit (Stmt-F.Local word name e) w locals =
        with_value (value_or_undefined site.frame w.objects locals e) w locals (λ v. on w (declared name (Plain v) (is_fixed_word word) locals))
    visit (Stmt-F.Assign target op e) w locals = assigned_to target op (value_in site.frame w.objects locals e) w locals
    visit (Stmt-F.Step target up) w locals = assigned_to target (if up then Add else Sub) (Ok (Int (pos 1))) w locals
    visit (Stmt-F.Do e) w locals = done_step e (out-Expr e) w locals
    visit (Stmt-F.Block doings) w locals = in_order doings w locals
    visit Stmt-F.Empty w locals = on w locals
    visit (Stmt-F.If e first otherwise) w locals =
        with_value (holds_in site.frame w.objects locals e) w locals (λ holds. chosen holds first otherwise w locals)
    visit (Stmt-F.While e turn) w locals = looped site.frame (Some e) (turn_of turn None) w locals
    visit (Stmt-F.For first test step turn) w locals = followed (part first w locals) (looped site.frame test (turn_of turn step))
    visit (Stmt-F.Return e) w locals =
        with_value (value_or_undefined site.frame w.objects locals e) w locals (λ v. (Ok Returned, (w, locals)))

    -- Each statement counts when it begins.
    abbrev pub step : Stmt-F Doing → Doing
    step statement w locals = followed (going (begun site w) locals) (visit statement)

    unfoldable pub exec : Stmt → Doing
    exec = fold-Stmt Doing step

-- a fault ends its handler alone
abbrev pub ended_as : Site → Flowing → Ending
ended_as site (Ok flow, s) = ended s.0
ended_as site (Err (Fault fault), s) = ended (with_fault_note site fault s.0)
ended_as site (Err (Halted halt), s) = (Err halt, s.0)

-- a handler's statement, or a method's statements
abbrev pub body_done : Handle → Site → Body → Doing
body_done handle site (body.Handler statement) = exec handle site statement
body_done handle site (body.Method statements) = in_order (map (exec handle site) statements)

-- what runs a handler, where so many may nest in each other from it on
unfoldable pub handle : ℕ → Handle
handle zero job w = (Err TooDeep, limited job.site limit.Handlers w)
handle (suc room) job w = ended_as job.site (body_done (handle room) job.site job.body w job.locals)
