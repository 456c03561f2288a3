-- What each settle gives a store is kept by whatever runs: only writes change the objects, and each is settled.
use Rattle.std.proofs.Common.{ℕ, zero, suc, nat_eq, Bool, true, false, List, [], ◌∷◌, map, Option, None, Some, sym, subst}
use Rattle.std.specs.Prelude.{Result, Ok, Err, if◌then◌else◌}
use Rattle.qml_ast.specs.declared.eval_fault.EvalFault.{EvalFault}
use Rattle.qml_ast.specs.declared.expr.Expr.{Expr, out-Expr}
use Rattle.qml_ast.specs.declared.expr.Expr.TheOpen.{Expr-F}
use Rattle.qml_ast.specs.declared.path.Path.{Path}
use Rattle.qml_ast.specs.declared.place.Place.{Place}
use Rattle.qml_ast.specs.declared.stmt.AssignOp.{AssignOp}
use Rattle.qml_ast.specs.declared.stmt.Stmt.{Stmt, roll-Stmt, map-Stmt, fold-roll-Stmt, ind-Stmt}
use Rattle.qml_ast.specs.declared.stmt.Stmt.TheOpen.{Stmt-F}
use Rattle.qml_ast.specs.declared.value.Value.{Value}
use Rattle.binding_engine.specs.Settling.{after_settle}
use Rattle.expr_eval.specs.Names.{local_named, assignable}
use Rattle.expr_eval.specs.Needs.{every}
use Rattle.expr_eval.specs.Statements.{aimed, called}
use Rattle.expr_eval.specs.declared.answer.Called.{Called}
use Rattle.expr_eval.specs.declared.answer.Called.TheVariants as call
use Rattle.expr_eval.specs.declared.found.Frame.{Frame}
use Rattle.expr_eval.specs.declared.locals.NamedLocal.{NamedLocal}
use Rattle.object_tree.specs.Handlers.{Method, handler_at, handlers_at, signal_name_at, signal_params_at, method_at}
use Rattle.object_tree.specs.Origins.{path_at}
use Rattle.object_tree.specs.Settled.{meanings, arities}
use Rattle.object_tree.specs.Store.{Store}
use Rattle.signals.specs.Assigning.{local_target, held_value, combined, assignment}
use Rattle.signals.specs.Calls.{top, ran_of, unless_dropped, react_ran, write_ran, emit_ran, complete_ran, run_job, exec_ran}
use Rattle.signals.specs.Endings.{Ending, Handle, Flowing, Doing, after, each, on, followed, going, with_value}
use Rattle.signals.specs.Jobs.{handler_job, jobs_where, handles_signal, handles_completion, signal_locals, taken_arguments, method_job}
use Rattle.signals.specs.Noting.{changes_of, settled_by, with_written}
use Rattle.signals.specs.Running.{handled, emitted, emitted_as, told_change, change_told, reacted, write, running_place, is_shown_true, written_to, run_timer, timer_called, method_called, call_done, done_step, local_assigned, assigned_by, assigned_to, in_order, turns, looped, turn_of, visit, step, exec, begun, ended_as, body_done, handle}
use Rattle.signals.specs.Values.{value_in, value_or_undefined, holds_in, condition_in, logged_text}
use Rattle.signals.specs.declared.ending.Flow.TheVariants.{Going, Returned}
use Rattle.signals.specs.declared.ending.Stop.TheVariants.{Fault, Halted}
use Rattle.signals.specs.declared.job.Body.{Body}
use Rattle.signals.specs.declared.job.Body.TheVariants as body
use Rattle.signals.specs.declared.job.Job.{Job}
use Rattle.signals.specs.declared.job.Site.{Site}
use Rattle.signals.specs.declared.ending.Ran.TheVariants as ran
use Rattle.signals.specs.declared.world.HandlerRef.{HandlerRef}
use Rattle.signals.specs.declared.world.World.{World}

module _ (P : Store → Type 0) (settles : (writes : List Place) (store : Store) → P (after_settle writes store)) where
  abbrev Stays : Ending → Type 0
  Stays o = P (o.1).objects

  abbrev Goes : Flowing → Type 0
  Goes o = P ((o.1).0).objects

  abbrev Keeps : (World → Ending) → Type 0
  Keeps run = (w : World) → P w.objects → Stays (run w)

  abbrev Does : Doing → Type 0
  Does doing = (w : World) (locals : List NamedLocal) → P w.objects → Goes (doing w locals)

  -- ---- the ways in which parts follow each other
  after_stays : (o : Ending) (next : World → Ending) → Stays o → Keeps next → Stays (after o next)
  after_stays (Ok u, w) next p keeps = keeps w p
  after_stays (Err halt, w) next p keeps = p

  each_keeps : {X : Type 0} (run : X → World → Ending) → ((x : X) → Keeps (run x)) → (xs : List X) → Keeps (each run xs)
  each_keeps run all [] w p = p
  each_keeps run all (x ∷ xs) w p = after_stays (run x w) (each run xs) (all x w p) (each_keeps run all xs)

  if_stays : (b : Bool) (x y : Ending) → Stays x → Stays y → Stays (if b then x else y)
  if_stays true x y p q = p
  if_stays false x y p q = q

  followed_goes : (o : Flowing) (next : Doing) → Goes o → Does next → Goes (followed o next)
  followed_goes (Ok Going, s) next p does = does s.0 s.1 p
  followed_goes (Ok Returned, s) next p does = p
  followed_goes (Err stop, s) next p does = p

  going_goes : (o : Ending) (locals : List NamedLocal) → Stays o → Goes (going o locals)
  going_goes (Ok u, w) locals p = p
  going_goes (Err halt, w) locals p = p

  value_goes : {A : Type 0} (r : Result A EvalFault) (w : World) (locals : List NamedLocal) (next : A → Flowing) → P w.objects → ((v : A) → Goes (next v)) → Goes (with_value r w locals next)
  value_goes (Ok v) w locals next p all = all v
  value_goes (Err fault) w locals next p all = p

  if_goes : (b : Bool) (x y : Flowing) → Goes x → Goes y → Goes (if b then x else y)
  if_goes true x y p q = p
  if_goes false x y p q = q

  module _ (h : Handle) (good : (job : Job) → Keeps (h job)) where
    handled_keeps : (of : ℕ) (handles : Path → Bool) (locals : List NamedLocal) → Keeps (handled h of handles locals)
    unfolding handled
    handled_keeps of handles locals w p = each_keeps h good (jobs_where handles locals (handlers_at of w.objects)) w p

    emitted_as_keeps : (of : ℕ) (name : Option (List ℕ)) (locals : List NamedLocal) → Keeps (emitted_as h of name locals)
    emitted_as_keeps of None locals w p = p
    emitted_as_keeps of (Some name) locals w p = handled_keeps of (handles_signal name) locals w p

    emitted_keeps : (of signal : ℕ) (args : List Value) → Keeps (emitted h of signal args)
    unfolding emitted
    emitted_keeps of signal args w p = emitted_as_keeps of (signal_name_at of signal w.objects) (signal_locals (signal_params_at of signal w.objects) args) w p

    told_keeps : (of : ℕ) (path : Option (List ℕ)) → Keeps (told_change h of path)
    told_keeps of None w p = p
    told_keeps of (Some path) w p = handled_keeps of _ [] w p

    change_keeps : (place : Place) → Keeps (change_told h place)
    change_keeps place w p = told_keeps place.serial (path_at place w.objects) w p

    reacted_stays : (writes : List Place) (w : World) → Stays (reacted h writes w)
    unfolding reacted settled_by
    reacted_stays writes w = each_keeps (change_told h) change_keeps (changes_of writes w.objects) (settled_by writes w) (settles writes w.objects)

    write_stays : (place : Place) (v : Value) (w : World) → Stays (write h place v w)
    unfolding write
    write_stays place v w = reacted_stays (place ∷ []) (with_written place v w)

    written_keeps : (place : Option Place) (v : Value) → Keeps (written_to h place v)
    written_keeps None v w p = p
    written_keeps (Some place) v w p = write_stays place v w

    timer_keeps : (of method : ℕ) → Keeps (timer_called h of method)
    unfolding timer_called
    timer_keeps of method w p =
        let started : (b : Bool) → Stays (run_timer h of b w) = λ b. written_keeps (running_place of) _ w p in
        if_stays (nat_eq method 0) _ _ (started true)
        (if_stays (nat_eq method 1) _ _ (started false)
        (if_stays (nat_eq method 2) _ _ (if_stays (is_shown_true (running_place of) w.objects) _ _ p (started true)) p))

    module _ (site : Site) where
      method_keeps : (of method : ℕ) (m : Option Method) (args : List Value) → Keeps (method_called h site of method m args)
      method_keeps of method None args w p = timer_keeps of method w p
      method_keeps of method (Some m) args w p = good (method_job site m args) w p

      call_does : (c : Called) → Does (call_done h site c)
      call_does call.Done w locals p = p
      call_does (call.Log values) w locals p = value_goes (logged_text values) w locals _ p (λ text. p)
      call_does (call.Signal of signal values) w locals p =
          value_goes (taken_arguments w.objects (signal_params_at of signal w.objects) values) w locals _ p (λ args. going_goes (emitted h of signal args w) locals (emitted_keeps of signal args w p))
      call_does (call.Method of method values) w locals p =
          going_goes (method_called h site of method (method_at of method w.objects) values w) locals (method_keeps of method (method_at of method w.objects) values w p)
      call_does (call.Needs place) w locals p = p
      call_does (call.Faulted fault) w locals p = p

      done_does : (e : Expr) (o : Expr-F Expr) → Does (done_step h site e o)
      done_does e (Expr-F.Call callee args) w locals p = call_does (called every (meanings w.objects) (arities w.objects) callee args site.frame locals []).0 w locals p
      done_does e (Expr-F.Lit v) w locals p = value_goes (value_in site.frame w.objects locals e) w locals _ p (λ x. p)
      done_does e (Expr-F.Name name) w locals p = value_goes (value_in site.frame w.objects locals e) w locals _ p (λ x. p)
      done_does e (Expr-F.Member of name) w locals p = value_goes (value_in site.frame w.objects locals e) w locals _ p (λ x. p)
      done_does e (Expr-F.Unary operator x) w locals p = value_goes (value_in site.frame w.objects locals e) w locals _ p (λ x. p)
      done_does e (Expr-F.Binary operator x y) w locals p = value_goes (value_in site.frame w.objects locals e) w locals _ p (λ x. p)
      done_does e (Expr-F.And x y) w locals p = value_goes (value_in site.frame w.objects locals e) w locals _ p (λ x. p)
      done_does e (Expr-F.Or x y) w locals p = value_goes (value_in site.frame w.objects locals e) w locals _ p (λ x. p)
      done_does e (Expr-F.Cond c x y) w locals p = value_goes (value_in site.frame w.objects locals e) w locals _ p (λ x. p)

      local_does : (r : Result (Unit {0}) EvalFault) (name : List ℕ) (v : Value) → Does (local_assigned r name v)
      local_does (Ok u) name v w locals p = p
      local_does (Err fault) name v w locals p = p

      by_does : (name : Option (List ℕ)) (target : Expr) (op : AssignOp) (right : Result Value EvalFault) → Does (assigned_by h site name target op right)
      by_does (Some name) target op right w locals p =
          value_goes (combined op (held_value (local_named name locals)) right) w locals _ p (λ v. local_does (assignable name locals) name v w locals p)
      by_does None target op right w locals p =
          value_goes (assignment (aimed every (meanings w.objects) target site.frame locals []).0 op right w.objects) w locals _ p
          (λ a. going_goes (write h a.0 a.1 w) locals (write_stays a.0 a.1 w))

      assigned_does : (target : Expr) (op : AssignOp) (right : Result Value EvalFault) → Does (assigned_to h site target op right)
      unfolding assigned_to
      assigned_does target op right w locals p = by_does (local_target target locals) target op right w locals p

      begun_keeps : Keeps (begun site)
      begun_keeps w p = if_stays (nat_eq w.left 0) _ _ p p

  -- ---- parts of statements
  turns_does : (frame : Frame) (test : Option Expr) (turn : Doing) → Does turn → (n : ℕ) → Does (turns frame test turn n)
  turns_does frame test turn does zero w locals p = p
  turns_does frame test turn does (suc n) w locals p =
      value_goes (condition_in frame w.objects locals test) w locals _ p
      (λ b. if_goes b _ _ (followed_goes (turn w locals) (turns frame test turn n) (does w locals p) (turns_does frame test turn does n)) p)

  looped_does : (frame : Frame) (test : Option Expr) (turn : Doing) → Does turn → Does (looped frame test turn)
  unfolding looped
  looped_does frame test turn does w locals p = turns_does frame test turn does (suc w.left) w locals p

  -- ---- statements, whose parts are these
  module _ (h : Handle) (good : (job : Job) → Keeps (h job)) (site : Site) {S : Type 0} (of : S → Stmt) (all : (x : S) → Does (exec h site (of x))) where
    abbrev run : S → Doing
    run x = exec h site (of x)

    abbrev opened : Stmt-F S → Stmt-F Doing
    opened y = map-Stmt Stmt Doing (exec h site) (map-Stmt S Stmt of y)

    in_order_does : (xs : List S) → Does (in_order (map (exec h site) (map of xs)))
    in_order_does [] w locals p = p
    in_order_does (x ∷ xs) w locals p = followed_goes (run x w locals) (in_order (map (exec h site) (map of xs))) (all x w locals p) (in_order_does xs)

    visit_does : (y : Stmt-F S) → Does (visit h site (opened y))
    visit_does (Stmt-F.Local word name e) w locals p = value_goes (value_or_undefined site.frame w.objects locals e) w locals _ p (λ v. p)
    visit_does (Stmt-F.Assign target op e) w locals p = assigned_does h good site target op (value_in site.frame w.objects locals e) w locals p
    visit_does (Stmt-F.Step target up) w locals p = assigned_does h good site target _ _ w locals p
    visit_does (Stmt-F.Do e) w locals p = done_does h good site e (out-Expr e) w locals p
    visit_does (Stmt-F.Block xs) w locals p = in_order_does xs w locals p
    visit_does Stmt-F.Empty w locals p = p
    visit_does (Stmt-F.If e x None) w locals p = value_goes (holds_in site.frame w.objects locals e) w locals _ p (λ b. if_goes b _ _ (all x w locals p) p)
    visit_does (Stmt-F.If e x (Some z)) w locals p = value_goes (holds_in site.frame w.objects locals e) w locals _ p (λ b. if_goes b _ _ (all x w locals p) (all z w locals p))
    visit_does (Stmt-F.While e x) w locals p =
        looped_does site.frame (Some e) (turn_of (run x) None) (λ w2 l2 q. followed_goes (run x w2 l2) on (all x w2 l2 q) (λ w3 l3 r. r)) w locals p
    visit_does (Stmt-F.For None e None x) w locals p =
        looped_does site.frame e (turn_of (run x) None) (λ w2 l2 q. followed_goes (run x w2 l2) on (all x w2 l2 q) (λ w3 l3 r. r)) w locals p
    visit_does (Stmt-F.For None e (Some z) x) w locals p =
        looped_does site.frame e (turn_of (run x) (Some (run z))) (λ w2 l2 q. followed_goes (run x w2 l2) (run z) (all x w2 l2 q) (all z)) w locals p
    visit_does (Stmt-F.For (Some first) e None x) w locals p =
        followed_goes (run first w locals) (looped site.frame e (turn_of (run x) None)) (all first w locals p)
        (looped_does site.frame e (turn_of (run x) None) (λ w2 l2 q. followed_goes (run x w2 l2) on (all x w2 l2 q) (λ w3 l3 r. r)))
    visit_does (Stmt-F.For (Some first) e (Some z) x) w locals p =
        followed_goes (run first w locals) (looped site.frame e (turn_of (run x) (Some (run z)))) (all first w locals p)
        (looped_does site.frame e (turn_of (run x) (Some (run z))) (λ w2 l2 q. followed_goes (run x w2 l2) (run z) (all x w2 l2 q) (all z)))
    visit_does (Stmt-F.Return e) w locals p = value_goes (value_or_undefined site.frame w.objects locals e) w locals _ p (λ v. p)

    step_does : (y : Stmt-F S) → Does (step h site (opened y))
    step_does y w locals p = followed_goes (going (begun site w) locals) (visit h site (opened y)) (going_goes (begun site w) locals (begun_keeps h good site w p)) (visit_does y)

    layer : (y : Stmt-F S) → Does (exec h site (roll-Stmt (map-Stmt S Stmt of y)))
    unfolding exec
    layer y = subst Does (sym (fold-roll-Stmt Doing (step h site) (map-Stmt S Stmt of y))) (step_does y)

  module _ (h : Handle) (good : (job : Job) → Keeps (h job)) (site : Site) where
    exec_does : (s : Stmt) → Does (exec h site s)
    exec_does s = ind-Stmt (λ z. Does (exec h site z)) (λ x y is. subst (λ l. Does (exec h site (roll-Stmt l))) is (layer h good site (λ z. z.0) (λ z. z.1) y)) s

    all_do : (xs : List Stmt) → Does (in_order (map (exec h site) xs))
    all_do [] w locals p = p
    all_do (x ∷ xs) w locals p = followed_goes (exec h site x w locals) (in_order (map (exec h site) xs)) (exec_does x w locals p) (all_do xs)

    body_does : (b : Body) → Does (body_done h site b)
    body_does (body.Handler s) w locals p = exec_does s w locals p
    body_does (body.Method xs) w locals p = all_do xs w locals p

  ended_stays : (site : Site) (o : Flowing) → Goes o → Stays (ended_as site o)
  ended_stays site (Ok flow, s) p = p
  ended_stays site (Err (Fault fault), s) p = p
  ended_stays site (Err (Halted halt), s) p = p

  -- ---- handlers, however many may nest
  handle_keeps : (room : ℕ) (job : Job) → Keeps (handle room job)
  unfolding handle
  handle_keeps zero job w p = p
  handle_keeps (suc room) job w p = ended_stays job.site _ (body_does (handle room) (handle_keeps room) job.site job.body w job.locals p)

  -- ---- what the machine does
  ran_keeps : (o : Ending) → Stays o → P ((ran_of o).1).objects
  ran_keeps (Ok u, w) p = p
  ran_keeps (Err met, w) p = p

  unless_keeps : (run : World → Ending) (w : World) → P w.objects → Stays (run w) → P ((unless_dropped run w).1).objects
  unless_keeps run w p q = by w.dropped
    where
      by : (b : Bool) → P ((if b then (ran.Ended, w) else ran_of (run w)).1).objects
      by true = p
      by false = ran_keeps (run w) q

  pub reacts : (writes : List Place) (w : World) → P ((react_ran writes w).1).objects
  unfolding react_ran settled_by
  reacts writes w =
      unless_keeps (each (change_told top) (changes_of writes w.objects)) (settled_by writes w) (settles writes w.objects)
      (each_keeps (change_told top) (change_keeps top (handle_keeps 64)) (changes_of writes w.objects) (settled_by writes w) (settles writes w.objects))

  pub writes : (place : Place) (v : Value) (w : World) → P ((write_ran place v w).1).objects
  unfolding write_ran
  writes place v w = reacts (place ∷ []) (with_written place v w)

  pub emits : (of signal : ℕ) (args : List Value) (w : World) → P w.objects → P ((emit_ran of signal args w).1).objects
  unfolding emit_ran
  emits of signal args w p = unless_keeps (emitted top of signal args) w p (emitted_keeps top (handle_keeps 64) of signal args w p)

  pub completes : (of : ℕ) (w : World) → P w.objects → P ((complete_ran of w).1).objects
  unfolding complete_ran
  completes of w p = unless_keeps (handled top of handles_completion []) w p (handled_keeps top (handle_keeps 64) of handles_completion [] w p)

  job_stays : (job : Option Job) (w : World) → P w.objects → Stays (run_job job w)
  job_stays None w p = p
  job_stays (Some job) w p = handle_keeps 64 job w p

  pub executes : (h : HandlerRef) (args : List Value) (w : World) → P w.objects → P ((exec_ran h args w).1).objects
  unfolding exec_ran
  executes h args w p =
      let job = handler_job h.serial args w.objects (handler_at h.serial h.index w.objects) in
      unless_keeps (run_job job) w p (job_stays job w p)
