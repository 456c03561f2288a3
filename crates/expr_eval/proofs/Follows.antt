-- A walk through the tree of an expression follows its evaluation.
use Rattle.std.proofs.Common.{◌≡◌, ℕ, zero, suc, Bool, true, false, List, [], ◌∷◌, ◌++◌, map, refl, ap, sym, ◌∙◌, subst, length}
use Rattle.std.specs.Prelude.{Option, None, Some, Result, Ok, Err, if◌then◌else◌, nat_lt, ◌==◌}
use Rattle.qml_ast.specs.declared.eval_fault.EvalFault.{EvalFault}
use Rattle.qml_ast.specs.declared.eval_fault.EvalFault.TheVariants.{WrongKind, TooMuch}
use Rattle.qml_ast.specs.declared.expr.BinOp.{BinOp}
use Rattle.qml_ast.specs.declared.expr.UnOp.{UnOp}
use Rattle.qml_ast.specs.declared.expr.Expr.{Expr, roll-Expr, map-Expr, fold-roll-Expr, ind-Expr}
use Rattle.qml_ast.specs.declared.expr.Expr.TheOpen.{Expr-F}
use Rattle.qml_ast.specs.declared.place.Place.{Place}
use Rattle.qml_ast.specs.declared.value.Value.{Value}
use Rattle.expr_eval.specs.Meanings.{Meanings, Function as Callable}
use Rattle.expr_eval.specs.Names.{local_named, bound}
use Rattle.expr_eval.specs.Needs.{every}
use Rattle.expr_eval.specs.Operators.{are_taken, arity, applied, binary_of, unary_of}
use Rattle.expr_eval.specs.Senses.{meaning, global_member, mouse_member, value_member}
use Rattle.expr_eval.specs.Progress as eval
use Rattle.expr_eval.specs.Progress.{Stop, Fault, Asks, Evaluation, bind_to}
use Rattle.expr_eval.specs.Evaluation as eval_of
use Rattle.expr_eval.specs.Evaluation.{Around, answer_of, evaluated}
use Rattle.expr_eval.specs.declared.answer.Eval.{Eval}
use Rattle.expr_eval.specs.declared.answer.Eval.TheVariants as said
use Rattle.expr_eval.specs.declared.found.Frame.{Frame}
use Rattle.expr_eval.specs.declared.functions.Function.{Function as GlobalFunction}
use Rattle.expr_eval.specs.declared.locals.NamedLocal.{NamedLocal}
use Rattle.expr_eval.specs.declared.progress.Progress.{Progress}
use Rattle.expr_eval.specs.declared.sense.Sense.{Sense}
use Rattle.expr_eval.specs.declared.sense.Sense.TheVariants.{Is, At, Group, Method, Signal, Global, Function, Mouse}
use Rattle.settling.specs.Evaluations.{Outcome, has_value, has_fault, has_need}
use Rattle.settling.specs.Runs.{gives, faults, asks, answer, reads}
use Rattle.expr_eval.specs.Shapes.{Shape, meanings}
use Rattle.expr_eval.specs.Trees as tree
use Rattle.expr_eval.specs.Trees.{Tree, Growing}
use Rattle.expr_eval.specs.Walks.{seen_in, walked, passed, all_noted, comes_to, notes, WalksAsEvaluated, ends_as, reads_then, AnswersAsEvaluated}

module _ (clean : Place → Bool) (shape : Shape) (values : Place → Value) where
  abbrev seen : Place → Option Value
  seen = seen_in clean values

  abbrev means : Meanings
  means = meanings shape values

  abbrev comes : {A : Type 0} → Result A Stop × Progress → (A → ℕ → Tree) → Outcome Place Value EvalFault
  comes (Ok a, t) go = walked seen (go a t.nodes)
  comes (Err (Fault f), t) go = has_fault f
  comes (Err (Asks p), t) go = has_need p

  abbrev traced : {A : Type 0} → Result A Stop × Progress → (A → ℕ → Tree) → List Place
  traced (Ok a, t) go = all_noted t.trace (passed seen (go a t.nodes))
  traced (Err e, t) go = t.trace

  record Follows {A : Type 0} (x : Evaluation A) (g : Growing A) : Type 0 where
    outcome : (s : Progress) (go : A → ℕ → Tree) → walked seen (g s.nodes go) ≡ comes (x s) go
    trace : (s : Progress) (go : A → ℕ → Tree) → all_noted s.trace (passed seen (g s.nodes go)) ≡ traced (x s) go

  follows_pure : {A : Type 0} (a : A) → Follows (eval.pure a) (tree.pure a)
  follows_pure a = record { outcome = λ s go. refl; trace = λ s go. refl }

  follows_fault : {A : Type 0} (f : EvalFault) → Follows (eval.fault {A = A} f) (tree.fault {A = A} f)
  follows_fault f = record { outcome = λ s go. refl; trace = λ s go. refl }

  follows_lifted : {A : Type 0} (o : Result A EvalFault) → Follows (eval.lifted o) (tree.lifted o)
  follows_lifted (Ok a) = follows_pure a
  follows_lifted (Err f) = follows_fault f

  node_outcome : (s : Progress) (go : Unit {0} → ℕ → Tree) (b : Bool) → nat_lt s.nodes 100000 ≡ b → walked seen (tree.node s.nodes go) ≡ comes (eval.node s) go
  node_outcome s go true is = rw is refl
  node_outcome s go false is = rw is refl

  node_trace : (s : Progress) (go : Unit {0} → ℕ → Tree) (b : Bool) → nat_lt s.nodes 100000 ≡ b → all_noted s.trace (passed seen (tree.node s.nodes go)) ≡ traced (eval.node s) go
  node_trace s go true is = rw is refl
  node_trace s go false is = rw is refl

  follows_node : Follows eval.node tree.node
  follows_node = record { outcome = λ s go. node_outcome s go _ refl; trace = λ s go. node_trace s go _ refl }

  module _ {A B : Type 0} (k : A → Evaluation B) (l : A → Growing B) (rest : (a : A) → Follows (k a) (l a)) where
    comes_on : (o : Result A Stop × Progress) (go : B → ℕ → Tree) → comes o (λ a n. l a n go) ≡ comes (bind_to o k) go
    comes_on (Ok a, t) go = (rest a).outcome t go
    comes_on (Err (Fault f), t) go = refl
    comes_on (Err (Asks p), t) go = refl

    traced_on : (o : Result A Stop × Progress) (go : B → ℕ → Tree) → traced o (λ a n. l a n go) ≡ traced (bind_to o k) go
    traced_on (Ok a, t) go = (rest a).trace t go
    traced_on (Err e, t) go = refl

    follows_bind : (x : Evaluation A) (g : Growing A) → Follows x g → Follows (eval.bind x k) (tree.bind g l)
    follows_bind x g first = record {
      outcome = λ s go. first.outcome s (λ a n. l a n go) ∙ comes_on (x s) go;
      trace = λ s go. first.trace s (λ a n. l a n go) ∙ traced_on (x s) go;
    }

  follows_if : {A : Type 0} (b c : Bool) (x y : Evaluation A) (g h : Growing A) → b ≡ c → Follows x g → Follows y h → Follows (if b then x else y) (if c then g else h)
  follows_if true true x y g h is p q = p
  follows_if false false x y g h is p q = q
  follows_if true false x y g h is p q = absurd cc
  follows_if false true x y g h is p q = absurd cc

  read_outcome : (p : Place) (s : Progress) (go : Value → ℕ → Tree) (b : Bool) → clean p ≡ b → walked seen (tree.read shape p s.nodes go) ≡ comes (eval.read clean means p s) go
  read_outcome p s go true is = rw is refl
  read_outcome p s go false is = rw is refl

  read_trace : (p : Place) (s : Progress) (go : Value → ℕ → Tree) (b : Bool) → clean p ≡ b → all_noted s.trace (passed seen (tree.read shape p s.nodes go)) ≡ traced (eval.read clean means p s) go
  read_trace p s go true is = rw is refl
  read_trace p s go false is = rw is refl

  follows_read : (p : Place) → Follows (eval.read clean means p) (tree.read shape p)
  follows_read p = record { outcome = λ s go. read_outcome p s go _ refl; trace = λ s go. read_trace p s go _ refl }

  follows_as_value : (sense : Sense) → Follows (eval_of.as_value clean means sense) (tree.as_value shape sense)
  follows_as_value (Is v) = follows_pure v
  follows_as_value (At p) = follows_read p
  follows_as_value (Group a b) = follows_fault WrongKind
  follows_as_value (Method a b) = follows_fault WrongKind
  follows_as_value (Signal a b) = follows_fault WrongKind
  follows_as_value (Global a) = follows_fault WrongKind
  follows_as_value (Function a) = follows_fault WrongKind
  follows_as_value (Mouse a b) = follows_fault WrongKind

  follows_value : (v : eval_of.Visit) (w : tree.Visit) (around : Around) → Follows (v around) (w around) → Follows (eval_of.value clean means v around) (tree.value shape w around)
  follows_value v w around h = follows_bind (eval_of.as_value clean means) (tree.as_value shape) follows_as_value (v around) (w around) h

  follows_is : (x : Evaluation Value) (g : Growing Value) → Follows x g → Follows (eval_of.is_value x) (tree.is_value g)
  follows_is x g h = follows_bind (λ a. eval.pure (Is a)) (λ a. tree.pure (Is a)) (λ a. follows_pure (Is a)) x g h

  follows_member : (name : List ℕ) (sense : Sense) → Follows (eval_of.member clean means name sense) (tree.member shape name sense)
  follows_member name (Is v) = follows_lifted (value_member means v name)
  follows_member name (At p) = follows_bind (λ v. eval.lifted (value_member means v name)) (λ v. tree.lifted (value_member means v name)) (λ v. follows_lifted (value_member means v name)) (eval.read clean means p) (tree.read shape p) (follows_read p)
  follows_member name (Group a b) = follows_lifted (meaning (shape.member a (Some b) name))
  follows_member name (Global a) = follows_lifted (global_member a name)
  follows_member name (Mouse x y) = follows_lifted (mouse_member x y name)
  follows_member name (Method a b) = follows_fault WrongKind
  follows_member name (Signal a b) = follows_fault WrongKind
  follows_member name (Function a) = follows_fault WrongKind

  module _ (bodies : eval_of.Bodies) (others : tree.Bodies) (same_bodies : (e : Expr) (around : Around) → Follows (bodies e around) (others e around)) (f : Expr → eval_of.Visit) (g : Expr → tree.Visit) where
    module _ {S : Type 0} (of : S → Expr) (each : (x : S) (around : Around) → Follows (f (of x) around) (g (of x) around)) where
      as_many : (xs : List S) → length (map f (map of xs)) ≡ length (map g (map of xs))
      as_many [] = refl
      as_many (x ∷ xs) = ap suc (as_many xs)

      follows_values : (done : List Value) (xs : List S) (around : Around) → Follows (eval_of.values clean means done (map f (map of xs)) around) (tree.values shape done (map g (map of xs)) around)
      follows_values done [] around = follows_pure done
      follows_values done (x ∷ xs) around =
          follows_bind (λ a. eval_of.values clean means (done ++ a ∷ []) (map f (map of xs)) around) (λ a. tree.values shape (done ++ a ∷ []) (map g (map of xs)) around)
          (λ a. follows_values (done ++ a ∷ []) xs around) (eval_of.value clean means (f (of x)) around) (tree.value shape (g (of x)) around) (follows_value (f (of x)) (g (of x)) around (each x around))

      follows_function_call : (function : GlobalFunction) (xs : List S) (around : Around) → Follows (eval_of.function_call clean means function (map f (map of xs)) around) (tree.function_call shape function (map g (map of xs)) around)
      follows_function_call function xs around =
          follows_if _ _ _ _ _ _ (ap (are_taken (arity function)) (as_many xs))
          (follows_bind (λ vs. eval.lifted (applied function vs)) (λ vs. tree.lifted (applied function vs)) (λ vs. follows_lifted (applied function vs)) _ _ (follows_values [] xs around)) (follows_fault WrongKind)

      follows_method_call : (method : Option Callable) (xs : List S) (around : Around) → Follows (eval_of.method_call clean means bodies method (map f (map of xs)) around) (tree.method_call shape others method (map g (map of xs)) around)
      follows_method_call None xs around = follows_fault WrongKind
      follows_method_call (Some method) xs around =
          follows_if _ _ _ _ _ _ (ap (λ n. n == length method.params) (as_many xs))
          (follows_bind (λ vs. bodies method.body (method.frame, bound method.params vs)) (λ vs. others method.body (method.frame, bound method.params vs)) (λ vs. same_bodies method.body (method.frame, bound method.params vs)) _ _ (follows_values [] xs around)) (follows_fault WrongKind)

      follows_call : (sense : Sense) (xs : List S) (around : Around) → Follows (eval_of.call clean means bodies (map f (map of xs)) around sense) (tree.call shape others (map g (map of xs)) around sense)
      follows_call (Function function) xs around = follows_function_call function xs around
      follows_call (Method serial method) xs around = follows_method_call (shape.method serial method) xs around
      follows_call (Is v) xs around = follows_fault WrongKind
      follows_call (At p) xs around = follows_fault WrongKind
      follows_call (Group a b) xs around = follows_fault WrongKind
      follows_call (Signal a b) xs around = follows_fault WrongKind
      follows_call (Global a) xs around = follows_fault WrongKind
      follows_call (Mouse a b) xs around = follows_fault WrongKind

      follows_either : (deciding : Bool) (x y : S) (around : Around) → Follows (eval_of.either clean means deciding (f (of x)) (f (of y)) around) (tree.either shape deciding (g (of x)) (g (of y)) around)
      follows_either deciding x y around =
          follows_bind _ _ (λ a. follows_if _ _ _ _ _ _ refl (follows_pure (Is a)) (follows_is _ _ (follows_value (f (of y)) (g (of y)) around (each y around)))) _ _ (follows_value (f (of x)) (g (of x)) around (each x around))

      follows_chosen : (c x y : S) (around : Around) → Follows (eval_of.chosen clean means (f (of c)) (f (of x)) (f (of y)) around) (tree.chosen shape (g (of c)) (g (of x)) (g (of y)) around)
      follows_chosen c x y around =
          follows_bind _ _ (λ a. follows_if _ _ _ _ _ _ refl (follows_is _ _ (follows_value (f (of x)) (g (of x)) around (each x around))) (follows_is _ _ (follows_value (f (of y)) (g (of y)) around (each y around)))) _ _ (follows_value (f (of c)) (g (of c)) around (each c around))

      follows_joined : (operator : BinOp) (x y : S) (around : Around) → Follows (eval_of.joined clean means operator (f (of x)) (f (of y)) around) (tree.joined shape operator (g (of x)) (g (of y)) around)
      follows_joined operator x y around =
          follows_is _ _ (follows_bind _ _ (λ a. follows_bind _ _ (λ b. follows_lifted (binary_of operator a b)) _ _ (follows_value (f (of y)) (g (of y)) around (each y around))) _ _ (follows_value (f (of x)) (g (of x)) around (each x around)))

      follows_prefixed : (operator : UnOp) (x : S) (around : Around) → Follows (eval_of.prefixed clean means operator (f (of x)) around) (tree.prefixed shape operator (g (of x)) around)
      follows_prefixed operator x around =
          follows_is _ _ (follows_bind _ _ (λ a. follows_lifted (unary_of operator a)) _ _ (follows_value (f (of x)) (g (of x)) around (each x around)))

      follows_visit : (y : Expr-F S) (around : Around) → Follows (eval_of.visit clean means bodies (map-Expr Expr eval_of.Visit f (map-Expr S Expr of y)) around) (tree.visit shape others (map-Expr Expr tree.Visit g (map-Expr S Expr of y)) around)
      follows_visit (Expr-F.Lit v) around = follows_pure (Is v)
      follows_visit (Expr-F.Name name) around = follows_lifted (eval_of.named clean means (local_named name around.1) around.0 name)
      follows_visit (Expr-F.Member x name) around = follows_bind (eval_of.member clean means name) (tree.member shape name) (follows_member name) (f (of x) around) (g (of x) around) (each x around)
      follows_visit (Expr-F.Call callee xs) around =
          follows_bind _ _ (λ sense. follows_is _ _ (follows_call sense xs around)) (f (of callee) around) (g (of callee) around) (each callee around)
      follows_visit (Expr-F.Unary operator x) around = follows_prefixed operator x around
      follows_visit (Expr-F.Binary operator x y) around = follows_joined operator x y around
      follows_visit (Expr-F.And x y) around = follows_either false x y around
      follows_visit (Expr-F.Or x y) around = follows_either true x y around
      follows_visit (Expr-F.Cond c x y) around = follows_chosen c x y around

      follows_step : (y : Expr-F S) (around : Around) → Follows (eval_of.step clean means bodies (map-Expr Expr eval_of.Visit f (map-Expr S Expr of y)) around) (tree.step shape others (map-Expr Expr tree.Visit g (map-Expr S Expr of y)) around)
      follows_step y around = follows_bind _ _ (λ u. follows_visit y around) eval.node tree.node follows_node

  abbrev Agrees : ℕ → Expr → Type 0
  Agrees calls e = (around : Around) → Follows (eval_of.meant clean means calls e around) (tree.meant shape calls e around)

  module _ (calls : ℕ) (same_bodies : (e : Expr) (around : Around) → Follows (eval_of.body clean means calls e around) (tree.body shape calls e around)) where
    layer : {S : Type 0} (of : S → Expr) (each : (x : S) → Agrees calls (of x)) (y : Expr-F S) → Agrees calls (roll-Expr (map-Expr S Expr of y))
    layer {S} of each y around =
        let left = fold-roll-Expr eval_of.Visit (eval_of.step clean means (eval_of.body clean means calls)) (map-Expr S Expr of y) in
        let right = fold-roll-Expr tree.Visit (tree.step shape (tree.body shape calls)) (map-Expr S Expr of y) in
        let core = follows_step (eval_of.body clean means calls) (tree.body shape calls) same_bodies (eval_of.meant clean means calls) (tree.meant shape calls) of each y around in
        subst (λ (v : eval_of.Visit). Follows (v around) (tree.meant shape calls (roll-Expr (map-Expr S Expr of y)) around)) (sym left)
        (subst (λ (w : tree.Visit). Follows (eval_of.step clean means (eval_of.body clean means calls) (map-Expr Expr eval_of.Visit (eval_of.meant clean means calls) (map-Expr S Expr of y)) around) (w around)) (sym right) core)

    agrees : (e : Expr) → Agrees calls e
    agrees e = ind-Expr (Agrees calls) (λ x y is. subst (λ l. Agrees calls (roll-Expr l)) is (layer (λ z. z.0) (λ z. z.1) y)) e

  bodies_agree : (calls : ℕ) (e : Expr) (around : Around) → Follows (eval_of.body clean means calls e around) (tree.body shape calls e around)
  unfolding eval_of.body tree.body
  bodies_agree zero e around = follows_fault TooMuch
  bodies_agree (suc calls) e around = follows_value (eval_of.meant clean means calls e) (tree.meant shape calls e) around (agrees calls (bodies_agree calls) e around)

  comes_as : (o : Result Value Stop × Progress) (go : Value → Tree) → comes o (λ v n. go v) ≡ comes_to seen go (answer_of o).0
  comes_as (Ok v, s) go = refl
  comes_as (Err (Fault f), s) go = refl
  comes_as (Err (Asks p), s) go = refl

  traced_as : (o : Result Value Stop × Progress) (go : Value → Tree) → traced o (λ v n. go v) ≡ notes seen go (answer_of o)
  traced_as (Ok v, s) go = refl
  traced_as (Err (Fault f), s) go = refl
  traced_as (Err (Asks p), s) go = refl

  -- a walk through an expression's tree comes to what its evaluation comes to, and passes what it notes
  pub walks : (e : Expr) (frame : Frame) (locals : List NamedLocal) (go : Value → Tree) → WalksAsEvaluated clean shape values e frame locals go
  unfolding tree.tree
  walks e frame locals go =
      let both = follows_value (eval_of.meant clean means 64 e) (tree.meant shape 64 e) (frame, locals) (agrees 64 (bodies_agree 64) e (frame, locals)) in
      let start : Progress = record { nodes = 0; trace = [] } in
      let ended : Result Value Stop × Progress = eval_of.value clean means (eval_of.meant clean means 64 e) (frame, locals) start in
      record {
        outcome = both.outcome start (λ v n. go v) ∙ comes_as ended go;
        trace = both.trace start (λ v n. go v) ∙ traced_as ended go;
      }

-- Where each place has its value

module _ (values : Place → Value) where
  abbrev all : Place → Option Value
  all p = Some (values p)

  abbrev outcome_of : Result Value EvalFault → Outcome Place Value EvalFault
  outcome_of (Ok v) = has_value v
  outcome_of (Err f) = has_fault f

  -- the trees in a walk's answers and reads
  walked_all : (r : Tree) → walked all r ≡ outcome_of (answer r values)
  walked_all (gives v) = refl
  walked_all (faults f) = refl
  walked_all (asks q next) = walked_all (next (values q))

  passed_all : (r : Tree) → passed all r ≡ reads r values
  passed_all (gives v) = refl
  passed_all (faults f) = refl
  passed_all (asks q next) = ap (λ qs. q ∷ qs) (passed_all (next (values q)))

  same_result : (a b : Result Value EvalFault) → outcome_of a ≡ outcome_of b → a ≡ b
  same_result (Ok v) (Ok w) h = cc
  same_result (Err f) (Err g) h = cc
  same_result (Ok v) (Err g) h = absurd cc
  same_result (Err f) (Ok w) h = absurd cc

  same_fault : (a : Result Value EvalFault) (f : EvalFault) → outcome_of a ≡ has_fault f → a ≡ Err f
  same_fault (Ok v) f h = absurd cc
  same_fault (Err g) f h = cc

  no_need : (a : Result Value EvalFault) (p : Place) → outcome_of a ≡ has_need p → ⊥
  no_need (Ok v) p h = cc
  no_need (Err g) p h = cc

  ends_so : (r : Tree) (go : Value → Tree) (e : Eval) → walked all r ≡ comes_to all go e → ends_as values go e (answer r values)
  ends_so r go (said.Is v) h = same_result (answer r values) (answer (go v) values) (sym (walked_all r) ∙ h ∙ walked_all (go v))
  ends_so r go (said.Faulted f) h = same_fault (answer r values) f (sym (walked_all r) ∙ h)
  ends_so r go (said.Needs p) h = no_need (answer r values) p (sym (walked_all r) ∙ h)

  notes_so : (go : Value → Tree) (e : Eval) (trace : List Place) → notes all go (e, trace) ≡ reads_then values go (e, trace)
  notes_so go (said.Is v) trace = ap (all_noted trace) (passed_all (go v))
  notes_so go (said.Faulted f) trace = refl
  notes_so go (said.Needs p) trace = refl

-- the answer of an expression's tree, and its reads, are the expression's
pub answers : (shape : Shape) (values : Place → Value) (e : Expr) (frame : Frame) (locals : List NamedLocal) (go : Value → Tree) → AnswersAsEvaluated shape values e frame locals go
answers shape values e frame locals go =
    let whole = walks every shape values e frame locals go in
    let ended : Eval × List Place = evaluated every (meanings shape values) e frame locals [] in
    record {
      answers = ends_so values (tree.tree shape e frame locals go) go ended.0 whole.outcome;
      reads = ap (all_noted []) (sym (passed_all values (tree.tree shape e frame locals go))) ∙ whole.trace ∙ notes_so values go ended.0 ended.1;
    }
