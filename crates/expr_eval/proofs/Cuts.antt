-- An evaluation over places of which some have no value yet goes as the one over all their values, up to
-- the first place that has none.
use Rattle.std.proofs.Common.{◌≡◌, ℕ, zero, suc, Bool, true, false, List, [], ◌∷◌, ◌++◌, map, refl, ap, sym, ◌∙◌, subst, arith, append_assoc, length}
use Rattle.std.specs.Prelude.{Option, None, Some, Result, Ok, Err, if◌then◌else◌, nat_lt, ◌==◌, ◌&&◌}
use Rattle.std.specs.List.{list_any}
use Rattle.std.proofs.lemmas.List.{append-nil}
use Rattle.std.proofs.lemmas.Bool.Decides.{nat_tests}
use Rattle.qml_ast.specs.declared.eval_fault.EvalFault.{EvalFault}
use Rattle.qml_ast.specs.declared.eval_fault.EvalFault.TheVariants.{WrongKind, TooMuch}
use Rattle.qml_ast.specs.declared.expr.BinOp.{BinOp}
use Rattle.qml_ast.specs.declared.expr.UnOp.{UnOp}
use Rattle.qml_ast.specs.declared.expr.Expr.{Expr, roll-Expr, map-Expr, fold-roll-Expr, ind-Expr}
use Rattle.qml_ast.specs.declared.expr.Expr.TheOpen.{Expr-F}
use Rattle.qml_ast.specs.declared.place.Place.{Place}
use Rattle.qml_ast.specs.declared.place.Side.{Side}
use Rattle.qml_ast.specs.declared.place.Side.TheVariants.{Set, Shown}
use Rattle.qml_ast.specs.declared.value.Value.{Value}
use Rattle.expr_eval.specs.Meanings.{Meanings, Function as Callable}
use Rattle.expr_eval.specs.Names.{local_named, bound}
use Rattle.expr_eval.specs.Needs.{every, AllClean, Begins, Cuts, value_and_reads, StopsAtFirstUnclean}
use Rattle.expr_eval.specs.Operators.{are_taken, arity, applied, binary_of, unary_of}
use Rattle.expr_eval.specs.Senses.{meaning, global_member, mouse_member, value_member}
use Rattle.expr_eval.specs.Traces.{are_same, are_same_sides, noted}
use Rattle.expr_eval.specs.Progress.{Stop, Fault, Asks, Evaluation, pure, fault, lifted, bind_to, bind, node, read}
use Rattle.expr_eval.specs.Evaluation.{Around, Visit, Bodies, as_value, value, values, is_value, member, named, function_call, method_call, call, prefixed, joined, either, chosen, visit, step, body, meant, answer_of, evaluated}
use Rattle.expr_eval.specs.declared.found.Frame.{Frame}
use Rattle.expr_eval.specs.declared.functions.Function.{Function as GlobalFunction}
use Rattle.expr_eval.specs.declared.locals.NamedLocal.{NamedLocal}
use Rattle.expr_eval.specs.declared.progress.Progress.{Progress}
use Rattle.expr_eval.specs.declared.sense.Sense.{Sense}
use Rattle.expr_eval.specs.declared.sense.Sense.TheVariants.{Is, At, Group, Method, Signal, Global, Function, Mouse}

-- Lists

begins_self : (xs : List Place) → Begins xs xs
begins_self xs = ([], sym (append-nil xs))

begins_on : (xs ys zs : List Place) → Begins xs ys → Begins ys zs → Begins xs zs
begins_on xs ys zs p q = (p.0 ++ q.0, q.1 ∙ (ap (λ l. l ++ q.0) p.1 ∙ append_assoc xs p.0 q.0))

begins_noted : (xs : List Place) (p : Place) → Begins xs (noted xs p)
begins_noted xs p = step (list_any (are_same p) xs) refl
  where
    step : (b : Bool) → list_any (are_same p) xs ≡ b → Begins xs (noted xs p)
    step true is = rw is (begins_self xs)
    step false is = rw is (p ∷ [], refl)

module _ (clean : Place → Bool) where
  clean_more : (xs : List Place) (p : Place) → AllClean clean xs → clean p ≡ true → AllClean clean (xs ++ p ∷ [])
  clean_more [] p all is = (is, tt)
  clean_more (x ∷ xs) p all is = (all.0, clean_more xs p all.1 is)

  clean_noted : (xs : List Place) (p : Place) → AllClean clean xs → clean p ≡ true → AllClean clean (noted xs p)
  clean_noted xs p all is = step (list_any (are_same p) xs) refl
    where
      step : (b : Bool) → list_any (are_same p) xs ≡ b → AllClean clean (noted xs p)
      step true same = rw same all
      step false same = rw same (clean_more xs p all is)

-- Places that are alike are one

number_same : (a b : ℕ) → (a == b) ≡ true → a ≡ b
number_same a b h = grind (arith, nat_tests)

side_same : (a b : Side) → are_same_sides a b ≡ true → a ≡ b
side_same Set Set h = refl
side_same Shown Shown h = refl
side_same Set Shown h = absurd cc
side_same Shown Set h = absurd cc

both_true : (a b : Bool) → (a && b) ≡ true → (a ≡ true) × (b ≡ true)
both_true true true h = (refl, refl)
both_true true false h = absurd cc
both_true false b h = absurd cc

place_same : (p q : Place) → are_same p q ≡ true → p ≡ q
place_same p q h =
    let first = both_true (p.serial == q.serial) ((p.slot == q.slot) && are_same_sides p.side q.side) h in
    let second = both_true (p.slot == q.slot) (are_same_sides p.side q.side) first.1 in
    same_fields p q (number_same p.serial q.serial first.0) (number_same p.slot q.slot second.0) (side_same p.side q.side second.1)
  where
    same_fields : (p q : Place) → p.serial ≡ q.serial → p.slot ≡ q.slot → p.side ≡ q.side → p ≡ q
    same_fields p q a b c = λ i. record { serial = a i; slot = b i; side = c i }

-- Evaluations that agree up to the first place that has no value yet

module _ (clean : Place → Bool) where
  unread : (xs : List Place) (p : Place) → AllClean clean xs → clean p ≡ false → list_any (are_same p) xs ≡ false
  unread [] p all is = refl
  unread (x ∷ xs) p all is = step (unread xs p all.1 is) (are_same p x) refl
    where
      step : list_any (are_same p) xs ≡ false → (b : Bool) → are_same p x ≡ b → list_any (are_same p) (x ∷ xs) ≡ false
      step rest true same = absurd (let impossible : true ≡ false = sym all.0 ∙ (ap clean (sym (place_same p x same)) ∙ is) in cc)
      step rest false same = rw (same, rest) refl

  abbrev Cut : {A : Type 0} → Result A Stop × Progress → Result A Stop × Progress → Type 0
  Cut (Ok x, s) whole = whole ≡ (Ok x, s)
  Cut (Err (Fault f), s) whole = whole ≡ (Err (Fault f), s)
  Cut (Err (Asks p), s) whole = (clean p ≡ false) × Begins (s.trace ++ p ∷ []) whole.1.trace

  record Sound {A : Type 0} (x y : Evaluation A) : Type 0 where
    cut : (s : Progress) → AllClean clean s.trace → Cut (x s) (y s)
    kept : (s : Progress) → AllClean clean s.trace → AllClean clean (x s).1.trace
    grows : (s : Progress) → Begins s.trace (y s).1.trace

  sound_pure : {A : Type 0} (a : A) → Sound (pure a) (pure a)
  sound_pure a = record { cut = λ s all. refl; kept = λ s all. all; grows = λ s. begins_self s.trace }

  sound_fault : {A : Type 0} (f : EvalFault) → Sound (fault {A = A} f) (fault {A = A} f)
  sound_fault f = record { cut = λ s all. refl; kept = λ s all. all; grows = λ s. begins_self s.trace }

  sound_lifted : {A : Type 0} (o : Result A EvalFault) → Sound (lifted o) (lifted o)
  sound_lifted (Ok a) = sound_pure a
  sound_lifted (Err f) = sound_fault f

  node_cut : (s : Progress) (b : Bool) → nat_lt s.nodes 100000 ≡ b → Cut (node s) (node s)
  node_cut s true is = rw is refl
  node_cut s false is = rw is refl

  node_kept : (s : Progress) (b : Bool) → nat_lt s.nodes 100000 ≡ b → AllClean clean s.trace → AllClean clean (node s).1.trace
  node_kept s true is all = rw is all
  node_kept s false is all = rw is all

  node_grows : (s : Progress) (b : Bool) → nat_lt s.nodes 100000 ≡ b → Begins s.trace (node s).1.trace
  node_grows s true is = rw is (begins_self s.trace)
  node_grows s false is = rw is (begins_self s.trace)

  sound_node : Sound node node
  sound_node = record { cut = λ s all. node_cut s _ refl; kept = λ s all. node_kept s _ refl all; grows = λ s. node_grows s _ refl }

  module _ {A B : Type 0} (k l : A → Evaluation B) (rest : (a : A) → Sound (k a) (l a)) where
    grows_to : (w : Result A Stop × Progress) → Begins w.1.trace (bind_to w l).1.trace
    grows_to (Ok a, t) = (rest a).grows t
    grows_to (Err e, t) = begins_self t.trace

    cut_to : (o w : Result A Stop × Progress) → Cut o w → AllClean clean o.1.trace → Cut (bind_to o k) (bind_to w l)
    cut_to (Ok a, t) w is all = rw is ((rest a).cut t all)
    cut_to (Err (Fault f), t) w is all = rw is refl
    cut_to (Err (Asks p), t) w is all = (is.0, begins_on (t.trace ++ p ∷ []) w.1.trace (bind_to w l).1.trace is.1 (grows_to w))

    kept_to : (o : Result A Stop × Progress) → AllClean clean o.1.trace → AllClean clean (bind_to o k).1.trace
    kept_to (Ok a, t) all = (rest a).kept t all
    kept_to (Err e, t) all = all

    sound_bind : (x y : Evaluation A) → Sound x y → Sound (bind x k) (bind y l)
    sound_bind x y first = record {
      cut = λ s all. cut_to (x s) (y s) (first.cut s all) (first.kept s all);
      kept = λ s all. kept_to (x s) (first.kept s all);
      grows = λ s. begins_on s.trace (y s).1.trace (bind y l s).1.trace (first.grows s) (grows_to (y s));
    }

  sound_if : {A : Type 0} (b c : Bool) (x y v w : Evaluation A) → b ≡ c → Sound x y → Sound v w → Sound (if b then x else v) (if c then y else w)
  sound_if true true x y v w is p q = p
  sound_if false false x y v w is p q = q
  sound_if true false x y v w is p q = absurd cc
  sound_if false true x y v w is p q = absurd cc

  module _ (means : Meanings) (settled : Place → Value) (same : (p : Place) → clean p ≡ true → means.read p ≡ settled p) where
    abbrev whole : Meanings
    whole = record means { read = settled }

    read_cut : (p : Place) (s : Progress) → AllClean clean s.trace → (b : Bool) → clean p ≡ b → Cut (read clean means p s) (read every whole p s)
    read_cut p s all true is = rw is (ap (λ (v : Value). (Ok v, record s { trace = noted s.trace p })) (sym (same p is)))
    read_cut p s all false is = rw is (is, rw (unread s.trace p all is) (begins_self (s.trace ++ p ∷ [])))

    read_kept : (p : Place) (s : Progress) → AllClean clean s.trace → (b : Bool) → clean p ≡ b → AllClean clean (read clean means p s).1.trace
    read_kept p s all true is = rw is (clean_noted clean s.trace p all is)
    read_kept p s all false is = rw is all

    sound_read : (p : Place) → Sound (read clean means p) (read every whole p)
    sound_read p = record { cut = λ s all. read_cut p s all _ refl; kept = λ s all. read_kept p s all _ refl; grows = λ s. begins_noted s.trace p }

    sound_as_value : (sense : Sense) → Sound (as_value clean means sense) (as_value every whole sense)
    sound_as_value (Is v) = sound_pure v
    sound_as_value (At p) = sound_read p
    sound_as_value (Group a b) = sound_fault WrongKind
    sound_as_value (Method a b) = sound_fault WrongKind
    sound_as_value (Signal a b) = sound_fault WrongKind
    sound_as_value (Global a) = sound_fault WrongKind
    sound_as_value (Function a) = sound_fault WrongKind
    sound_as_value (Mouse a b) = sound_fault WrongKind

    sound_value : (v w : Visit) (around : Around) → Sound (v around) (w around) → Sound (value clean means v around) (value every whole w around)
    sound_value v w around h = sound_bind (as_value clean means) (as_value every whole) sound_as_value (v around) (w around) h

    sound_is : (x y : Evaluation Value) → Sound x y → Sound (is_value x) (is_value y)
    sound_is x y h = sound_bind (λ a. pure (Is a)) (λ a. pure (Is a)) (λ a. sound_pure (Is a)) x y h

    sound_member : (name : List ℕ) (sense : Sense) → Sound (member clean means name sense) (member every whole name sense)
    sound_member name (Is v) = sound_lifted (value_member means v name)
    sound_member name (At p) = sound_bind (λ v. lifted (value_member means v name)) (λ v. lifted (value_member whole v name)) (λ v. sound_lifted (value_member means v name)) (read clean means p) (read every whole p) (sound_read p)
    sound_member name (Group a b) = sound_lifted (meaning (means.member a (Some b) name))
    sound_member name (Global a) = sound_lifted (global_member a name)
    sound_member name (Mouse a b) = sound_lifted (mouse_member a b name)
    sound_member name (Method a b) = sound_fault WrongKind
    sound_member name (Signal a b) = sound_fault WrongKind
    sound_member name (Function a) = sound_fault WrongKind

    module _ (bodies others : Bodies) (sound_bodies : (e : Expr) (around : Around) → Sound (bodies e around) (others e around)) (f g : Expr → Visit) where
      module _ {S : Type 0} (of : S → Expr) (each : (x : S) (around : Around) → Sound (f (of x) around) (g (of x) around)) where
        as_many : (xs : List S) → length (map f (map of xs)) ≡ length (map g (map of xs))
        as_many [] = refl
        as_many (x ∷ xs) = ap suc (as_many xs)

        sound_values : (done : List Value) (xs : List S) (around : Around) → Sound (values clean means done (map f (map of xs)) around) (values every whole done (map g (map of xs)) around)
        sound_values done [] around = sound_pure done
        sound_values done (x ∷ xs) around =
            sound_bind (λ a. values clean means (done ++ a ∷ []) (map f (map of xs)) around) (λ a. values every whole (done ++ a ∷ []) (map g (map of xs)) around)
            (λ a. sound_values (done ++ a ∷ []) xs around) (value clean means (f (of x)) around) (value every whole (g (of x)) around) (sound_value (f (of x)) (g (of x)) around (each x around))

        sound_function_call : (function : GlobalFunction) (xs : List S) (around : Around) → Sound (function_call clean means function (map f (map of xs)) around) (function_call every whole function (map g (map of xs)) around)
        sound_function_call function xs around =
            sound_if _ _ _ _ _ _ (ap (are_taken (arity function)) (as_many xs))
            (sound_bind (λ vs. lifted (applied function vs)) (λ vs. lifted (applied function vs)) (λ vs. sound_lifted (applied function vs)) _ _ (sound_values [] xs around)) (sound_fault WrongKind)

        sound_method_call : (method : Option Callable) (xs : List S) (around : Around) → Sound (method_call clean means bodies method (map f (map of xs)) around) (method_call every whole others method (map g (map of xs)) around)
        sound_method_call None xs around = sound_fault WrongKind
        sound_method_call (Some method) xs around =
            sound_if _ _ _ _ _ _ (ap (λ n. n == length method.params) (as_many xs))
            (sound_bind (λ vs. bodies method.body (method.frame, bound method.params vs)) (λ vs. others method.body (method.frame, bound method.params vs)) (λ vs. sound_bodies method.body (method.frame, bound method.params vs)) _ _ (sound_values [] xs around)) (sound_fault WrongKind)

        sound_call : (sense : Sense) (xs : List S) (around : Around) → Sound (call clean means bodies (map f (map of xs)) around sense) (call every whole others (map g (map of xs)) around sense)
        sound_call (Function function) xs around = sound_function_call function xs around
        sound_call (Method serial method) xs around = sound_method_call (means.method serial method) xs around
        sound_call (Is v) xs around = sound_fault WrongKind
        sound_call (At p) xs around = sound_fault WrongKind
        sound_call (Group a b) xs around = sound_fault WrongKind
        sound_call (Signal a b) xs around = sound_fault WrongKind
        sound_call (Global a) xs around = sound_fault WrongKind
        sound_call (Mouse a b) xs around = sound_fault WrongKind

        sound_either : (deciding : Bool) (x y : S) (around : Around) → Sound (either clean means deciding (f (of x)) (f (of y)) around) (either every whole deciding (g (of x)) (g (of y)) around)
        sound_either deciding x y around =
            sound_bind _ _ (λ a. sound_if _ _ _ _ _ _ refl (sound_pure (Is a)) (sound_is _ _ (sound_value (f (of y)) (g (of y)) around (each y around)))) _ _ (sound_value (f (of x)) (g (of x)) around (each x around))

        sound_chosen : (c x y : S) (around : Around) → Sound (chosen clean means (f (of c)) (f (of x)) (f (of y)) around) (chosen every whole (g (of c)) (g (of x)) (g (of y)) around)
        sound_chosen c x y around =
            sound_bind _ _ (λ a. sound_if _ _ _ _ _ _ refl (sound_is _ _ (sound_value (f (of x)) (g (of x)) around (each x around))) (sound_is _ _ (sound_value (f (of y)) (g (of y)) around (each y around)))) _ _ (sound_value (f (of c)) (g (of c)) around (each c around))

        sound_joined : (operator : BinOp) (x y : S) (around : Around) → Sound (joined clean means operator (f (of x)) (f (of y)) around) (joined every whole operator (g (of x)) (g (of y)) around)
        sound_joined operator x y around =
            sound_is _ _ (sound_bind _ _ (λ a. sound_bind _ _ (λ b. sound_lifted (binary_of operator a b)) _ _ (sound_value (f (of y)) (g (of y)) around (each y around))) _ _ (sound_value (f (of x)) (g (of x)) around (each x around)))

        sound_prefixed : (operator : UnOp) (x : S) (around : Around) → Sound (prefixed clean means operator (f (of x)) around) (prefixed every whole operator (g (of x)) around)
        sound_prefixed operator x around =
            sound_is _ _ (sound_bind _ _ (λ a. sound_lifted (unary_of operator a)) _ _ (sound_value (f (of x)) (g (of x)) around (each x around)))

        sound_visit : (y : Expr-F S) (around : Around) → Sound (visit clean means bodies (map-Expr Expr Visit f (map-Expr S Expr of y)) around) (visit every whole others (map-Expr Expr Visit g (map-Expr S Expr of y)) around)
        sound_visit (Expr-F.Lit v) around = sound_pure (Is v)
        sound_visit (Expr-F.Name name) around = sound_lifted (named clean means (local_named name around.1) around.0 name)
        sound_visit (Expr-F.Member x name) around = sound_bind (member clean means name) (member every whole name) (sound_member name) (f (of x) around) (g (of x) around) (each x around)
        sound_visit (Expr-F.Call callee xs) around =
            sound_bind _ _ (λ sense. sound_is _ _ (sound_call sense xs around)) (f (of callee) around) (g (of callee) around) (each callee around)
        sound_visit (Expr-F.Unary operator x) around = sound_prefixed operator x around
        sound_visit (Expr-F.Binary operator x y) around = sound_joined operator x y around
        sound_visit (Expr-F.And x y) around = sound_either false x y around
        sound_visit (Expr-F.Or x y) around = sound_either true x y around
        sound_visit (Expr-F.Cond c x y) around = sound_chosen c x y around

        sound_step : (y : Expr-F S) (around : Around) → Sound (step clean means bodies (map-Expr Expr Visit f (map-Expr S Expr of y)) around) (step every whole others (map-Expr Expr Visit g (map-Expr S Expr of y)) around)
        sound_step y around = sound_bind _ _ (λ u. sound_visit y around) node node sound_node

    abbrev Agrees : ℕ → Expr → Type 0
    Agrees calls e = (around : Around) → Sound (meant clean means calls e around) (meant every whole calls e around)

    module _ (calls : ℕ) (sound_bodies : (e : Expr) (around : Around) → Sound (body clean means calls e around) (body every whole calls e around)) where
      layer : {S : Type 0} (of : S → Expr) (each : (x : S) → Agrees calls (of x)) (y : Expr-F S) → Agrees calls (roll-Expr (map-Expr S Expr of y))
      layer {S} of each y around =
          let left = fold-roll-Expr Visit (step clean means (body clean means calls)) (map-Expr S Expr of y) in
          let right = fold-roll-Expr Visit (step every whole (body every whole calls)) (map-Expr S Expr of y) in
          let core = sound_step (body clean means calls) (body every whole calls) sound_bodies (meant clean means calls) (meant every whole calls) of each y around in
          subst (λ (v : Visit). Sound (v around) (meant every whole calls (roll-Expr (map-Expr S Expr of y)) around)) (sym left)
          (subst (λ (w : Visit). Sound (step clean means (body clean means calls) (map-Expr Expr Visit (meant clean means calls) (map-Expr S Expr of y)) around) (w around)) (sym right) core)

      agrees : (e : Expr) → Agrees calls e
      agrees e = ind-Expr (Agrees calls) (λ x y is. subst (λ l. Agrees calls (roll-Expr l)) is (layer (λ z. z.0) (λ z. z.1) y)) e

    bodies_agree : (calls : ℕ) (e : Expr) (around : Around) → Sound (body clean means calls e around) (body every whole calls e around)
    unfolding body
    bodies_agree zero e around = sound_fault TooMuch
    bodies_agree (suc calls) e around = sound_value (meant clean means calls e) (meant every whole calls e) around (agrees calls (bodies_agree calls) e around)

    cut_answer : (o w : Result Value Stop × Progress) → Cut o w → Cuts clean (answer_of o) (answer_of w)
    cut_answer (Ok v, s) w is = rw is refl
    cut_answer (Err (Fault f), s) w is = rw is refl
    cut_answer (Err (Asks p), s) w is = (is.0, rw (trace_of w) is.1)
      where
        trace_of : (w : Result Value Stop × Progress) → (answer_of w).1 ≡ w.1.trace
        trace_of (Ok v, s) = refl
        trace_of (Err (Fault f), s) = refl
        trace_of (Err (Asks p), s) = refl

    kept_answer : (o : Result Value Stop × Progress) → AllClean clean o.1.trace → AllClean clean (answer_of o).1
    kept_answer (Ok v, s) all = all
    kept_answer (Err (Fault f), s) all = all
    kept_answer (Err (Asks p), s) all = all

    agree : (e : Expr) (frame : Frame) (locals : List NamedLocal) → Cuts clean (evaluated clean means e frame locals []) (value_and_reads whole e frame locals) × AllClean clean (evaluated clean means e frame locals []).1
    agree e frame locals =
        let both = sound_value (meant clean means 64 e) (meant every whole 64 e) (frame, locals) (agrees 64 (bodies_agree 64) e (frame, locals)) in
        let start : Progress = record { nodes = 0; trace = [] } in (
          cut_answer (value clean means (meant clean means 64 e) (frame, locals) start) (value every whole (meant every whole 64 e) (frame, locals) start) (both.cut start tt),
          kept_answer (value clean means (meant clean means 64 e) (frame, locals) start) (both.kept start tt),
        )

-- an evaluation stops at the first read place that has no value yet
pub stops_at_first_unclean : (clean : Place → Bool) (means : Meanings) (settled : Place → Value) (e : Expr) (frame : Frame) (locals : List NamedLocal) → StopsAtFirstUnclean clean means settled e frame locals
stops_at_first_unclean clean means settled e frame locals same = agree clean means settled same e frame locals
