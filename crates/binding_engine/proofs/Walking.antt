-- What comes of the expression of a bound place.
use Rattle.std.proofs.Common.{◌≡◌, Bool, List, [], refl, sym, ap, ◌∙◌}
use Rattle.std.specs.Prelude.{Option, None, Some, is_some}
use Rattle.qml_ast.specs.declared.expr.Expr.{Expr}
use Rattle.qml_ast.specs.declared.place.Place.{Place}
use Rattle.qml_ast.specs.declared.place.Side.TheVariants.{Set}
use Rattle.qml_ast.specs.declared.value.Value.{Value}
use Rattle.expr_eval.specs.Evaluation.{evaluated}
use Rattle.expr_eval.specs.Shapes.{meanings}
use Rattle.expr_eval.specs.Trees.{Tree, tree}
use Rattle.expr_eval.specs.Walks.{seen_in, walked, comes_to}
use Rattle.expr_eval.specs.declared.answer.Eval.{Eval}
use Rattle.expr_eval.specs.declared.answer.Eval.TheVariants as answer
use Rattle.expr_eval.specs.declared.locals.NamedLocal.{NamedLocal}
use Rattle.expr_eval.proofs.Follows.{walks}
use Rattle.settling.specs.Cells.{Cell, plain, resting, fresh, under_way, stopped, active, marked, suspended, clean, value_of}
use Rattle.settling.specs.Evaluations.{Outcome, has_fault, has_need, wanted, walk}
use Rattle.settling.specs.Runs.{gives, faults, asks}
use Rattle.qml_ast.specs.declared.eval_fault.EvalFault.{EvalFault}
use Rattle.object_tree.specs.declared.property.Binding.{Binding}
use Rattle.object_tree.specs.Reading.{info_at}
use Rattle.object_tree.specs.Store.{Store}
use Rattle.binding_engine.specs.Entries.{State, at, space, told}
use Rattle.binding_engine.specs.Equations.{shape_of, given, taken_in, bound_tree}

abbrev pub is_clean : State → Place → Bool
is_clean s p = is_some (clean (at s p))

abbrev pub value_in : State → Place → Value
value_in s p = value_of (at s p)

module _ (s : State) where
  wanted_as : {A : Type 0} (c : Cell Value EvalFault) (otherwise : A) (go walk : Value → A) → ((v : Value) → go v ≡ walk v) →
      wanted (clean c) otherwise go ≡ wanted (seen_in (λ (p : Place). is_some (clean c)) (λ p. value_of c) (record { serial = 0; slot = 0; side = Set })) otherwise walk
  wanted_as (plain k) otherwise go walk h = h k.value
  wanted_as (resting k) otherwise go walk h = h k.value
  wanted_as (fresh k) otherwise go walk h = refl
  wanted_as (under_way k) otherwise go walk h = refl
  wanted_as (stopped k) otherwise go walk h = h k.value
  wanted_as (active v) otherwise go walk h = h v
  wanted_as (marked v f) otherwise go walk h = h v
  wanted_as (suspended k) otherwise go walk h = h k.value

  -- over the values that are seen in a state
  walk_seen : (r : Tree) → walk space r s ≡ walked (seen_in (is_clean s) (value_in s)) r
  unfolding walk
  walk_seen (gives v) = refl
  walk_seen (faults f) = refl
  walk_seen (asks q next) = wanted_as (at s q) (has_need q) (λ v. walk space (next v) s) (λ v. walked (seen_in (is_clean s) (value_in s)) (next v)) (λ v. walk_seen (next v))

-- a value that the slot takes or not
told_seen : (seen : Place → Option Value) (o : Option Value) → walked seen (given o) ≡ told o
told_seen seen None = refl
told_seen seen (Some v) = refl

-- what comes of an answer, where its value is taken
abbrev pub taken_answer : Store → Place → Eval → Outcome Place Value EvalFault
taken_answer store place (answer.Is v) = told (taken_in (info_at place store) store v)
taken_answer store place (answer.Faulted f) = has_fault f
taken_answer store place (answer.Needs p) = has_need p

pub bound_comes : (s : State) (place : Place) (b : Binding) (e : Expr) (locals : List NamedLocal) (trace after : List Place) (said : Eval) → e ≡ b.expr → locals ≡ [] → trace ≡ [] →
    evaluated (is_clean s) (meanings (shape_of s.0) (value_in s)) e b.frame locals trace ≡ (said, after) → taken_answer s.0 place said ≡ walk space (bound_tree s.0 place b) s
unfolding bound_tree
bound_comes s place b e locals trace after said same_expr none untraced is =
    let seen : Place → Option Value = seen_in (is_clean s) (value_in s) in
    let go : Value → Tree = λ v. given (taken_in (info_at place s.0) s.0 v) in
    let whole = walks (is_clean s) (shape_of s.0) (value_in s) b.expr b.frame [] go in
    let same : evaluated (is_clean s) (meanings (shape_of s.0) (value_in s)) b.expr b.frame [] [] ≡ (said, after) = rw (same_expr, none, untraced) at is in
    sym (walk_seen s (tree (shape_of s.0) b.expr b.frame [] go) ∙ whole.outcome ∙ ap (λ (x : Eval × List Place). comes_to seen go x.0) same ∙ by seen go said refl)
  where
    by : (seen : Place → Option Value) (go : Value → Tree) (e : Eval) → ◌≡◌ {A = Value → Tree} go (λ v. given (taken_in (info_at place s.0) s.0 v)) → comes_to seen go e ≡ taken_answer s.0 place e
    by seen go (answer.Is v) same = ap (λ (g : Value → Tree). walked seen (g v)) same ∙ told_seen seen (taken_in (info_at place s.0) s.0 v)
    by seen go (answer.Faulted f) same = refl
    by seen go (answer.Needs p) same = refl
