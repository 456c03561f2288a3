-- How trees go with evaluations.
use Rattle.std.specs.Prelude.{◌≡◌, Bool, if◌then◌else◌, List, [], ◌∷◌, Option, None, Some, Result, Err}
use Rattle.qml_ast.specs.declared.eval_fault.EvalFault.{EvalFault}
use Rattle.qml_ast.specs.declared.expr.Expr.{Expr}
use Rattle.qml_ast.specs.declared.place.Place.{Place}
use Rattle.qml_ast.specs.declared.value.Value.{Value}
use Rattle.expr_eval.specs.Evaluation.{evaluated}
use Rattle.expr_eval.specs.Needs.{value_and_reads}
use Rattle.expr_eval.specs.Traces.{noted}
use Rattle.expr_eval.specs.declared.answer.Eval.{Eval}
use Rattle.expr_eval.specs.declared.answer.Eval.TheVariants as answer
use Rattle.expr_eval.specs.declared.found.Frame.{Frame}
use Rattle.expr_eval.specs.declared.locals.NamedLocal.{NamedLocal}
use Rattle.settling.specs.Evaluations.{Outcome, has_value, has_fault, has_need, wanted}
use Rattle.settling.specs.Runs.{gives, faults, asks, answer as answered, reads}
use Rattle.expr_eval.specs.Shapes.{Shape, meanings}
use Rattle.expr_eval.specs.Trees.{Tree, tree}

-- a place's value, where it has one already
abbrev pub seen_in : (Place → Bool) → (Place → Value) → Place → Option Value
seen_in clean values place = if clean place then Some (values place) else None

-- what a walk through a tree comes to, where these values are seen
abbrev pub walked : (Place → Option Value) → Tree → Outcome Place Value EvalFault
walked seen (gives v) = has_value v
walked seen (faults f) = has_fault f
walked seen (asks q next) = wanted (seen q) (has_need q) (λ v. walked seen (next v))

-- the places that it passes
abbrev pub passed : (Place → Option Value) → Tree → List Place
passed seen (gives v) = []
passed seen (faults f) = []
passed seen (asks q next) = wanted (seen q) [] (λ v. q ∷ passed seen (next v))

-- each of these places is noted, after those that are
abbrev pub all_noted : List Place → List Place → List Place
all_noted trace [] = trace
all_noted trace (place ∷ places) = all_noted (noted trace place) places

-- what an answer comes to, if its value is gone on with
abbrev pub comes_to : (Place → Option Value) → (Value → Tree) → Eval → Outcome Place Value EvalFault
comes_to seen go (answer.Is value) = walked seen (go value)
comes_to seen go (answer.Faulted fault) = has_fault fault
comes_to seen go (answer.Needs place) = has_need place

-- the places that are noted once its value was gone on with
abbrev pub notes : (Place → Option Value) → (Value → Tree) → Eval × List Place → List Place
notes seen go (answer.Is value, trace) = all_noted trace (passed seen (go value))
notes seen go (answer.Faulted fault, trace) = trace
notes seen go (answer.Needs place, trace) = trace

pub record WalksAsEvaluated (clean : Place → Bool) (shape : Shape) (values : Place → Value) (e : Expr) (frame : Frame) (locals : List NamedLocal) (go : Value → Tree) : Type 0 where
  pub outcome : walked (seen_in clean values) (tree shape e frame locals go)
      ≡ comes_to (seen_in clean values) go (evaluated clean (meanings shape values) e frame locals []).0
  pub trace : all_noted [] (passed (seen_in clean values) (tree shape e frame locals go))
      ≡ notes (seen_in clean values) go (evaluated clean (meanings shape values) e frame locals [])

-- the value or the fault, if the value is gone on with; there is no need where each place has its value
abbrev pub ends_as : (Place → Value) → (Value → Tree) → Eval → Result Value EvalFault → Type 0
ends_as values go (answer.Is value) result = result ≡ answered (go value) values
ends_as values go (answer.Faulted fault) result = result ≡ Err fault
ends_as values go (answer.Needs place) result = ⊥

-- the reads, if the value is gone on with
abbrev pub reads_then : (Place → Value) → (Value → Tree) → Eval × List Place → List Place
reads_then values go (answer.Is value, trace) = all_noted trace (reads (go value) values)
reads_then values go (answer.Faulted fault, trace) = trace
reads_then values go (answer.Needs place, trace) = trace

pub record AnswersAsEvaluated (shape : Shape) (values : Place → Value) (e : Expr) (frame : Frame) (locals : List NamedLocal) (go : Value → Tree) : Type 0 where
  pub answers : ends_as values go (value_and_reads (meanings shape values) e frame locals).0 (answered (tree shape e frame locals go) values)
  pub reads : all_noted [] (reads (tree shape e frame locals go) values)
      ≡ reads_then values go (value_and_reads (meanings shape values) e frame locals)
