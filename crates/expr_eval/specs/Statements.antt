-- What statements evaluate beside plain values: where the target of an assignment stands, and what a call that stands as a whole
-- statement calls.
use Rattle.std.specs.Prelude.{ℕ, Bool, if◌then◌else◌, List, [], length, map, Option, Result, Ok, Err}
use Rattle.qml_ast.specs.declared.eval_fault.EvalFault.TheVariants.{WrongKind}
use Rattle.qml_ast.specs.declared.expr.Expr.{Expr}
use Rattle.qml_ast.specs.declared.place.Place.{Place}
use Rattle.qml_ast.specs.declared.value.Value.{Value}
use Rattle.expr_eval.specs.Evaluation.{Around, Visit, is_value, values, function_call, meant}
use Rattle.expr_eval.specs.Meanings.{Meanings, Arities}
use Rattle.expr_eval.specs.Operators.{are_taken}
use Rattle.expr_eval.specs.Progress.{Stop, Fault, Asks, Evaluation, pure, fault, bind, node}
use Rattle.expr_eval.specs.declared.answer.Aim.{Aim}
use Rattle.expr_eval.specs.declared.answer.Aim.TheVariants as aimed_at
use Rattle.expr_eval.specs.declared.answer.Called.{Called}
use Rattle.expr_eval.specs.declared.answer.Called.TheVariants as is_called
use Rattle.expr_eval.specs.declared.found.Frame.{Frame}
use Rattle.expr_eval.specs.declared.functions.Function.{Function as GlobalFunction}
use Rattle.expr_eval.specs.declared.functions.Function.TheVariants.{Min, Max, Abs, Floor, Ceil, Round, Log}
use Rattle.expr_eval.specs.declared.locals.NamedLocal.{NamedLocal}
use Rattle.expr_eval.specs.declared.progress.Progress.{Progress}
use Rattle.expr_eval.specs.declared.sense.Sense.{Sense}
use Rattle.expr_eval.specs.declared.sense.Sense.TheVariants.{Is, At, Group, Method, Signal, Global, Function, Mouse}

-- Only a place can be assigned to, and it isn't read.
abbrev pub as_place : Sense → Evaluation Place
as_place (At place) = pure place
as_place (Is value) = fault WrongKind
as_place (Group serial group) = fault WrongKind
as_place (Method serial method) = fault WrongKind
as_place (Signal serial signal) = fault WrongKind
as_place (Global global) = fault WrongKind
as_place (Function function) = fault WrongKind
as_place (Mouse x y) = fault WrongKind

-- where a target stands, and the places read
abbrev pub aim_of : Result Place Stop × Progress → Aim × List Place
aim_of (Ok place, s) = (aimed_at.At place, s.trace)
aim_of (Err (Fault f), s) = (aimed_at.Faulted f, s.trace)
aim_of (Err (Asks place), s) = (aimed_at.Needs place, s.trace)

-- where the target of an assignment stands, and the places read, after those that were read before
abbrev pub aimed : (Place → Bool) → Meanings → Expr → Frame → List NamedLocal → List Place → Aim × List Place
aimed clean means e frame locals trace =
    aim_of (bind (meant clean means 64 e (frame, locals)) as_place (record { nodes = 0; trace = trace }))

module _ (clean : Place → Bool) (means : Meanings) where
  -- The number of arguments is tested before they are evaluated. Of what kinds they are isn't asked.
  abbrev pub counted_values : Option ℕ → List Visit → Around → Evaluation (List Value)
  counted_values arity arguments around =
      if are_taken arity (length arguments) then values clean means [] arguments around else fault WrongKind

  -- The value of a function of values is dropped.
  unfoldable pub dropped : GlobalFunction → List Visit → Around → Evaluation Called
  dropped function arguments around = bind (is_value (function_call clean means function arguments around)) (λ x. pure is_called.Done)

  -- a call of a function: what is to be logged may be any number of values
  abbrev pub function_called : GlobalFunction → List Visit → Around → Evaluation Called
  function_called Log arguments around = bind (values clean means [] arguments around) (λ xs. pure (is_called.Log xs))
  function_called Min arguments around = dropped Min arguments around
  function_called Max arguments around = dropped Max arguments around
  function_called Abs arguments around = dropped Abs arguments around
  function_called Floor arguments around = dropped Floor arguments around
  function_called Ceil arguments around = dropped Ceil arguments around
  function_called Round arguments around = dropped Round arguments around

  abbrev pub sense_called : Arities → List Visit → Around → Sense → Evaluation Called
  sense_called arities arguments around (Method of method) =
      bind (counted_values (arities.method of method) arguments around) (λ xs. pure (is_called.Method of method xs))
  sense_called arities arguments around (Signal of signal) =
      bind (counted_values (arities.signal of signal) arguments around) (λ xs. pure (is_called.Signal of signal xs))
  sense_called arities arguments around (Function function) = function_called function arguments around
  sense_called arities arguments around (Is value) = fault WrongKind
  sense_called arities arguments around (At place) = fault WrongKind
  sense_called arities arguments around (Group serial group) = fault WrongKind
  sense_called arities arguments around (Global global) = fault WrongKind
  sense_called arities arguments around (Mouse x y) = fault WrongKind

  -- The call is a node itself, and its callee comes before its arguments.
  abbrev pub callee_called : Arities → Visit → List Visit → Around → Evaluation Called
  callee_called arities callee arguments around =
      bind node (λ _. bind (callee around) (sense_called arities arguments around))

-- what a call calls, and the places read
abbrev pub called_of : Result Called Stop × Progress → Called × List Place
called_of (Ok x, s) = (x, s.trace)
called_of (Err (Fault f), s) = (is_called.Faulted f, s.trace)
called_of (Err (Asks place), s) = (is_called.Needs place, s.trace)

-- What a call that stands as a whole statement calls, with the values of its arguments, and the places read, after those that
-- were read before.
abbrev pub called : (Place → Bool) → Meanings → Arities → Expr → List Expr → Frame → List NamedLocal → List Place → Called × List Place
called clean means arities callee arguments frame locals trace =
    called_of (callee_called clean means arities (meant clean means 64 callee) (map (meant clean means 64) arguments) (frame, locals) (record { nodes = 0; trace = trace }))
