-- The values of the expressions in handlers.
use Rattle.std.specs.Prelude.{ℕ, nat_lt, Bool, true, if◌then◌else◌, List, [], ◌∷◌, ◌++◌, length, map, fold, Option, None, Some, Result, Ok, Err, codes}
use Rattle.qml_ast.specs.Arithmetic.{truth_of}
use Rattle.qml_ast.specs.TextForm.{text_of}
use Rattle.qml_ast.specs.declared.eval_fault.EvalFault.{EvalFault}
use Rattle.qml_ast.specs.declared.eval_fault.EvalFault.TheVariants.{WrongKind, TextTooLong}
use Rattle.qml_ast.specs.declared.expr.Expr.{Expr}
use Rattle.qml_ast.specs.declared.value.Value.{Value}
use Rattle.qml_ast.specs.declared.value.Value.TheVariants.{Line}
use Rattle.expr_eval.specs.Needs.{value_and_reads}
use Rattle.expr_eval.specs.declared.answer.Eval.{Eval}
use Rattle.expr_eval.specs.declared.answer.Eval.TheVariants as answer
use Rattle.expr_eval.specs.declared.found.Frame.{Frame}
use Rattle.expr_eval.specs.declared.locals.NamedLocal.{NamedLocal}
use Rattle.object_tree.specs.Settled.{meanings}
use Rattle.object_tree.specs.Store.{Store}

-- no place is needed where each has its value
abbrev pub result_of : Eval → Result Value EvalFault
result_of (answer.Is v) = Ok v
result_of (answer.Faulted fault) = Err fault
result_of (answer.Needs place) = Err WrongKind

-- the value of an expression where the store is settled, or its fault
abbrev pub value_in : Frame → Store → List NamedLocal → Expr → Result Value EvalFault
value_in frame store locals e = result_of (value_and_reads (meanings store) e frame locals).0

abbrev pub undefined : Value
undefined = Line None

-- a value that may be left out, and is `undefined` then
abbrev pub value_or_undefined : Frame → Store → List NamedLocal → Option Expr → Result Value EvalFault
value_or_undefined frame store locals None = Ok undefined
value_or_undefined frame store locals (Some e) = value_in frame store locals e

-- whether an expression's value is true, or its fault
abbrev pub truth_or_fault : Result Value EvalFault → Result Bool EvalFault
truth_or_fault (Ok v) = Ok (truth_of v)
truth_or_fault (Err fault) = Err fault

abbrev pub holds_in : Frame → Store → List NamedLocal → Expr → Result Bool EvalFault
holds_in frame store locals e = truth_or_fault (value_in frame store locals e)

-- a condition that may be left out, and holds then
abbrev pub condition_in : Frame → Store → List NamedLocal → Option Expr → Result Bool EvalFault
condition_in frame store locals None = Ok true
condition_in frame store locals (Some e) = holds_in frame store locals e

-- ---- what is logged
-- one text more, after a space
abbrev pub with_text : List ℕ → List ℕ → List ℕ
with_text text next = text ++ (codes " " ++ next)

-- texts with a space between each two
abbrev pub joined_texts : List (List ℕ) → List ℕ
joined_texts [] = []
joined_texts (text ∷ texts) = fold with_text text texts

-- the texts of values, which are at most 65,536 bytes together
abbrev pub logged_text : List Value → Result (List ℕ) EvalFault
logged_text values = within (joined_texts (map text_of values))
  where
    within : List ℕ → Result (List ℕ) EvalFault
    within text = if nat_lt 65536 (length text) then Err TextTooLong else Ok text
