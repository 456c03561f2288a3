-- Evaluations of one expression over two stores: one in which some places have no value yet, and one in
-- which all have.
use Rattle.std.specs.Prelude.{◌≡◌, Bool, true, false, List, [], ◌∷◌, ◌++◌}
use Rattle.qml_ast.specs.declared.expr.Expr.{Expr}
use Rattle.qml_ast.specs.declared.place.Place.{Place}
use Rattle.qml_ast.specs.declared.value.Value.{Value}
use Rattle.expr_eval.specs.Meanings.{Meanings}
use Rattle.expr_eval.specs.Evaluation.{evaluated}
use Rattle.expr_eval.specs.declared.answer.Eval.{Eval}
use Rattle.expr_eval.specs.declared.answer.Eval.TheVariants as answer
use Rattle.expr_eval.specs.declared.found.Frame.{Frame}
use Rattle.expr_eval.specs.declared.locals.NamedLocal.{NamedLocal}

-- each place has its value
abbrev pub every : Place → Bool
every place = true

-- The value or the fault of an expression and its reads, over a store in which each place has its value.
abbrev pub value_and_reads : Meanings → Expr → Frame → List NamedLocal → Eval × List Place
value_and_reads means e frame locals = evaluated every means e frame locals []

abbrev pub AllClean : (Place → Bool) → List Place → Type 0
AllClean clean [] = Unit {0}
AllClean clean (place ∷ places) = (clean place ≡ true) × AllClean clean places

-- the one list begins the other
abbrev pub Begins : List Place → List Place → Type 0
Begins places reads = (rest : List Place) × (reads ≡ places ++ rest)

-- The answer and the trace are those over all values, where a value or a fault is answered. Where a place
-- is needed, it is the first read place that has no value yet.
abbrev pub Cuts : (Place → Bool) → Eval × List Place → Eval × List Place → Type 0
Cuts clean (answer.Is value, trace) whole = whole ≡ (answer.Is value, trace)
Cuts clean (answer.Faulted fault, trace) whole = whole ≡ (answer.Faulted fault, trace)
Cuts clean (answer.Needs place, trace) whole = (clean place ≡ false) × Begins (trace ++ place ∷ []) whole.1

-- An evaluation stops at the first read place that has no value yet, whatever values the places that have
-- none will have.
abbrev pub StopsAtFirstUnclean : (Place → Bool) → Meanings → (Place → Value) → Expr → Frame → List NamedLocal → Type 0
StopsAtFirstUnclean clean means settled e frame locals =
    ((place : Place) → clean place ≡ true → means.read place ≡ settled place) →
    Cuts clean (evaluated clean means e frame locals []) (value_and_reads (record means { read = settled }) e frame locals)
    × AllClean clean (evaluated clean means e frame locals []).1
