-- The layers of an expression, a method's body one call further in, and arguments one by one.
use Rattle.std.proofs.Common.{◌≡◌, ℕ, zero, suc, ◌<◌, ◌≤◌, refl, ap, sym, ◌∙◌, List, [], ◌∷◌, ◌++◌, map, length, drop, get_or, arith}
use Rattle.std.specs.Prelude.{Bool, Ok}
use Rattle.qml_ast.specs.declared.expr.Expr.{Expr, fold-roll-Expr}
use Rattle.qml_ast.specs.declared.expr.Expr.TheVariants as ee
use Rattle.qml_ast.specs.declared.expr.Expr.TheOpen.{Expr-F}
use Rattle.qml_ast.specs.declared.place.Place.{Place}
use Rattle.qml_ast.specs.declared.value.Value.{Value}
use Rattle.expr_eval.specs.Meanings.{Meanings}
use Rattle.expr_eval.specs.Progress.{bind_to}
use Rattle.expr_eval.specs.Evaluation.{Around, Visit, value, values, step, body, meant}
use Rattle.expr_eval.specs.declared.progress.Progress.{Progress}

module _ (clean : Place → Bool) (means : Meanings) where
  pub deeper : (calls : ℕ) (e : Expr) (around : Around) → body clean means (suc calls) e around ≡ value clean means (meant clean means calls e) around
  unfolding body
  deeper calls e around = refl

  pub at_call : (calls : ℕ) (callee : Expr) (arguments : List Expr) → meant clean means calls (ee.Call callee arguments) ≡ step clean means (body clean means calls) (Expr-F.Call (meant clean means calls callee) (map (meant clean means calls) arguments))
  at_call calls callee arguments = ap (meant clean means calls) (sym (ee.rolls-Call callee arguments)) ∙ fold-roll-Expr Visit (step clean means (body clean means calls)) (Expr-F.Call callee arguments)

  -- the next argument, and those after it
  pub values_more : (calls : ℕ) (done : List Value) (xs : List Expr) (i : ℕ) (x : Expr) (around : Around) (s : Progress) → i < length xs → x ≡ get_or xs i x → values clean means done (map (meant clean means calls) (drop i xs)) around s ≡ bind_to (value clean means (meant clean means calls x) around s) (λ v. values clean means (done ++ v ∷ []) (map (meant clean means calls) (drop (suc i) xs)) around)
  values_more calls done [] i x around s within is = absurd (omega arith)
  values_more calls done (y ∷ ys) zero x around s within is = rw is refl
  values_more calls done (y ∷ ys) (suc i) x around s within is = values_more calls done ys i x around s (omega arith) is

  -- no argument is left
  pub values_end : (calls : ℕ) (done : List Value) (xs : List Expr) (i : ℕ) (around : Around) (s : Progress) → length xs ≤ i → values clean means done (map (meant clean means calls) (drop i xs)) around s ≡ (Ok done, s)
  values_end calls done [] zero around s past = refl
  values_end calls done [] (suc i) around s past = refl
  values_end calls done (y ∷ ys) zero around s past = absurd (omega arith)
  values_end calls done (y ∷ ys) (suc i) around s past = values_end calls done ys i around s (omega arith)
