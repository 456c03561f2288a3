-- The first fault stands at the first token that no expression can have there: the laws as they are told.
use Rattle.std.proofs.Common.{◌≡◌, ℕ, Result, Ok, Err, refl, sym, ap, ◌∙◌, arith}
use Rattle.qml_ast.specs.declared.expr.Expr.{Expr}
use Rattle.qml_ast.specs.declared.fault.DocFault.{DocFault}
use Rattle.qml_grammar.specs.ExpressionGrammar.{IsExpr}
use Rattle.qml_grammar.specs.Expressions.{expr, whole}
use Rattle.qml_grammar.specs.Inputs.{Input}
use Rattle.grammar_laws.specs.Faults.{FaultsAt, CanGoOn, IsLike}
use Rattle.grammar_laws.specs.Laws.{Way, Reads, ReadsWhole}
use Rattle.grammar_laws.proofs.Behind.{behind, way_behind, same_input_by}
use Rattle.grammar_laws.proofs.Local.{before, onward, bind_err, err_then}
use Rattle.grammar_laws.proofs.Reading.{full, reads_expr, reads_whole}
use Rattle.grammar_laws.proofs.Viable.{FailsAt}
use Rattle.grammar_laws.proofs.ViableExpressions.{expr_viable}

pub expr_faults : (d : ℕ) (i : Input) (e : DocFault) → expr d i ≡ Err e → FaultsAt (IsExpr d) (expr d) i e
expr_faults d i e h =
    let c = expr_viable d i e h in
    record {
      nodes = c.nodes;
      text = c.text;
      at = c.at;
      way = c.way;
      place = c.place;
      before = c.viable;
      alike = λ k l w s. ap (expr d) (way_behind w) ∙ c.again l s;
    }

whole_alike : (d : ℕ) (i : Input) (e : DocFault) (c : FailsAt (expr d) (CanGoOn (IsExpr d)) (full i) e) (k l : Input) → Way k l 0 c.text → IsLike l (record { rest = c.at.rest; end = c.at.end; nodes = i.nodes }) → whole d k ≡ Err e
unfolding whole
whole_alike d i e c k l w s =
    let left : Input = record { rest = l.rest; end = l.end; nodes = c.at.nodes } in
    let same : full k ≡ behind c.text c.nodes left = same_input_by w.rest w.end (omega (arith, (c.way).used)) in
    err_then _ (ap (expr d) same ∙ c.again left (record { ahead = s.ahead; place = s.place; nodes = refl }))

whole_from : (d : ℕ) (i : Input) (e : DocFault) → FailsAt (expr d) (CanGoOn (IsExpr d)) (full i) e → FaultsAt (IsExpr d) (whole d) i e
whole_from d i e c = record {
  nodes = 0;
  text = c.text;
  at = record { rest = c.at.rest; end = c.at.end; nodes = i.nodes };
  way = record { rest = (c.way).rest; used = omega arith; end = (c.way).end };
  place = c.place;
  before = c.viable;
  alike = whole_alike d i e c;
}

whole_failed : (d : ℕ) (i : Input) (e : DocFault) → whole d i ≡ Err e → expr d (full i) ≡ Err e
unfolding whole
whole_failed d i e h = elim (bind_err (expr d (full i)) _ _ h) [ before g ↦ g | onward x j g f ↦ absurd cc ]

pub whole_faults : (d : ℕ) (i : Input) (e : DocFault) → whole d i ≡ Err e → FaultsAt (IsExpr d) (whole d) i e
whole_faults d i e h = whole_from d i e (expr_viable d (full i) e (whole_failed d i e h))

-- No expression begins so

apart : {A : Type 0} (r : Result (A × Input) DocFault) (e : DocFault) (x : A) (m : Input) → r ≡ Err e → r ≡ Ok (x, m) → ⊥
apart {A = A} r e x m failed read =
    let both : ◌≡◌ {A = Result (A × Input) DocFault} (Err e) (Ok (x, m)) = sym failed ∙ read in
    cc

pub none_begins : (d : ℕ) (i : Input) (e : DocFault) (fault : FaultsAt (IsExpr d) (expr d) i e) (k l m : Input) (x : Expr) → Way k l fault.nodes fault.text → IsLike l fault.at → Reads d k m x → ⊥
none_begins d i e fault k l m x w s r = apart (expr d k) e x m (fault.alike k l w s) (reads_expr d k m x r)

pub none_begins_outermost : (d : ℕ) (i : Input) (e : DocFault) (fault : FaultsAt (IsExpr d) (whole d) i e) (k l m : Input) (x : Expr) → Way k l fault.nodes fault.text → IsLike l fault.at → ReadsWhole d k m x → ⊥
none_begins_outermost d i e fault k l m x w s r = apart (whole d k) e x m (fault.alike k l w s) (reads_whole d k m x r)
