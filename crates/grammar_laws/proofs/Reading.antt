-- What is read is spelled, and what is spelled is read: the laws as they are told.
use Rattle.std.proofs.Common.{◌≡◌, ℕ, ◌-◌, ◌≤◌, Ok, sym, subst, ◌∙◌, ap, arith}
use Rattle.qml_ast.specs.declared.expr.Expr.{Expr}
use Rattle.qml_grammar.specs.ExpressionGrammar.{IsExpr}
use Rattle.qml_grammar.specs.Expressions.{expr, whole}
use Rattle.qml_grammar.specs.Inputs.{Input, ahead}
use Rattle.grammar_laws.specs.Laws.{Reads, ReadsWhole}
use Rattle.grammar_laws.proofs.Behind.{behind, way_behind, same_input_by, ok_then}
use Rattle.grammar_laws.proofs.Complete.{expr_complete}
use Rattle.grammar_laws.proofs.Growing.{Covers}
use Rattle.grammar_laws.proofs.Sound.{expr_sound}
use Rattle.grammar_laws.proofs.Strength.{stops_of, strength_of}
use Rattle.grammar_laws.proofs.Tools.{bind_ok, same_value, same_input}

pub expr_reads : (d : ℕ) (i j : Input) (x : Expr) → expr d i ≡ Ok (x, j) → Reads d i j x
expr_reads d i j x h =
    let c = expr_sound d i x j h in
    record { nodes = c.nodes; text = c.text; way = c.way; spelled = c.spelled; longest = stops_of (ahead j) c.stops }

-- the input with as many nodes as an outermost expression may have
abbrev pub full : Input → Input
full i = record { rest = i.rest; end = i.end; nodes = 200 }

whole_from : (d : ℕ) (i k : Input) (x : Expr) → Covers (IsExpr d) 0 (full i) k x → ReadsWhole d i (record { rest = k.rest; end = k.end; nodes = i.nodes }) x
whole_from d i k x c = record {
  text = c.text;
  way = record { rest = (c.way).rest; used = omega arith; end = (c.way).end };
  spelled = record {
    nodes = c.nodes;
    few = omega (arith, (c.way).used);
    spelled = c.spelled;
    longest = stops_of (ahead k) c.stops;
  };
}

pub whole_reads : (d : ℕ) (i j : Input) (x : Expr) → whole d i ≡ Ok (x, j) → ReadsWhole d i j x
unfolding whole
whole_reads d i j x h =
    let b = bind_ok (expr d (full i)) _ _ h in
    let y = whole_from d i b.at b.value (expr_sound d (full i) b.value b.at b.first) in
    let k : Input = record { rest = b.at.rest; end = b.at.end; nodes = i.nodes } in
    subst (λ z. ReadsWhole d i j z) (same_value b.value x k j b.onward) (subst (λ l. ReadsWhole d i l b.value) (same_input b.value x k j b.onward) y)

-- What is spelled is read

pub reads_expr : (d : ℕ) (i j : Input) (x : Expr) → Reads d i j x → expr d i ≡ Ok (x, j)
reads_expr d i j x r = ap (expr d) (way_behind r.way) ∙ expr_complete d r.nodes r.text x j r.spelled (strength_of (ahead j) r.longest)

pub reads_whole : (d : ℕ) (i j : Input) (x : Expr) → ReadsWhole d i j x → whole d i ≡ Ok (x, j)
unfolding whole
reads_whole d i j x r =
    let p = r.spelled in
    let left : Input = record { rest = j.rest; end = j.end; nodes = 200 - p.nodes } in
    let few : p.nodes ≤ 200 = p.few in
    let same : full i ≡ behind r.text p.nodes left = same_input_by (r.way).rest (r.way).end (omega arith) in
    let read : expr d (full i) ≡ Ok (x, left) = ap (expr d) same ∙ expr_complete d p.nodes r.text x left p.spelled (strength_of (ahead j) p.longest) in
    let kept : i.nodes ≡ j.nodes = omega (arith, (r.way).used) in
    ok_then _ read (ap (λ n. Ok (x, record { rest = j.rest; end = j.end; nodes = n })) kept)

pub reads_once : (d : ℕ) (i j k : Input) (x y : Expr) → Reads d i j x → Reads d i k y → (x ≡ y) × (j ≡ k)
reads_once d i j k x y r s =
    let e = sym (reads_expr d i j x r) ∙ reads_expr d i k y s in
    (same_value x y j k e, same_input x y j k e)
