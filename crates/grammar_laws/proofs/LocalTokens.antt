-- Single tokens are read by the next token alone.
use Rattle.std.proofs.Common.{◌≡◌, ℕ, zero, suc, ◌+◌, List, [], ◌∷◌, None, Result, Ok, Err, refl, sym, ap, ap₂, subst, ◌∙◌, arith, zero-add}
use Rattle.qml_ast.specs.declared.fault.DocFault.{DocFault}
use Rattle.qml_ast.specs.declared.fault.DocFault.TheVariants.{TooDeep}
use Rattle.qml_ast.specs.declared.span.Span.{Span}
use Rattle.qml_grammar.specs.Inputs.{Input, ahead, after, place, refusal, operand_refusal, too_deep, take_token, take_node, expect, any_name}
use Rattle.qml_grammar.specs.Lexemes.{Token, head, tail, name_of, is_mark}
use Rattle.qml_grammar.specs.declared.mark.Mark.{Mark}
use Rattle.grammar_laws.specs.Laws.{Way}
use Rattle.grammar_laws.proofs.Behind.{behind, last_behind, same_input_by, node_last}
use Rattle.grammar_laws.proofs.Local.{LocalOk, Local, local_branch, local_choose}
use Rattle.grammar_laws.proofs.Tools.{way_none, way_token, way_node, same_value, same_input}

-- Faults

pub local_failing : {A : Type 0} (fault : Input → DocFault) → Local {A = A} (λ i. Err (fault i))
local_failing fault = record { ok = λ i x j h. absurd cc }

pub local_refused : {A : Type 0} → Local {A = A} (λ i. Err (refusal i))
local_refused = local_failing (λ i. refusal i)

pub local_operand_refused : {A : Type 0} → Local {A = A} (λ i. Err (operand_refusal i))
local_operand_refused = local_failing (λ i. operand_refusal i)

pub local_too_deep : {A : Type 0} → Local {A = A} too_deep
local_too_deep = local_failing (λ i. TooDeep (place i))

-- Values

pub local_pure : {A : Type 0} (x : A) → Local (λ i. Ok (x, i))
local_pure {A = A} x = record {
  ok = λ i y j h. record {
    nodes = 0;
    text = [];
    way = subst (λ k. Way i k 0 []) (same_input x y i j h) (way_none i);
    again = λ l s. ap₂ {C = Result (A × Input) DocFault} (λ z k. Ok (z, k)) (same_value x y i j h) (last_behind l);
  };
}

-- Tokens

no_tokens : (ts : List Token) → head ts ≡ None → ts ≡ []
no_tokens [] h = refl
no_tokens (t ∷ ts) h = absurd cc

-- taking a token, or none at the end
after_ok : {A : Type 0} (x y : A) (ts : List Token) (s : Span) (n : ℕ) (j : Input) → x ≡ y → record { rest = tail ts; end = s; nodes = n } ≡ j → LocalOk (λ i. Ok (x, after i)) (record { rest = ts; end = s; nodes = n }) j y
after_ok {A = A} x y [] s n j v e = record {
  nodes = 0;
  text = [];
  way = subst (λ k. Way (record { rest = []; end = s; nodes = n }) k 0 []) e (way_none (record { rest = []; end = s; nodes = n }));
  again = λ l h. ap₂ {C = Result (A × Input) DocFault} (λ z k. Ok (z, k)) v (same_input_by (let none : l.rest ≡ [] = no_tokens l.rest (h ∙ ap ahead (sym e)) in ap tail none ∙ sym none) refl (zero-add l.nodes));
}
after_ok {A = A} x y (t ∷ ts) s n j v e = record {
  nodes = 0;
  text = t ∷ [];
  way = subst (λ k. Way (record { rest = t ∷ ts; end = s; nodes = n }) k 0 (t ∷ [])) e (way_token t refl);
  again = λ l h. ap₂ {C = Result (A × Input) DocFault} (λ z k. Ok (z, k)) v (last_behind l);
}

pub local_after : {A : Type 0} (x : A) → Local (λ i. Ok (x, after i))
local_after x = record {
  ok = λ i y j h. after_ok x y i.rest i.end i.nodes j (same_value x y (after i) j h) (same_input x y (after i) j h);
}

pub local_token : Local take_token
local_token = local_after tt

pub local_expect : (m : Mark) → Local (expect m)
local_expect m = local_branch (is_mark m) (local_after tt) local_refused

pub local_name : Local any_name
local_name = local_choose name_of (λ n. local_after n) local_refused

-- Nodes

node_none : (l : Input) → l.rest ≡ [] → take_node (behind [] 1 l) ≡ Ok (tt, l)
node_none l h =
    let e : 1 + l.nodes ≡ suc l.nodes = omega arith in
    let rest : tail l.rest ≡ l.rest = ap tail h ∙ sym h in
    rw e (ap (λ ts. Ok (tt, record { rest = ts; end = l.end; nodes = l.nodes })) rest)

node_ok : (ts : List Token) (s : Span) (n : ℕ) (u : Unit {0}) (j : Input) → take_node (record { rest = ts; end = s; nodes = n }) ≡ Ok (u, j) → LocalOk take_node (record { rest = ts; end = s; nodes = n }) j u
node_ok ts s zero u j h = absurd cc
node_ok [] s (suc n) u j h =
    let e = same_input tt u (record { rest = []; end = s; nodes = n }) j h in
    record {
      nodes = 1;
      text = [];
      way = record { rest = ap (λ (k : Input). k.rest) e; used = (let left : n ≡ j.nodes = ap (λ (k : Input). k.nodes) e in omega arith); end = ap (λ (k : Input). k.end) e };
      again = λ l h2. node_none l (no_tokens l.rest (h2 ∙ ap ahead (sym e)));
    }
node_ok (t ∷ ts) s (suc n) u j h = record {
  nodes = 1;
  text = t ∷ [];
  way = way_node (record { rest = t ∷ ts; end = s; nodes = suc n }) j u t refl h;
  again = λ l h2. node_last t l;
}

pub local_node : Local take_node
local_node = record {
  ok = λ i u j h. node_ok i.rest i.end i.nodes u j h;
}
