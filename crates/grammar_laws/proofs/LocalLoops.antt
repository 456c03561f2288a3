-- A loop of local readings, each of which takes a token or more, is local.
use Rattle.std.proofs.Common.{◌≡◌, ℕ, zero, suc, ◌+◌, ◌≤◌, ◌<◌, Bool, true, false, List, [], ◌++◌, length, Option, None, Result, Ok, refl, sym, ap, subst, ◌∙◌, arith, length-append}
use Rattle.qml_ast.specs.declared.fault.DocFault.{DocFault}
use Rattle.qml_grammar.specs.Inputs.{Input, Parser, ahead, repeated, while_next}
use Rattle.qml_grammar.specs.Lexemes.{Token}
use Rattle.grammar_laws.specs.Laws.{Way}
use Rattle.grammar_laws.proofs.Behind.{behind, behind_both, last_behind, again, stopped}
use Rattle.grammar_laws.proofs.Growing.{stopped as ended, went, went_on, no_token}
use Rattle.grammar_laws.proofs.Local.{LocalOk, Local, ahead_again}
use Rattle.grammar_laws.proofs.Tools.{way_none, way_then, same_value, same_input}

-- the fuel does not matter where it is enough
record LoopOk {A : Type 0} (test : Option Token → Bool) (step : A → Parser A) (x : A) (i j : Input) (y : A) : Type 0 where
  nodes : ℕ
  text : List Token
  way : Way i j nodes text
  anew : (l : Input) (n : ℕ) → length (text ++ l.rest) ≤ n → ahead l ≡ ahead j → repeated test step n x (behind text nodes l) ≡ Ok (y, l)

pub some_text : {i k : Input} {n : ℕ} {ts : List Token} → Way i k n ts → length k.rest < length i.rest → 1 ≤ length ts
some_text {k = k} {ts = ts} w h = omega (arith, ap length w.rest, length-append ts k.rest)

module _ {A : Type 0} (test : Option Token → Bool) (step : A → Parser A) (none : test None ≡ false) (local : (x : A) → Local (step x)) (shorter : (x : A) (i : Input) (y : A) (j : Input) → test (ahead i) ≡ true → step x i ≡ Ok (y, j) → length j.rest < length i.rest) where
  -- a step is read anew, and what follows it with less fuel
  pub step_anew : (x z : A) (n : ℕ) (us vs : List Token) (k m : ℕ) (l : Input) (r : Result (A × Input) DocFault) → test (ahead (behind us k (behind vs m l))) ≡ true → step x (behind us k (behind vs m l)) ≡ Ok (z, behind vs m l) → 1 ≤ length us → length ((us ++ vs) ++ l.rest) ≤ n → ((f : ℕ) → length (vs ++ l.rest) ≤ f → repeated test step f z (behind vs m l) ≡ r) → repeated test step n x (behind (us ++ vs) (k + m) l) ≡ r
  step_anew x z zero us vs k m l r t h some few rest = absurd (omega (arith, length-append (us ++ vs) l.rest, length-append us vs))
  step_anew x z (suc n) us vs k m l r t h some few rest =
      ap (repeated test step (suc n) x) (behind_both us vs k m l refl refl) ∙ (again (λ i. step x i) test step n x z (behind us k (behind vs m l)) (behind vs m l) t h ∙ rest n (omega (arith, length-append (us ++ vs) l.rest, length-append us vs, length-append vs l.rest)))

  loop_stops : (x y : A) (i j : Input) → test (ahead i) ≡ false → ◌≡◌ {A = Result (A × Input) DocFault} (Ok (x, i)) (Ok (y, j)) → LoopOk test step x i j y
  loop_stops x y i j t h =
      let e = same_input x y i j h in
      record {
        nodes = 0;
        text = [];
        way = subst (λ k. Way i k 0 []) e (way_none i);
        anew = λ l n few s. ap (repeated test step n x) (last_behind l) ∙ (stopped (λ k. step x k) test step n x l (ap test (s ∙ ap ahead (sym e)) ∙ t) ∙ ap (λ z. Ok (z, l)) (same_value x y i j h));
      }

  loop_ok : (n : ℕ) (x : A) (i : Input) (y : A) (j : Input) → length i.rest ≤ n → repeated test step n x i ≡ Ok (y, j) → LoopOk test step x i j y
  unfolding repeated
  loop_ok zero x i y j few h = loop_stops x y i j (ap test (no_token i.rest few) ∙ none) h
  loop_ok (suc n) x i y j few h = elim (went_on test step n x i y j h) [
    | ended t e ↦ loop_stops x y i j t e
    | went z k t g g2 ↦ (
        let a = (local x).ok i z k g in
        let lt = shorter x i z k t g in
        let c = loop_ok n z k y j (omega arith) g2 in
        record {
          nodes = a.nodes + c.nodes;
          text = a.text ++ c.text;
          way = way_then a.way c.way;
          anew = λ l m many s.
              let same = ahead_again l c.way s in
              step_anew x z m a.text c.text a.nodes c.nodes l (Ok (y, l)) (ap test (ahead_again (behind c.text c.nodes l) a.way same) ∙ t) (a.again (behind c.text c.nodes l) same) (some_text a.way lt) many (λ f enough. c.anew l f enough s);
        })
  ]

  while_ok : (x : A) (i : Input) (y : A) (j : Input) → while_next test step x i ≡ Ok (y, j) → LocalOk (while_next test step x) i j y
  unfolding while_next
  while_ok x i y j h =
      let c = loop_ok (length i.rest) x i y j (omega arith) h in
      record { nodes = c.nodes; text = c.text; way = c.way; again = λ l s. c.anew l (length (c.text ++ l.rest)) (omega arith) s }

  pub local_while : (x : A) → Local (while_next test step x)
  local_while x = record { ok = while_ok x }
