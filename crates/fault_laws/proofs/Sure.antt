-- Readings whose answer, a value or a fault, depends on the tokens that they take and on the next one alone. They
-- may keep the number of nodes (`Kept`), and their faults may stand before the next token (`Early`), or not.
use Rattle.std.proofs.Common.{◌≡◌, ℕ, zero, suc, ◌+◌, ◌≤◌, ◌<◌, Bool, true, false, List, [], ◌∷◌, ◌++◌, length, Option, None, Ok, Err, inl, inr, refl, sym, ap, ◌∙◌, arith, append_assoc}
use Rattle.qml_ast.specs.declared.fault.DocFault.{DocFault}
use Rattle.qml_ast.specs.declared.span.Span.{Span}
use Rattle.qml_grammar.specs.Inputs.{Input, Parser, ahead, place, repeated, while_next}
use Rattle.qml_grammar.specs.Lexemes.{Token}
use Rattle.grammar_laws.specs.Faults.{IsFaultAt, IsLike}
use Rattle.grammar_laws.specs.Laws.{Way}
use Rattle.grammar_laws.proofs.Behind.{behind, behind_both, last_behind, ok_then, if_true, if_false, found, missing}
use Rattle.grammar_laws.proofs.Growing.{stopped, went, went_on}
use Rattle.grammar_laws.proofs.Local.{LocalOk, Local, ahead_again, followed, branch, choose, chosen, not_chosen, chosen_in, before, onward, bind_err, err_then, local_followed, local_branch, local_choose}
use Rattle.grammar_laws.proofs.LocalLoops.{some_text, step_anew, local_while}
use Rattle.grammar_laws.proofs.Tools.{bind_ok, way_none, way_then, if_ok, same_input}
use Rattle.grammar_laws.proofs.Viable.{AtOnce, now, later, stuck_on, fail_anew}
use Rattle.fault_laws.specs.Faults.{StandsIn, behind as is_behind, refused, named}

-- where a fault stands: at the next token, or, if that may be, before it
pub data Stands (Early : Type 0) (fault : DocFault) (text : List Token) (next : Span) : Type 0 where
  at_next : IsFaultAt fault next → Stands Early fault text next
  early : Early → StandsIn fault text next → Stands Early fault text next

pub record Fails (Kept Early : Type 0) {A : Type 0} (p : Parser A) (i : Input) (e : DocFault) : Type 0 where
  pub nodes : ℕ
  pub text : List Token
  pub at : Input
  pub way : Way i at nodes text
  pub keeps : Kept → i.nodes ≡ at.nodes
  pub place : Stands Early e text (place at)
  pub again : (l : Input) → IsLike l at → p (behind text nodes l) ≡ Err e

pub record Sure (Kept Early : Type 0) {A : Type 0} (p : Parser A) : Type 0 where
  pub local : Local p
  pub keeps : Kept → (i : Input) (x : A) (j : Input) → p i ≡ Ok (x, j) → i.nodes ≡ j.nodes
  pub fails : (i : Input) (e : DocFault) → p i ≡ Err e → Fails Kept Early p i e

-- Where a fault stands

stands_within : (us : List Token) {e : DocFault} {text : List Token} {s : Span} → StandsIn e text s → StandsIn e (us ++ text) s
stands_within us (is_behind h) = is_behind h
stands_within us (refused vs t ws h is e) = refused (us ++ vs) t ws (ap (λ ts. us ++ ts) h ∙ sym (append_assoc us vs (t ∷ ws))) is e
stands_within us (named vs ws t zs h is first e) = named (us ++ vs) ws t zs (ap (λ ts. us ++ ts) h ∙ sym (append_assoc us vs (ws ++ t ∷ zs))) is first e

pub stands_behind : (us : List Token) {Early : Type 0} {e : DocFault} {text : List Token} {s : Span} → Stands Early e text s → Stands Early e (us ++ text) s
stands_behind us (at_next h) = at_next h
stands_behind us (early a h) = early a (stands_within us h)

pub at_once : {Kept Early : Type 0} {A : Type 0} {p : Parser A} {i : Input} {e : DocFault} → AtOnce p i e → Fails Kept Early p i e
at_once {p = p} {i = i} a = record {
  nodes = 0;
  text = [];
  at = i;
  way = way_none i;
  keeps = λ k. refl;
  place = at_next a.place;
  again = λ l s. ap p (last_behind l) ∙ a.alike l s;
}

module _ (Kept Early : Type 0) where
  -- One reading after another one

  pub fails_first : {A B : Type 0} (p : Parser A) (f : A → Parser B) (i : Input) (e : DocFault) → Fails Kept Early p i e → Fails Kept Early (followed p f) i e
  fails_first p f i e a = record { nodes = a.nodes; text = a.text; at = a.at; way = a.way; keeps = a.keeps; place = a.place; again = λ l s. err_then _ (a.again l s) }

  pub fails_onward : {A B : Type 0} (p : Parser A) (f : A → Parser B) (i k : Input) (x : A) (e : DocFault) → LocalOk p i k x → (Kept → i.nodes ≡ k.nodes) → Fails Kept Early (f x) k e → Fails Kept Early (followed p f) i e
  fails_onward p f i k x e a kept c = record {
    nodes = a.nodes + c.nodes;
    text = a.text ++ c.text;
    at = c.at;
    way = way_then a.way c.way;
    keeps = λ z. kept z ∙ c.keeps z;
    place = stands_behind a.text c.place;
    again = λ l s. ap (followed p f) (behind_both a.text c.text a.nodes c.nodes l refl refl) ∙ ok_then _ (a.again (behind c.text c.nodes l) (ahead_again l c.way s.ahead)) (c.again l s);
  }

  module _ {A B : Type 0} (p : Parser A) (f : A → Parser B) (first : Sure Kept Early p) (second : (x : A) → Sure Kept Early (f x)) where
    then_keeps : Kept → (i : Input) (y : B) (j : Input) → followed p f i ≡ Ok (y, j) → i.nodes ≡ j.nodes
    then_keeps z i y j h =
        let b = bind_ok (p i) _ _ h in
        first.keeps z i b.value b.at b.first ∙ (second b.value).keeps z b.at y j b.onward

    then_fails : (i : Input) (e : DocFault) → followed p f i ≡ Err e → Fails Kept Early (followed p f) i e
    then_fails i e h = elim (bind_err (p i) _ _ h) [
      | before g ↦ fails_first p f i e (first.fails i e g)
      | onward x k g g2 ↦ fails_onward p f i k x e (first.local.ok i x k g) (λ z. first.keeps z i x k g) ((second x).fails k e g2)
    ]

  pub sure_followed : {A B : Type 0} {p : Parser A} {f : A → Parser B} → Sure Kept Early p → ((x : A) → Sure Kept Early (f x)) → Sure Kept Early (followed p f)
  sure_followed {p = p} {f = f} first second = record {
    local = local_followed first.local (λ x. (second x).local);
    keeps = then_keeps p f first second;
    fails = then_fails p f first second;
  }

  -- A reading by the next token

  pub fails_if : {A : Type 0} (test : Option Token → Bool) (p q : Parser A) (i : Input) (e : DocFault) → test (ahead i) ≡ true → Fails Kept Early p i e → Fails Kept Early (branch test p q) i e
  fails_if test p q i e t c = record { nodes = c.nodes; text = c.text; at = c.at; way = c.way; keeps = c.keeps; place = c.place; again = λ l s. if_true _ _ (ap test (ahead_again l c.way s.ahead) ∙ t) (c.again l s) }

  pub fails_else : {A : Type 0} (test : Option Token → Bool) (p q : Parser A) (i : Input) (e : DocFault) → test (ahead i) ≡ false → Fails Kept Early q i e → Fails Kept Early (branch test p q) i e
  fails_else test p q i e t c = record { nodes = c.nodes; text = c.text; at = c.at; way = c.way; keeps = c.keeps; place = c.place; again = λ l s. if_false _ _ (ap test (ahead_again l c.way s.ahead) ∙ t) (c.again l s) }

  module _ {A : Type 0} (test : Option Token → Bool) (p q : Parser A) (if_so : Sure Kept Early p) (not_so : Sure Kept Early q) where
    branch_keeps : Kept → (i : Input) (x : A) (j : Input) → branch test p q i ≡ Ok (x, j) → i.nodes ≡ j.nodes
    branch_keeps z i x j h = elim (if_ok (test (ahead i)) _ _ _ h) [
      | inl a ↦ if_so.keeps z i x j a.1
      | inr a ↦ not_so.keeps z i x j a.1
    ]

    branch_fails : (i : Input) (e : DocFault) → branch test p q i ≡ Err e → Fails Kept Early (branch test p q) i e
    branch_fails i e h = elim (if_ok (test (ahead i)) _ _ _ h) [
      | inl a ↦ fails_if test p q i e a.0 (if_so.fails i e a.1)
      | inr a ↦ fails_else test p q i e a.0 (not_so.fails i e a.1)
    ]

  pub sure_branch : {A : Type 0} (test : Option Token → Bool) {p q : Parser A} → Sure Kept Early p → Sure Kept Early q → Sure Kept Early (branch test p q)
  sure_branch test {p = p} {q = q} if_so not_so = record {
    local = local_branch test if_so.local not_so.local;
    keeps = branch_keeps test p q if_so not_so;
    fails = branch_fails test p q if_so not_so;
  }

  module _ {A B : Type 0} (table : Option Token → Option B) (p : B → Parser A) (q : Parser A) (if_so : (y : B) → Sure Kept Early (p y)) (not_so : Sure Kept Early q) where
    choose_keeps : Kept → (i : Input) (x : A) (j : Input) → choose table p q i ≡ Ok (x, j) → i.nodes ≡ j.nodes
    choose_keeps z i x j h = elim (chosen_in (table (ahead i)) _ _ _ h) [
      | chosen w e g ↦ (if_so w).keeps z i x j g
      | not_chosen e g ↦ not_so.keeps z i x j g
    ]

    choose_fails : (i : Input) (e : DocFault) → choose table p q i ≡ Err e → Fails Kept Early (choose table p q) i e
    choose_fails i e h = elim (chosen_in (table (ahead i)) _ _ _ h) [
      | chosen y o g ↦ (let c = (if_so y).fails i e g in record { nodes = c.nodes; text = c.text; at = c.at; way = c.way; keeps = c.keeps; place = c.place; again = λ l s. found _ _ (ap table (ahead_again l c.way s.ahead) ∙ o) (c.again l s) })
      | not_chosen o g ↦ (let c = not_so.fails i e g in record { nodes = c.nodes; text = c.text; at = c.at; way = c.way; keeps = c.keeps; place = c.place; again = λ l s. missing _ _ (ap table (ahead_again l c.way s.ahead) ∙ o) (c.again l s) })
    ]

  pub sure_choose : {A B : Type 0} (table : Option Token → Option B) {p : B → Parser A} {q : Parser A} → ((y : B) → Sure Kept Early (p y)) → Sure Kept Early q → Sure Kept Early (choose table p q)
  sure_choose table {p = p} {q = q} if_so not_so = record {
    local = local_choose table (λ y. (if_so y).local) not_so.local;
    keeps = choose_keeps table p q if_so not_so;
    fails = choose_fails table p q if_so not_so;
  }

  -- Loops

  -- the fuel does not matter where it is enough
  record LoopFails {A : Type 0} (test : Option Token → Bool) (step : A → Parser A) (x : A) (i : Input) (e : DocFault) : Type 0 where
    nodes : ℕ
    text : List Token
    at : Input
    way : Way i at nodes text
    keeps : Kept → i.nodes ≡ at.nodes
    place : Stands Early e text (place at)
    anew : (l : Input) (n : ℕ) → length (text ++ l.rest) ≤ n → IsLike l at → repeated test step n x (behind text nodes l) ≡ Err e

  module _ {A : Type 0} (test : Option Token → Bool) (step : A → Parser A) (none : test None ≡ false) (sure : (x : A) → Sure Kept Early (step x)) (less : (x : A) (i : Input) (y : A) (j : Input) → test (ahead i) ≡ true → step x i ≡ Ok (y, j) → length j.rest < length i.rest) where
    loop_keeps : Kept → (n : ℕ) (x : A) (i : Input) (y : A) (j : Input) → repeated test step n x i ≡ Ok (y, j) → i.nodes ≡ j.nodes
    unfolding repeated
    loop_keeps z zero x i y j h = ap (λ (l : Input). l.nodes) (same_input x y i j h)
    loop_keeps z (suc n) x i y j h = elim (went_on test step n x i y j h) [
      | stopped t e ↦ ap (λ (l : Input). l.nodes) (same_input x y i j e)
      | went w k t g g2 ↦ (sure x).keeps z i w k g ∙ loop_keeps z n w k y j g2
    ]

    loop_fails : (n : ℕ) (x : A) (i : Input) (e : DocFault) → length i.rest ≤ n → repeated test step n x i ≡ Err e → LoopFails test step x i e
    unfolding repeated
    loop_fails zero x i e few h = absurd cc
    loop_fails (suc n) x i e few h = elim (stuck_on test step n x i e h) [
      | now t g ↦ (
          let a = (sure x).fails i e g in
          record {
            nodes = a.nodes;
            text = a.text;
            at = a.at;
            way = a.way;
            keeps = a.keeps;
            place = a.place;
            anew = λ l f many s. fail_anew test step none x f a.text a.nodes l e (ap test (ahead_again l a.way s.ahead) ∙ t) (a.again l s) many;
          })
      | later y k t g g2 ↦ (
          let r = (sure x).local.ok i y k g in
          let lt = less x i y k t g in
          let c = loop_fails n y k e (omega arith) g2 in
          record {
            nodes = r.nodes + c.nodes;
            text = r.text ++ c.text;
            at = c.at;
            way = way_then r.way c.way;
            keeps = λ z. (sure x).keeps z i y k g ∙ c.keeps z;
            place = stands_behind r.text c.place;
            anew = λ l f many s.
                let same = ahead_again l c.way s.ahead in
                step_anew test step none (λ w. (sure w).local) less x y f r.text c.text r.nodes c.nodes l (Err e) (ap test (ahead_again (behind c.text c.nodes l) r.way same) ∙ t) (r.again (behind c.text c.nodes l) same) (some_text r.way lt) many (λ q enough. c.anew l q enough s);
          })
    ]

    while_fails : (x : A) (i : Input) (e : DocFault) → while_next test step x i ≡ Err e → Fails Kept Early (while_next test step x) i e
    unfolding while_next
    while_fails x i e h =
        let c = loop_fails (length i.rest) x i e (omega arith) h in
        record { nodes = c.nodes; text = c.text; at = c.at; way = c.way; keeps = c.keeps; place = c.place; again = λ l s. c.anew l (length (c.text ++ l.rest)) (omega arith) s }

    while_keeps : Kept → (x : A) (i : Input) (y : A) (j : Input) → while_next test step x i ≡ Ok (y, j) → i.nodes ≡ j.nodes
    unfolding while_next
    while_keeps z x i y j h = loop_keeps z (length i.rest) x i y j h

    pub sure_while : (x : A) → Sure Kept Early (while_next test step x)
    sure_while x = record {
      local = local_while test step none (λ y. (sure y).local) less x;
      keeps = λ z i y j h. while_keeps z x i y j h;
      fails = while_fails x;
    }
