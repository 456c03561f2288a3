-- Single tokens, faults, and readings that look at where they stand or at what was read before them.
use Rattle.std.proofs.Common.{◌≡◌, ℕ, ◌+◌, ◌-◌, true, is_some, List, ◌++◌, length, take, Option, Some, None, Result, Ok, Err, refl, sym, ap, subst₂, ◌∙◌, arith, length-append}
use Rattle.std.proofs.Math.Seq.{take-append_seam}
use Rattle.qml_ast.specs.declared.fault.DocFault.{DocFault}
use Rattle.qml_ast.specs.declared.fault.DocFault.TheVariants.{TooDeep, Unsupported}
use Rattle.qml_ast.specs.declared.span.Span.{Span}
use Rattle.qml_grammar.specs.Ends.{since, may_end, end_behind, ended}
use Rattle.qml_grammar.specs.Inputs.{Input, Parser, ahead, after, place, refusal, operand_refusal, too_deep, take_token, take_node, expect, any_name}
use Rattle.qml_grammar.specs.Lexemes.{Token, last_of, name_of, is_mark}
use Rattle.qml_grammar.specs.declared.mark.Mark.{Mark}
use Rattle.qml_grammar.specs.declared.mark.Mark.TheVariants.{Semicolon}
use Rattle.grammar_laws.specs.Faults.{unsupported as is_unsupported}
use Rattle.grammar_laws.proofs.Behind.{behind, behind_both, ok_then, same_input_by}
use Rattle.grammar_laws.proofs.Local.{LocalOk, Local, ahead_again, place_again, followed, before, onward, bind_err, err_then}
use Rattle.grammar_laws.proofs.LocalTokens.{local_failing, local_pure, local_after, local_node}
use Rattle.grammar_laws.proofs.Reading.{full}
use Rattle.grammar_laws.proofs.Tools.{bind_ok, way_then, same_value, same_input}
use Rattle.grammar_laws.proofs.Viable.{failing_once, once_as, same_fault, refused_once, operand_refused_once, too_deep_once, node_once, pure_reads}
use Rattle.fault_laws.proofs.Sure.{Fails, Sure, stands_behind, at_once, sure_followed, sure_branch, sure_choose}

-- Faults and values

module _ (Kept Early : Type 0) where
  pub sure_refused : {A : Type 0} → Sure Kept Early {A = A} (λ i. Err (refusal i))
  sure_refused = record { local = local_failing (λ i. refusal i); keeps = λ k i x j h. absurd cc; fails = λ i e h. at_once (refused_once i e h) }

  pub sure_operand_refused : {A : Type 0} → Sure Kept Early {A = A} (λ i. Err (operand_refusal i))
  sure_operand_refused = record { local = local_failing (λ i. operand_refusal i); keeps = λ k i x j h. absurd cc; fails = λ i e h. at_once (operand_refused_once i e h) }

  pub sure_too_deep : {A : Type 0} → Sure Kept Early {A = A} too_deep
  sure_too_deep = record { local = local_failing (λ i. TooDeep (place i)); keeps = λ k i x j h. absurd cc; fails = λ i e h. at_once (too_deep_once i e h) }

  pub sure_unsupported : {A : Type 0} → Sure Kept Early {A = A} (λ i. Err (Unsupported (place i)))
  sure_unsupported {A = A} = record {
    local = local_failing (λ i. Unsupported (place i));
    keeps = λ k i x j h. absurd cc;
    fails = λ i e h. at_once (once_as (failing_once (λ o s. Unsupported s) (λ o s. is_unsupported refl) i) (same_fault {A = A} (Unsupported (place i)) e h));
  }

  pub sure_pure : {A : Type 0} (x : A) → Sure Kept Early (λ i. Ok (x, i))
  sure_pure x = record {
    local = local_pure x;
    keeps = λ k i y j h. ap (λ (l : Input). l.nodes) (same_input x y i j h);
    fails = λ i e h. absurd (pure_reads x i e h);
  }

  -- Tokens

  pub sure_after : {A : Type 0} (x : A) → Sure Kept Early (λ i. Ok (x, after i))
  sure_after x = record {
    local = local_after x;
    keeps = λ k i y j h. ap (λ (l : Input). l.nodes) (same_input x y (after i) j h);
    fails = λ i e h. absurd (pure_reads x (after i) e h);
  }

  pub sure_token : Sure Kept Early take_token
  sure_token = sure_after tt

  pub sure_expect : (m : Mark) → Sure Kept Early (expect m)
  sure_expect m = sure_branch Kept Early (is_mark m) (sure_after tt) sure_refused

  pub sure_name : Sure Kept Early any_name
  sure_name = sure_choose Kept Early name_of (λ n. sure_after n) sure_refused

  -- By what stands ahead at first

  abbrev pub by_ahead : {A : Type 0} → (Option Token → Parser A) → Parser A
  by_ahead f i = f (ahead i) i

  module _ {A : Type 0} (f : Option Token → Parser A) (sure : (o : Option Token) → Sure Kept Early (f o)) where
    ahead_ok : (i : Input) (x : A) (j : Input) → f (ahead i) i ≡ Ok (x, j) → LocalOk (λ k. f (ahead k) k) i j x
    ahead_ok i x j h =
        let a = (sure (ahead i)).local.ok i x j h in
        record { nodes = a.nodes; text = a.text; way = a.way; again = λ l s. ap (λ o. f o (behind a.text a.nodes l)) (ahead_again l a.way s) ∙ a.again l s }

    ahead_fails : (i : Input) (e : DocFault) → f (ahead i) i ≡ Err e → Fails Kept Early (λ k. f (ahead k) k) i e
    ahead_fails i e h =
        let a = (sure (ahead i)).fails i e h in
        record { nodes = a.nodes; text = a.text; at = a.at; way = a.way; keeps = a.keeps; place = a.place; again = λ l s. ap (λ o. f o (behind a.text a.nodes l)) (ahead_again l a.way s.ahead) ∙ a.again l s }

    pub sure_ahead : Sure Kept Early (λ i. f (ahead i) i)
    sure_ahead = record { local = record { ok = ahead_ok }; keeps = λ z i x j h. (sure (ahead i)).keeps z i x j h; fails = ahead_fails }

  -- By the place where it begins

  abbrev place_at : Option Token → Span → Span
  place_at o s = elim o [ Some t ↦ t.span | None ↦ s ]

  same_place : (o p : Option Token) (s z : Span) → o ≡ p → is_some p ≡ true → place_at o s ≡ place_at p z
  same_place o None s z e h = absurd cc
  same_place o (Some t) s z e h = ap (λ q. place_at q s) e

  pub place_by : (k i : Input) → ahead k ≡ ahead i → is_some (ahead i) ≡ true → place k ≡ place i
  place_by k i e h = same_place (ahead k) (ahead i) k.end i.end e h

  module _ {A : Type 0} (f : Span → Parser A) (local : (s : Span) → Local (f s)) (wants : (i : Input) (x : A) (j : Input) → f (place i) i ≡ Ok (x, j) → is_some (ahead i) ≡ true) where
    placed_ok : (i : Input) (x : A) (j : Input) → f (place i) i ≡ Ok (x, j) → LocalOk (λ k. f (place k) k) i j x
    placed_ok i x j h =
        let a = (local (place i)).ok i x j h in
        record { nodes = a.nodes; text = a.text; way = a.way; again = λ l s. ap (λ z. f z (behind a.text a.nodes l)) (place_by (behind a.text a.nodes l) i (ahead_again l a.way s) (wants i x j h)) ∙ a.again l s }

    pub local_placed : Local (λ i. f (place i) i)
    local_placed = record { ok = placed_ok }

  module _ {A : Type 0} (f : Span → Parser A) (sure : (s : Span) → Sure Kept Early (f s)) (wants : (i : Input) (x : A) (j : Input) → f (place i) i ≡ Ok (x, j) → is_some (ahead i) ≡ true) where
    placed_fails : (i : Input) (e : DocFault) → f (place i) i ≡ Err e → Fails Kept Early (λ k. f (place k) k) i e
    placed_fails i e h =
        let a = (sure (place i)).fails i e h in
        record { nodes = a.nodes; text = a.text; at = a.at; way = a.way; keeps = a.keeps; place = a.place; again = λ l s. ap (λ z. f z (behind a.text a.nodes l)) (place_again l a.way s.place) ∙ a.again l s }

    pub sure_placed : Sure Kept Early (λ i. f (place i) i)
    sure_placed = record { local = local_placed f (λ s. (sure s).local) wants; keeps = λ z i x j h. (sure (place i)).keeps z i x j h; fails = placed_fails }

pub sure_node : (Early : Type 0) → Sure ⊥ Early take_node
sure_node Early = record { local = local_node; keeps = λ z. absurd z; fails = λ i e h. at_once (node_once i e h) }

-- By what was read before

taken : {A : Type 0} (ts us : List A) (n : ℕ) → n ≡ length ts → take n (ts ++ us) ≡ ts
taken ts us n h = ap (λ m. take m (ts ++ us)) h ∙ take-append_seam ts us

since_at : (from ts now : List Token) → from ≡ ts ++ now → since from now ≡ ts
since_at from ts now h =
    let long : length from ≡ length ts + length now = ap length h ∙ length-append ts now in
    ap (take (length from - length now - 0)) h ∙ taken ts now (length from - length now - 0) (omega (arith, long))

abbrev pub since_followed : {A B : Type 0} → Parser A → (List Token → A → Parser B) → Parser B
since_followed p f i = elim (p i) [ Ok r ↦ f (since i.rest (r.1).rest) r.0 r.1 | Err e ↦ Err e ]

module _ (Kept Early : Type 0) {A B : Type 0} (p : Parser A) (f : List Token → A → Parser B) (first : Sure Kept Early p) (second : (ts : List Token) (x : A) → Sure Kept Early (f ts x)) where
  -- with the same text the second reading is the same
  pub as_before : (i k : Input) (x : A) (a : LocalOk p i k x) (vs : List Token) (n : ℕ) (l : Input) (r : Result (B × Input) DocFault) → ahead (behind vs n l) ≡ ahead k → f (since i.rest k.rest) x (behind vs n l) ≡ r → since_followed p f (behind (a.text ++ vs) (a.nodes + n) l) ≡ r
  as_before i k x a vs n l r s h =
      let was : since i.rest k.rest ≡ a.text = since_at i.rest a.text k.rest (a.way).rest in
      let is : since (a.text ++ (vs ++ l.rest)) (vs ++ l.rest) ≡ a.text = since_at (a.text ++ (vs ++ l.rest)) a.text (vs ++ l.rest) refl in
      ap (since_followed p f) (behind_both a.text vs a.nodes n l refl refl) ∙ ok_then _ (a.again (behind vs n l) s) (ap (λ ts. f ts x (behind vs n l)) (is ∙ sym was) ∙ h)

  since_ok : (i : Input) (y : B) (j : Input) → since_followed p f i ≡ Ok (y, j) → LocalOk (since_followed p f) i j y
  since_ok i y j h =
      let b = bind_ok (p i) _ _ h in
      let a = first.local.ok i b.value b.at b.first in
      let c = (second (since i.rest b.at.rest) b.value).local.ok b.at y j b.onward in
      record {
        nodes = a.nodes + c.nodes;
        text = a.text ++ c.text;
        way = way_then a.way c.way;
        again = λ l s. as_before i b.at b.value a c.text c.nodes l _ (ahead_again l c.way s) (c.again l s);
      }

  since_keeps : Kept → (i : Input) (y : B) (j : Input) → since_followed p f i ≡ Ok (y, j) → i.nodes ≡ j.nodes
  since_keeps z i y j h =
      let b = bind_ok (p i) _ _ h in
      first.keeps z i b.value b.at b.first ∙ (second (since i.rest b.at.rest) b.value).keeps z b.at y j b.onward

  since_fails : (i : Input) (e : DocFault) → since_followed p f i ≡ Err e → Fails Kept Early (since_followed p f) i e
  since_fails i e h = elim (bind_err (p i) _ _ h) [
    | before g ↦ (let a = first.fails i e g in record { nodes = a.nodes; text = a.text; at = a.at; way = a.way; keeps = a.keeps; place = a.place; again = λ l s. err_then _ (a.again l s) })
    | onward x k g g2 ↦ (
        let a = first.local.ok i x k g in
        let c = (second (since i.rest k.rest) x).fails k e g2 in
        record {
          nodes = a.nodes + c.nodes;
          text = a.text ++ c.text;
          at = c.at;
          way = way_then a.way c.way;
          keeps = λ z. first.keeps z i x k g ∙ c.keeps z;
          place = stands_behind a.text c.place;
          again = λ l s. as_before i k x a c.text c.nodes l _ (ahead_again l c.way s.ahead) (c.again l s);
        })
  ]

  pub sure_since : Sure Kept Early (since_followed p f)
  sure_since = record { local = record { ok = since_ok }; keeps = since_keeps; fails = since_fails }

pub end_sure : (Kept Early : Type 0) (last : Option Token) → Sure Kept Early (end_behind last)
unfolding end_behind
end_sure Kept Early last = sure_branch Kept Early (is_mark Semicolon) (sure_after Kept Early tt) (sure_branch Kept Early (may_end last) (sure_pure Kept Early tt) (sure_refused Kept Early))

pub sure_ended : (Kept Early : Type 0) {A : Type 0} (p : Parser A) → Sure Kept Early p → Sure Kept Early (ended p)
unfolding ended
sure_ended Kept Early p sure = sure_since Kept Early p (λ ts x. followed (end_behind (last_of ts)) (λ u i. Ok (x, i))) sure (λ ts x. sure_followed Kept Early (end_sure Kept Early (last_of ts)) (λ u. sure_pure Kept Early x))

-- With a count of nodes of its own

abbrev pub apart : {A : Type 0} → Parser A → Parser A
apart p i = elim (p (full i)) [ Ok r ↦ Ok (r.0, record { rest = (r.1).rest; end = (r.1).end; nodes = i.nodes }) | Err e ↦ Err e ]

abbrev counting : Input → ℕ → Input
counting k n = record { rest = k.rest; end = k.end; nodes = n }

module _ (Early : Type 0) {A : Type 0} (p : Parser A) (sure : Sure ⊥ Early p) where
  apart_again : (text : List Token) (n m : ℕ) (l : Input) → 200 ≡ n + m → full (behind text 0 l) ≡ behind text n (counting l m)
  apart_again text n m l h = same_input_by refl refl h

  apart_from : (i k : Input) (x : A) → LocalOk p (full i) k x → LocalOk (apart p) i (counting k i.nodes) x
  apart_from i k x a = record {
    nodes = 0;
    text = a.text;
    way = record { rest = (a.way).rest; used = omega arith; end = (a.way).end };
    again = λ l s. ok_then _ (ap p (apart_again a.text a.nodes (200 - a.nodes) l (omega (arith, (a.way).used))) ∙ a.again (counting l (200 - a.nodes)) s) (ap (λ j. Ok (x, j)) (same_input_by refl refl (omega arith)));
  }

  apart_ok : (i : Input) (x : A) (j : Input) → apart p i ≡ Ok (x, j) → LocalOk (apart p) i j x
  apart_ok i x j h =
      let b = bind_ok (p (full i)) _ _ h in
      let a = apart_from i b.at b.value (sure.local.ok (full i) b.value b.at b.first) in
      subst₂ (λ z l. LocalOk (apart p) i l z) (same_value b.value x (counting b.at i.nodes) j b.onward) (same_input b.value x (counting b.at i.nodes) j b.onward) a

  apart_keeps : (i : Input) (x : A) (j : Input) → apart p i ≡ Ok (x, j) → i.nodes ≡ j.nodes
  apart_keeps i x j h =
      let b = bind_ok (p (full i)) _ _ h in
      ap (λ (l : Input). l.nodes) (same_input b.value x (counting b.at i.nodes) j b.onward)

  apart_failed : (i : Input) (e : DocFault) → apart p i ≡ Err e → p (full i) ≡ Err e
  apart_failed i e h = elim (bind_err (p (full i)) _ _ h) [ before g ↦ g | onward x j g f ↦ absurd cc ]

  apart_fails : (i : Input) (e : DocFault) → apart p i ≡ Err e → Fails (Unit {0}) Early (apart p) i e
  apart_fails i e h =
      let a = sure.fails (full i) e (apart_failed i e h) in
      record {
        nodes = 0;
        text = a.text;
        at = counting a.at i.nodes;
        way = record { rest = (a.way).rest; used = omega arith; end = (a.way).end };
        keeps = λ z. refl;
        place = a.place;
        again = λ l s. err_then _ (ap p (apart_again a.text a.nodes a.at.nodes l (a.way).used) ∙ a.again (counting l a.at.nodes) (record { ahead = s.ahead; place = s.place; nodes = refl }));
      }

  pub sure_apart : Sure (Unit {0}) Early (apart p)
  sure_apart = record { local = record { ok = apart_ok }; keeps = λ z. apart_keeps; fails = apart_fails }
