-- Readings that take a first token for sure before they give a value or a fault, and choices by tests that look
-- further ahead.
use Rattle.std.proofs.Common.{◌≡◌, ℕ, ◌+◌, ◌<◌, ◌&&◌, Bool, true, false, if◌then◌else◌, is_some, List, [], ◌∷◌, ◌++◌, length, Option, Some, None, Result, Ok, Err, inl, inr, refl, sym, ap, subst, ◌∙◌, arith, append_assoc}
use Rattle.qml_ast.specs.declared.fault.DocFault.{DocFault}
use Rattle.qml_ast.specs.declared.fault.DocFault.TheVariants.{Unsupported}
use Rattle.qml_ast.specs.declared.span.Span.{Span}
use Rattle.qml_grammar.specs.Ends.{end_behind, ended}
use Rattle.qml_grammar.specs.Inputs.{Input, Parser, ahead, after, place, refusal, any_name}
use Rattle.qml_grammar.specs.Lexemes.{Token, head, tail, last_of, name_of, is_name}
use Rattle.qml_grammar.specs.Names.{upper_first, name_is}
use Rattle.grammar_laws.specs.Faults.{IsLike}
use Rattle.grammar_laws.specs.Laws.{Way}
use Rattle.grammar_laws.proofs.Behind.{behind, behind_both, ok_then, if_true, if_false, found, missing}
use Rattle.grammar_laws.proofs.Local.{LocalOk, ahead_again, place_again, followed, branch, choose, chosen, not_chosen, chosen_in, before, onward, bind_err, err_then}
use Rattle.grammar_laws.proofs.Tools.{way_then, ahead_some, if_ok}
use Rattle.grammar_laws.proofs.Viable.{same_fault}
use Rattle.fault_laws.specs.Faults.{are_dotted, is_dotted, StandsIn, behind as is_behind, refused, named}
use Rattle.fault_laws.proofs.Dotted.{Seen, dotted_end, head_same, both_true, first_true}
use Rattle.fault_laws.proofs.Grows.{Grows, grows_name}
use Rattle.fault_laws.proofs.Sure.{Stands, at_next, early, Fails, Sure, stands_behind, sure_followed}
use Rattle.fault_laws.proofs.SureTokens.{since_followed, as_before, sure_pure, sure_name, end_sure}

-- the token comes first, and then others
pub record FirmOk (t : Token) {A : Type 0} (p : Parser A) (i : Input) (x : A) (j : Input) : Type 0 where
  pub nodes : ℕ
  pub others : List Token
  pub way : Way i j nodes (t ∷ others)
  pub keeps : i.nodes ≡ j.nodes
  pub again : (l : Input) → ahead l ≡ ahead j → p (behind (t ∷ others) nodes l) ≡ Ok (x, l)

pub record FirmFails (t : Token) {A : Type 0} (p : Parser A) (i : Input) (e : DocFault) : Type 0 where
  pub nodes : ℕ
  pub others : List Token
  pub at : Input
  pub way : Way i at nodes (t ∷ others)
  pub keeps : i.nodes ≡ at.nodes
  pub place : Stands (Unit {0}) e (t ∷ others) (place at)
  pub again : (l : Input) → IsLike l at → p (behind (t ∷ others) nodes l) ≡ Err e

pub record Firm (t : Token) {A : Type 0} (p : Parser A) (i : Input) : Type 0 where
  pub ok : (x : A) (j : Input) → p i ≡ Ok (x, j) → FirmOk t p i x j
  pub fails : (e : DocFault) → p i ≡ Err e → FirmFails t p i e

-- A first token

-- the first token and the others
record Front (t : Token) (ts : List Token) : Type 0 where
  others : List Token
  text : ts ≡ t ∷ others

abbrev pub or_first : Token → List Token → Token
or_first t [] = t
or_first t (u ∷ us) = u

front_in : (t : Token) (ts r all : List Token) → all ≡ ts ++ r → all ≡ t ∷ tail all → length r < length all → Front t ts
front_in t [] r all h e lt = absurd (omega (arith, ap length h))
front_in t (u ∷ us) r all h e lt = record { others = us; text = ap (λ (v : Token). v ∷ us) (let same : u ∷ (us ++ r) ≡ t ∷ tail all = sym h ∙ e in ap (or_first t) same) }

pub some_first : (t : Token) (i : Input) → i.rest ≡ t ∷ tail i.rest → is_some (ahead i) ≡ true
some_first t i h = ap (λ ts. is_some (head ts)) h

module _ {A : Type 0} (t : Token) (p : Parser A) (i : Input) (first : i.rest ≡ t ∷ tail i.rest) (sure : Sure (Unit {0}) (Unit {0}) p) (grows : Grows p) where
  front : (x : A) (j : Input) → p i ≡ Ok (x, j) → (a : LocalOk p i j x) → Front t a.text
  front x j h a = front_in t a.text j.rest i.rest (a.way).rest first (grows i x j (some_first t i first) h)

  pub firm_ok : (x : A) (j : Input) → p i ≡ Ok (x, j) → FirmOk t p i x j
  firm_ok x j h =
      let a = sure.local.ok i x j h in
      let f = front x j h a in
      record {
        nodes = a.nodes;
        others = f.others;
        way = subst (λ ts. Way i j a.nodes ts) f.text a.way;
        keeps = sure.keeps tt i x j h;
        again = λ l s. subst (λ ts. p (behind ts a.nodes l) ≡ Ok (x, l)) f.text (a.again l s);
      }

  pub firm_of : ((e : DocFault) → p i ≡ Err e → FirmFails t p i e) → Firm t p i
  firm_of fails = record { ok = firm_ok; fails = fails }

  -- behind it a fault of what follows is one behind the first token
  pub firm_followed : {B : Type 0} (f : A → Parser B) → ((x : A) → Sure (Unit {0}) (Unit {0}) (f x)) → ((e : DocFault) → p i ≡ Err e → FirmFails t p i e) → (e : DocFault) → followed p f i ≡ Err e → FirmFails t (followed p f) i e
  firm_followed f second fails e h = elim (bind_err (p i) _ _ h) [
    | before g ↦ (let a = fails e g in record { nodes = a.nodes; others = a.others; at = a.at; way = a.way; keeps = a.keeps; place = a.place; again = λ l s. err_then _ (a.again l s) })
    | onward x k g g2 ↦ (
        let a = firm_ok x k g in
        let c = (second x).fails k e g2 in
        record {
          nodes = a.nodes + c.nodes;
          others = a.others ++ c.text;
          at = c.at;
          way = way_then a.way c.way;
          keeps = a.keeps ∙ c.keeps tt;
          place = stands_behind (t ∷ a.others) c.place;
          again = λ l s. ap (followed p f) (behind_both (t ∷ a.others) c.text a.nodes c.nodes l refl refl) ∙ ok_then _ (a.again (behind c.text c.nodes l) (ahead_again l c.way s.ahead)) (c.again l s);
        })
  ]

  pub firm_since : {B : Type 0} (f : List Token → A → Parser B) → ((ts : List Token) (x : A) → Sure (Unit {0}) (Unit {0}) (f ts x)) → ((e : DocFault) → p i ≡ Err e → FirmFails t p i e) → (e : DocFault) → since_followed p f i ≡ Err e → FirmFails t (since_followed p f) i e
  firm_since f second fails e h = elim (bind_err (p i) _ _ h) [
    | before g ↦ (let a = fails e g in record { nodes = a.nodes; others = a.others; at = a.at; way = a.way; keeps = a.keeps; place = a.place; again = λ l s. err_then _ (a.again l s) })
    | onward x k g g2 ↦ (
        let a = sure.local.ok i x k g in
        let w = front x k g a in
        let c = (second _ x).fails k e g2 in
        let text : a.text ++ c.text ≡ t ∷ (w.others ++ c.text) = ap (λ ts. ts ++ c.text) w.text in
        record {
          nodes = a.nodes + c.nodes;
          others = w.others ++ c.text;
          at = c.at;
          way = subst (λ ts. Way i c.at (a.nodes + c.nodes) ts) text (way_then a.way c.way);
          keeps = sure.keeps tt i x k g ∙ c.keeps tt;
          place = stands_behind (t ∷ w.others) c.place;
          again = λ l s. subst (λ ts. since_followed p f (behind ts (a.nodes + c.nodes) l) ≡ Err e) text (as_before (Unit {0}) (Unit {0}) p f sure second i k x a c.text c.nodes l _ (ahead_again l c.way s.ahead) (c.again l s));
        })
  ]

  pub firm_ended : ((e : DocFault) → p i ≡ Err e → FirmFails t p i e) → (e : DocFault) → ended p i ≡ Err e → FirmFails t (ended p) i e
  unfolding ended
  firm_ended = firm_since (λ ts x. followed (end_behind (last_of ts)) (λ u k. Ok (x, k))) (λ ts x. sure_followed (Unit {0}) (Unit {0}) (end_sure (Unit {0}) (Unit {0}) (last_of ts)) (λ u. sure_pure (Unit {0}) (Unit {0}) x))

never_refused : {X : Type 0} (i : Input) (e : DocFault) (o : Option (List ℕ)) → is_some o ≡ true → ◌≡◌ {A = Result (List ℕ × Input) DocFault} (elim o [ Some n ↦ Ok (n, after i) | None ↦ Err (refusal i) ]) (Err e) → X
never_refused i e None h g = absurd cc
never_refused i e (Some n) h g = absurd cc

-- a name was taken first
pub firm_named : {B : Type 0} (t : Token) (f : List ℕ → Parser B) (i : Input) → i.rest ≡ t ∷ tail i.rest → is_name (Some t) ≡ true → ((n : List ℕ) → Sure (Unit {0}) (Unit {0}) (f n)) → (e : DocFault) → followed any_name f i ≡ Err e → FirmFails t (followed any_name f) i e
firm_named t f i first is second = firm_followed t any_name i first (sure_name (Unit {0}) (Unit {0})) grows_name f second
    (λ e h. never_refused i e (name_of (ahead i)) (ap (λ ts. is_some (name_of (head ts))) first ∙ is) h)

module _ {A : Type 0} (t : Token) (i : Input) where
  pub firm_placed : (f : Span → Parser A) → ((e : DocFault) → f (place i) i ≡ Err e → FirmFails t (f (place i)) i e) → (e : DocFault) → f (place i) i ≡ Err e → FirmFails t (λ k. f (place k) k) i e
  firm_placed f fails e h =
      let a = fails e h in
      record { nodes = a.nodes; others = a.others; at = a.at; way = a.way; keeps = a.keeps; place = a.place; again = λ l s. ap (λ z. f z (behind (t ∷ a.others) a.nodes l)) (place_again l a.way s.place) ∙ a.again l s }

  pub firm_choose : {B : Type 0} (table : Option Token → Option B) (p : B → Parser A) (q : Parser A) → ((y : B) (e : DocFault) → table (ahead i) ≡ Some y → p y i ≡ Err e → FirmFails t (p y) i e) → ((e : DocFault) → table (ahead i) ≡ None → q i ≡ Err e → FirmFails t q i e) → (e : DocFault) → choose table p q i ≡ Err e → FirmFails t (choose table p q) i e
  firm_choose table p q if_so not_so e h = elim (chosen_in (table (ahead i)) _ _ _ h) [
    | chosen y o g ↦ (let c = if_so y e o g in record { nodes = c.nodes; others = c.others; at = c.at; way = c.way; keeps = c.keeps; place = c.place; again = λ l s. found _ _ (ap table (ahead_again l c.way s.ahead) ∙ o) (c.again l s) })
    | not_chosen o g ↦ (let c = not_so e o g in record { nodes = c.nodes; others = c.others; at = c.at; way = c.way; keeps = c.keeps; place = c.place; again = λ l s. missing _ _ (ap table (ahead_again l c.way s.ahead) ∙ o) (c.again l s) })
  ]

  pub firm_branch : (test : Option Token → Bool) (p q : Parser A) → ((e : DocFault) → test (ahead i) ≡ true → p i ≡ Err e → FirmFails t p i e) → ((e : DocFault) → test (ahead i) ≡ false → q i ≡ Err e → FirmFails t q i e) → (e : DocFault) → branch test p q i ≡ Err e → FirmFails t (branch test p q) i e
  firm_branch test p q if_so not_so e h = elim (if_ok (test (ahead i)) _ _ _ h) [
    | inl a ↦ (let c = if_so e a.0 a.1 in record { nodes = c.nodes; others = c.others; at = c.at; way = c.way; keeps = c.keeps; place = c.place; again = λ l s. if_true _ _ (ap test (ahead_again l c.way s.ahead) ∙ a.0) (c.again l s) })
    | inr a ↦ (let c = not_so e a.0 a.1 in record { nodes = c.nodes; others = c.others; at = c.at; way = c.way; keeps = c.keeps; place = c.place; again = λ l s. if_false _ _ (ap test (ahead_again l c.way s.ahead) ∙ a.0) (c.again l s) })
  ]

-- A choice by the next two tokens

abbrev pub by_two : {A : Type 0} → (Option Token → Bool) → (Option Token → Bool) → Parser A → Parser A → Parser A
by_two f g p q i = if f (head i.rest) && g (head (tail i.rest)) then p i else q i

module _ {A : Type 0} (t : Token) (f g : Option Token → Bool) (p q : Parser A) (i : Input) where
  abbrev two : List Token → Bool
  two ts = f (head ts) && g (head (tail ts))

  two_again : {j : Input} {n : ℕ} {us : List Token} (l : Input) → Way i j n (t ∷ us) → ahead l ≡ ahead j → two (t ∷ (us ++ l.rest)) ≡ two i.rest
  two_again {j = j} {us = us} l w s = ap (λ o. f (Some t) && g o) (head_same us j.rest l.rest s) ∙ sym (ap two w.rest)

  pub firm_two : (two i.rest ≡ true → Firm t p i) → (two i.rest ≡ false → Firm t q i) → Firm t (by_two f g p q) i
  firm_two if_so not_so = record {
    ok = λ x j h. elim (if_ok (two i.rest) _ _ _ h) [
      | inl a ↦ (let c = (if_so a.0).ok x j a.1 in record { nodes = c.nodes; others = c.others; way = c.way; keeps = c.keeps; again = λ l s. if_true _ _ (two_again l c.way s ∙ a.0) (c.again l s) })
      | inr a ↦ (let c = (not_so a.0).ok x j a.1 in record { nodes = c.nodes; others = c.others; way = c.way; keeps = c.keeps; again = λ l s. if_false _ _ (two_again l c.way s ∙ a.0) (c.again l s) })
    ];
    fails = λ e h. elim (if_ok (two i.rest) _ _ _ h) [
      | inl a ↦ (let c = (if_so a.0).fails e a.1 in record { nodes = c.nodes; others = c.others; at = c.at; way = c.way; keeps = c.keeps; place = c.place; again = λ l s. if_true _ _ (two_again l c.way s.ahead ∙ a.0) (c.again l s) })
      | inr a ↦ (let c = (not_so a.0).fails e a.1 in record { nodes = c.nodes; others = c.others; at = c.at; way = c.way; keeps = c.keeps; place = c.place; again = λ l s. if_false _ _ (two_again l c.way s.ahead ∙ a.0) (c.again l s) })
    ];
  }

-- A name with dots that is refused

abbrev pub unless : {A : Type 0} → (List Token → Bool) → Parser A → Parser A
unless test q i = if test i.rest then Err (Unsupported (place i)) else q i

-- the one text begins with the other one, or ends within it
data Overlap (us ts at rest : List Token) : Type 0 where
  beyond : (ws : List Token) → us ≡ ts ++ ws → rest ≡ ws ++ at → Overlap us ts at rest
  inside : (w : Token) (ws : List Token) → ts ≡ us ++ w ∷ ws → at ≡ w ∷ (ws ++ rest) → Overlap us ts at rest

overlap_more : (u : Token) {us ts at rest : List Token} → Overlap us ts at rest → Overlap (u ∷ us) (u ∷ ts) at rest
overlap_more u (beyond ws a b) = beyond ws (ap (λ vs. u ∷ vs) a) b
overlap_more u (inside w ws a b) = inside w ws (ap (λ vs. u ∷ vs) a) b

overlap : (us ts at rest : List Token) → us ++ at ≡ ts ++ rest → Overlap us ts at rest
overlap us [] at rest h = beyond us refl (sym h)
overlap [] (t ∷ ts) at rest h = inside t ts refl h
overlap (u ∷ us) (t ∷ ts) at rest h =
    let same : u ≡ t = ap (or_first u) h in
    subst (λ v. Overlap (u ∷ us) (v ∷ ts) at rest) same (overlap_more u (overlap us ts at rest (ap tail h)))

-- a fault inside a name with dots, told with the whole name
widened : (t : Token) (us : List Token) (w : Token) (ws : List Token) (e : DocFault) (s : Span) → name_is upper_first (Some t) ≡ true → is_dotted (t ∷ (us ++ w ∷ ws)) ≡ true → StandsIn e (t ∷ us) w.span → StandsIn e (t ∷ (us ++ w ∷ ws)) s
widened t us w ws e s upper is (is_behind h) = named [] (t ∷ us) w ws refl is upper h
widened t us w ws e s upper is (refused vs u zs text dotted stands) =
    let whole : t ∷ (us ++ w ∷ ws) ≡ vs ++ u ∷ (zs ++ w ∷ ws) = ap (λ ts. ts ++ w ∷ ws) text ∙ append_assoc vs (u ∷ zs) (w ∷ ws) in
    refused vs u (zs ++ w ∷ ws) whole (dotted_end vs u (zs ++ w ∷ ws) (sym (ap is_dotted whole) ∙ is) (first_true (is_name (Some u)) (are_dotted zs) dotted)) stands
widened t us w ws e s upper is (named vs [] u zs text dotted first stands) = absurd cc
widened t us w ws e s upper is (named vs (v ∷ ys) u zs text dotted first stands) =
    let whole : t ∷ (us ++ w ∷ ws) ≡ vs ++ ((v ∷ ys) ++ u ∷ (zs ++ w ∷ ws)) = ap (λ ts. ts ++ w ∷ ws) text ∙ (append_assoc vs ((v ∷ ys) ++ u ∷ zs) (w ∷ ws) ∙ ap (λ ts. vs ++ ts) (append_assoc (v ∷ ys) (u ∷ zs) (w ∷ ws))) in
    named vs (v ∷ ys) u (zs ++ w ∷ ws) whole (dotted_end vs v (ys ++ u ∷ (zs ++ w ∷ ws)) (sym (ap is_dotted whole) ∙ is) (first_true (is_name (Some v)) (are_dotted (ys ++ u ∷ zs)) dotted)) first stands

stands_in : (e : DocFault) (text : List Token) (s : Span) → Stands (Unit {0}) e text s → StandsIn e text s
stands_in e text s (at_next h) = is_behind h
stands_in e text s (early z h) = h

pub place_at : (i : Input) (t : Token) (ts : List Token) → i.rest ≡ t ∷ ts → place i ≡ t.span
place_at i t ts h = ap (λ us. elim (head us) [ Some u ↦ u.span | None ↦ i.end ]) h

module _ {A : Type 0} (t : Token) (test : List Token → Bool) (q : Parser A) (i : Input) (first : i.rest ≡ t ∷ tail i.rest) where
  -- where the test fails whatever follows the first token
  pub firm_never : ((us : List Token) → test (t ∷ us) ≡ false) → Firm t q i → Firm t (unless test q) i
  firm_never never firm = record {
    ok = λ x j h. elim (if_ok (test i.rest) _ _ _ h) [
      | inl a ↦ absurd (let e = a.1 in cc)
      | inr a ↦ (let c = firm.ok x j a.1 in record { nodes = c.nodes; others = c.others; way = c.way; keeps = c.keeps; again = λ l s. if_false _ _ (never (c.others ++ l.rest)) (c.again l s) })
    ];
    fails = λ e h. elim (if_ok (test i.rest) _ _ _ h) [
      | inl a ↦ absurd (let b : true ≡ false = sym a.0 ∙ (ap test first ∙ never (tail i.rest)) in cc)
      | inr a ↦ (let c = firm.fails e a.1 in record { nodes = c.nodes; others = c.others; at = c.at; way = c.way; keeps = c.keeps; place = c.place; again = λ l s. if_false _ _ (never (c.others ++ l.rest)) (c.again l s) })
    ];
  }

  module _ (seen : Seen test t (tail i.rest)) (is : is_name (Some t) ≡ true) (upper : name_is upper_first (Some t) ≡ true) where
    unless_refused : (e : DocFault) → test i.rest ≡ true → ◌≡◌ {A = Result (A × Input) DocFault} (Err (Unsupported (place i))) (Err e) → FirmFails t (unless test q) i e
    unless_refused e h g =
        let fault : Unsupported t.span ≡ e = sym (ap Unsupported (place_at i t (tail i.rest) first)) ∙ same_fault {A = A} (Unsupported (place i)) e g in
        record {
          nodes = 0;
          others = seen.text;
          at = record { rest = seen.rest; end = i.end; nodes = i.nodes };
          way = record { rest = first ∙ ap (λ ts. t ∷ ts) seen.whole; used = omega arith; end = refl };
          keeps = refl;
          place = early tt (refused [] t seen.text refl (both_true is seen.dotted) (sym fault));
          again = λ l s. if_true _ _ (seen.same l.rest s.ahead ∙ (sym (ap test first) ∙ h)) (ap Err fault);
        }

    -- the fault stands behind what decides the test
    unless_beyond : (e : DocFault) → test i.rest ≡ false → (c : FirmFails t q i e) (ws : List Token) → c.others ≡ seen.text ++ ws → seen.rest ≡ ws ++ c.at.rest → FirmFails t (unless test q) i e
    unless_beyond e h c ws a b = record {
      nodes = c.nodes;
      others = c.others;
      at = c.at;
      way = c.way;
      keeps = c.keeps;
      place = c.place;
      again = λ l s.
          let same : t ∷ (c.others ++ l.rest) ≡ t ∷ (seen.text ++ (ws ++ l.rest)) = ap (λ us. t ∷ us) (ap (λ us. us ++ l.rest) a ∙ append_assoc seen.text ws l.rest) in
          if_false _ _ (ap test same ∙ (seen.same (ws ++ l.rest) (head_same ws c.at.rest l.rest s.ahead ∙ sym (ap head b)) ∙ (sym (ap test first) ∙ h))) (c.again l s);
    }

    -- the fault stands within what decides the test
    unless_inside : (e : DocFault) → test i.rest ≡ false → (c : FirmFails t q i e) (w : Token) (ws : List Token) → seen.text ≡ c.others ++ w ∷ ws → c.at.rest ≡ w ∷ (ws ++ seen.rest) → FirmFails t (unless test q) i e
    unless_inside e h c w ws a b =
        let there : place c.at ≡ w.span = place_at c.at w (ws ++ seen.rest) b in
        let dotted : is_dotted (t ∷ (c.others ++ w ∷ ws)) ≡ true = both_true is (sym (ap are_dotted a) ∙ seen.dotted) in
        record {
          nodes = c.nodes;
          others = c.others ++ w ∷ ws;
          at = record { rest = seen.rest; end = c.at.end; nodes = c.at.nodes };
          way = record { rest = first ∙ ap (λ us. t ∷ us) (seen.whole ∙ ap (λ us. us ++ seen.rest) a); used = (c.way).used; end = (c.way).end };
          keeps = c.keeps;
          place = early tt (widened t c.others w ws e _ upper dotted (subst (λ s. StandsIn e (t ∷ c.others) s) there (stands_in e (t ∷ c.others) (place c.at) c.place)));
          again = λ l s.
              let k : Input = behind (w ∷ ws) 0 l in
              let like : IsLike k c.at = record { ahead = sym (ap head b); place = sym there; nodes = omega (arith, s.nodes) } in
              let same : t ∷ ((c.others ++ w ∷ ws) ++ l.rest) ≡ t ∷ (seen.text ++ l.rest) = ap (λ us. t ∷ (us ++ l.rest)) (sym a) in
              if_false _ _ (ap test same ∙ (seen.same l.rest s.ahead ∙ (sym (ap test first) ∙ h)))
              (ap q (behind_both (t ∷ c.others) (w ∷ ws) c.nodes 0 l refl (omega arith)) ∙ c.again k like);
        }

    unless_fails : (e : DocFault) → test i.rest ≡ false → FirmFails t q i e → FirmFails t (unless test q) i e
    unless_fails e h c =
        let same : t ∷ (c.others ++ c.at.rest) ≡ t ∷ (seen.text ++ seen.rest) = sym (c.way).rest ∙ (first ∙ ap (λ ts. t ∷ ts) seen.whole) in
        elim (overlap c.others seen.text c.at.rest seen.rest (ap tail same)) [
          | beyond ws a b ↦ unless_beyond e h c ws a b
          | inside w ws a b ↦ unless_inside e h c w ws a b
        ]

    pub firm_unless : Firm t q i → ((x : A) (j : Input) (n : ℕ) (us : List Token) (r : List Token) → q i ≡ Ok (x, j) → Way i j n (t ∷ us) → head r ≡ head j.rest → test (t ∷ (us ++ r)) ≡ test (t ∷ (us ++ j.rest))) → Firm t (unless test q) i
    firm_unless firm settles = record {
      ok = λ x j h. elim (if_ok (test i.rest) _ _ _ h) [
        | inl a ↦ absurd (let e = a.1 in cc)
        | inr a ↦ (let c = firm.ok x j a.1 in record { nodes = c.nodes; others = c.others; way = c.way; keeps = c.keeps; again = λ l s. if_false _ _ (settles x j c.nodes c.others l.rest a.1 c.way s ∙ (sym (ap test (c.way).rest) ∙ a.0)) (c.again l s) })
      ];
      fails = λ e h. elim (if_ok (test i.rest) _ _ _ h) [
        | inl a ↦ unless_refused e a.0 a.1
        | inr a ↦ unless_fails e a.0 (firm.fails e a.1)
      ];
    }

-- What a first token tells

module _ {A : Type 0} (test : Option Token → Bool) (none : test None ≡ false) (p q : Parser A) (if_so : (t : Token) (i : Input) → i.rest ≡ t ∷ tail i.rest → test (Some t) ≡ true → Firm t p i) (not_so : Sure (Unit {0}) (Unit {0}) q) (same : (i : Input) → test (ahead i) ≡ false → p i ≡ q i) where
  firm_at : (i : Input) → test (ahead i) ≡ true → (t : Token) × Firm t p i
  firm_at i h = let a = ahead_some test none i h in (a.token, if_so a.token i a.rest a.is)

  split_ok : (i : Input) (x : A) (j : Input) → p i ≡ Ok (x, j) → (b : Bool) → test (ahead i) ≡ b → LocalOk p i j x
  split_ok i x j h true is = let f = firm_at i is in let c = (f.1).ok x j h in record { nodes = c.nodes; text = f.0 ∷ c.others; way = c.way; again = c.again }
  split_ok i x j h false is =
      let c = not_so.local.ok i x j (sym (same i is) ∙ h) in
      record { nodes = c.nodes; text = c.text; way = c.way; again = λ l s. same (behind c.text c.nodes l) (ap test (ahead_again l c.way s) ∙ is) ∙ c.again l s }

  split_keeps : (i : Input) (x : A) (j : Input) → p i ≡ Ok (x, j) → (b : Bool) → test (ahead i) ≡ b → i.nodes ≡ j.nodes
  split_keeps i x j h true is = let f = firm_at i is in ((f.1).ok x j h).keeps
  split_keeps i x j h false is = not_so.keeps tt i x j (sym (same i is) ∙ h)

  split_fails : (i : Input) (e : DocFault) → p i ≡ Err e → (b : Bool) → test (ahead i) ≡ b → Fails (Unit {0}) (Unit {0}) p i e
  split_fails i e h true is = let f = firm_at i is in let c = (f.1).fails e h in record { nodes = c.nodes; text = f.0 ∷ c.others; at = c.at; way = c.way; keeps = λ z. c.keeps; place = c.place; again = c.again }
  split_fails i e h false is =
      let c = not_so.fails i e (sym (same i is) ∙ h) in
      record { nodes = c.nodes; text = c.text; at = c.at; way = c.way; keeps = c.keeps; place = c.place; again = λ l s. same (behind c.text c.nodes l) (ap test (ahead_again l c.way s.ahead) ∙ is) ∙ c.again l s }

  -- where the first token passes the test, it is taken for sure; else another reading is the same
  pub sure_split : Sure (Unit {0}) (Unit {0}) p
  sure_split = record {
    local = record { ok = λ i x j h. split_ok i x j h (test (ahead i)) refl };
    keeps = λ z i x j h. split_keeps i x j h (test (ahead i)) refl;
    fails = λ i e h. split_fails i e h (test (ahead i)) refl;
  }

pub sure_as : {A : Type 0} {p : Parser A} (q : Parser A) → ((i : Input) → q i ≡ p i) → Sure (Unit {0}) (Unit {0}) p → Sure (Unit {0}) (Unit {0}) q
sure_as q same s = record {
  local = record { ok = λ i x j h. let a = s.local.ok i x j (sym (same i) ∙ h) in record { nodes = a.nodes; text = a.text; way = a.way; again = λ l g. same (behind a.text a.nodes l) ∙ a.again l g } };
  keeps = λ z i x j h. s.keeps z i x j (sym (same i) ∙ h);
  fails = λ i e h. let a = s.fails i e (sym (same i) ∙ h) in record { nodes = a.nodes; text = a.text; at = a.at; way = a.way; keeps = a.keeps; place = a.place; again = λ l g. same (behind a.text a.nodes l) ∙ a.again l g };
}
