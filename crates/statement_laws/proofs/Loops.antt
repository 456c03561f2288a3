-- Lists whose items end by themselves: what is read as one is spelled, and what is spelled is read.
use Rattle.std.proofs.Common.{◌≡◌, ℕ, zero, suc, ◌≤◌, ◌<◌, Bool, true, false, List, [], ◌∷◌, ◌++◌, length, Option, Some, None, Result, Ok, refl, sym, ap, subst, subst₂, ◌∙◌, arith, append_assoc, length-append}
use Rattle.std.proofs.lemmas.List.{append-nil}
use Rattle.qml_ast.specs.declared.fault.DocFault.{DocFault}
use Rattle.qml_grammar.specs.ExpressionGrammar.{IsMark}
use Rattle.qml_grammar.specs.Inputs.{Input, Parser, ahead, repeated, while_next, expect, pure, ◌>>=◌, ◌>>◌}
use Rattle.qml_grammar.specs.Lexemes.{Token, head}
use Rattle.qml_grammar.specs.StatementGrammar.{follow}
use Rattle.qml_grammar.specs.Statements.{goes_on_inside}
use Rattle.qml_grammar.specs.declared.mark.Mark.TheVariants.{CloseBrace}
use Rattle.grammar_laws.specs.Laws.{Way}
use Rattle.grammar_laws.proofs.Behind.{again, stopped, ok_then}
use Rattle.grammar_laws.proofs.First.{Begins}
use Rattle.grammar_laws.proofs.Growing.{went_on, stopped as a_stop, went as a_step, no_token}
use Rattle.grammar_laws.proofs.Tools.{bind_ok, way_none, way_then, expected, same_value, same_input}
use Rattle.statement_laws.specs.Laws.{Covers}
use Rattle.statement_laws.proofs.Ways.{ahead_follow, before, before_both, ahead_before, expect_before}

-- items, each before what follows it. An item may give several values
pub data Items {A : Type 0} (Item : List Token → Option Token → List A → Type 0) : List Token → Option Token → List A → Type 0 where
  no_item : {ts : List Token} {next : Option Token} {xs : List A} → ts ≡ [] → xs ≡ [] → Items Item ts next xs
  an_item : {ts : List Token} {next : Option Token} {xs : List A} (us vs : List Token) (ys zs : List A) → ts ≡ us ++ vs → xs ≡ ys ++ zs → Item us (follow vs next) ys → Items Item vs next zs → Items Item ts next xs

-- one value alone, as an item
pub record Single {A : Type 0} (Spells : List Token → Option Token → A → Type 0) (ts : List Token) (next : Option Token) (xs : List A) : Type 0 where
  pub value : A
  pub alone : xs ≡ value ∷ []
  pub is : Spells ts next value

pub one_item : {A : Type 0} {Spells : List Token → Option Token → A → Type 0} {ts : List Token} {next : Option Token} {x : A} → Spells ts next x → Single Spells ts next (x ∷ [])
one_item {x = x} p = record { value = x; alone = refl; is = p }

-- between the inputs stands an item, whose values come behind others
pub record Added {A : Type 0} (Item : List Token → Option Token → List A → Type 0) (xs : List A) (i : Input) (ys : List A) (j : Input) : Type 0 where
  pub values : List A
  pub both : ys ≡ xs ++ values
  pub covers : Covers Item i j values

pub added_to : {A : Type 0} {Item : List Token → Option Token → List A → Type 0} {xs : List A} {i j k : Input} {ys zs : List A} → Added Item xs i ys j → ◌≡◌ {A = Result (List A × Input) DocFault} (Ok (ys, j)) (Ok (zs, k)) → Added Item xs i zs k
added_to {Item = Item} {xs = xs} {i = i} {j = j} {k = k} {ys = ys} {zs = zs} a e = subst₂ (λ ws l. Added Item xs i ws l) (same_value ys zs j k e) (same_input ys zs j k e) a

-- between the inputs stand items, whose values come behind others, and no further one follows
pub record Lists {A : Type 0} (Item : List Token → Option Token → List A → Type 0) (test : Option Token → Bool) (xs : List A) (i : Input) (ys : List A) (j : Input) : Type 0 where
  pub values : List A
  pub both : ys ≡ xs ++ values
  pub covers : Covers (Items Item) i j values
  pub ends : test (ahead j) ≡ false

-- items and what closes them
pub record Closed {A : Type 0} (Item : List Token → Option Token → List A → Type 0) (i j : Input) (xs : List A) : Type 0 where
  pub text : List Token
  pub close : Token
  pub way : Way i j 0 (text ++ close ∷ [])
  pub items : Items Item text (Some close) xs
  pub closes : IsMark close CloseBrace

-- { item } "}"
abbrev pub until_brace : {A : Type 0} → (List A → Parser (List A)) → Parser (List A)
until_brace step = do
  xs ← while_next goes_on_inside step []
  expect CloseBrace
  pure xs

longer : {i j : Input} {n : ℕ} {ts : List Token} {test : Option Token → Bool} → Way i j n ts → Begins test ts → length j.rest < length i.rest
longer {j = j} w b =
    let all = ap length (w.rest ∙ ap (λ ts. ts ++ j.rest) b.text) in
    omega (arith, all, length-append b.others j.rest)

fewer : {test : Option Token → Bool} {ts us : List Token} (vs : List Token) → ts ≡ us ++ vs → Begins test us → length vs < length ts
fewer {us = us} vs h b = omega (arith, ap length h, ap length b.text, length-append us vs)

brace_stops : (z : Token) → IsMark z CloseBrace → goes_on_inside (Some z) ≡ false
brace_stops z h = rw h

module _ {A : Type 0} (Item : List Token → Option Token → List A → Type 0) (test : Option Token → Bool) (step : List A → Parser (List A)) (begins : (ts : List Token) (next : Option Token) (xs : List A) → Item ts next xs → Begins test ts) where
  -- What is read

  lists_none : (xs : List A) (i : Input) (ys : List A) (j : Input) → test (ahead i) ≡ false → ◌≡◌ {A = Result (List A × Input) DocFault} (Ok (xs, i)) (Ok (ys, j)) → Lists Item test xs i ys j
  lists_none xs i ys j t e =
      let input = same_input xs ys i j e in
      let none : Covers (Items Item) i i [] = record { text = []; way = way_none i; spelled = no_item refl refl } in
      record {
        values = [];
        both = sym (same_value xs ys i j e) ∙ sym (append-nil xs);
        covers = subst (λ k. Covers (Items Item) i k []) input none;
        ends = ap (λ k. test (ahead k)) (sym input) ∙ t;
      }

  lists_more : (xs : List A) (i : Input) (zs : List A) (k : Input) (ys : List A) (j : Input) → Added Item xs i zs k → Lists Item test zs k ys j → Lists Item test xs i ys j
  lists_more xs i zs k ys j a l =
      let c = a.covers in
      let r = l.covers in
      let first : Item c.text (follow r.text (ahead j)) a.values = subst (λ n. Item c.text n a.values) (ahead_follow r.way) c.spelled in
      record {
        values = a.values ++ l.values;
        both = l.both ∙ (ap (λ ws. ws ++ l.values) a.both ∙ append_assoc xs a.values l.values);
        covers = record { text = c.text ++ r.text; way = way_then c.way r.way; spelled = an_item c.text r.text a.values l.values refl refl first r.spelled };
        ends = l.ends;
      }

  module _ (none : test None ≡ false) (adds : (xs : List A) (i : Input) (ys : List A) (j : Input) → test (ahead i) ≡ true → step xs i ≡ Ok (ys, j) → Added Item xs i ys j) where
    repeated_lists : (n : ℕ) (xs : List A) (i : Input) (ys : List A) (j : Input) → length i.rest ≤ n → repeated test step n xs i ≡ Ok (ys, j) → Lists Item test xs i ys j
    unfolding repeated
    repeated_lists zero xs i ys j few h = lists_none xs i ys j (ap test (no_token i.rest few) ∙ none) h
    repeated_lists (suc n) xs i ys j few h = elim (went_on test step n xs i ys j h) [
      | a_stop t e ↦ lists_none xs i ys j t e
      | a_step zs k t e g ↦ (let a = adds xs i zs k t e in lists_more xs i zs k ys j a (repeated_lists n zs k ys j (let less = longer (a.covers).way (begins _ _ _ (a.covers).spelled) in omega arith) g))
    ]

    pub while_lists : (xs : List A) (i : Input) (ys : List A) (j : Input) → while_next test step xs i ≡ Ok (ys, j) → Lists Item test xs i ys j
    unfolding while_next
    while_lists xs i ys j h = repeated_lists (length i.rest) xs i ys j (omega arith) h

  -- What is spelled

  module _ (goes : (us : List Token) (next : Option Token) (ys xs : List A) (j : Input) → ahead j ≡ next → Item us next ys → step xs (before us j) ≡ Ok (xs ++ ys, j)) where
    item_goes : (n : ℕ) (us vs : List Token) (next : Option Token) (ys xs : List A) (j : Input) → ahead j ≡ next → Item us (follow vs next) ys → repeated test step (suc n) xs (before us (before vs j)) ≡ repeated test step n (xs ++ ys) (before vs j)
    item_goes n us vs next ys xs j e p =
        let b = begins us (follow vs next) ys p in
        let t : test (ahead (before us (before vs j))) ≡ true = ap (λ ts. test (head (ts ++ (vs ++ j.rest)))) b.text ∙ b.begins in
        again (step []) test step n xs (xs ++ ys) (before us (before vs j)) (before vs j) t (goes us (follow vs next) ys xs (before vs j) (ahead_before vs j e) p)

    repeated_goes : {ts : List Token} {next : Option Token} {zs : List A} → Items Item ts next zs → (n : ℕ) (xs : List A) (j : Input) → length ts ≤ n → ahead j ≡ next → test next ≡ false → repeated test step n xs (before ts j) ≡ Ok (xs ++ zs, j)
    repeated_goes (no_item ts_is xs_is) n xs j few e t = rw (ts_is, xs_is, append-nil) (stopped (step []) test step n xs j (ap test e ∙ t))
    repeated_goes {next = next} (an_item us vs ys zs ts_is xs_is p ps) zero xs j few e t = absurd (let less = fewer vs ts_is (begins us (follow vs next) ys p) in omega arith)
    repeated_goes {next = next} (an_item us vs ys zs ts_is xs_is p ps) (suc n) xs j few e t =
        let less = fewer vs ts_is (begins us (follow vs next) ys p) in
        let rest = repeated_goes ps n (xs ++ ys) j (omega arith) e t in
        rw (ts_is, xs_is) (ap (repeated test step (suc n) xs) (before_both us vs j) ∙ (item_goes n us vs next ys xs j e p ∙ (rest ∙ ap (λ ws. Ok (ws, j)) (append_assoc xs ys zs))))

    pub while_goes : {ts : List Token} {next : Option Token} {zs : List A} → Items Item ts next zs → (xs : List A) (j : Input) → ahead j ≡ next → test next ≡ false → while_next test step xs (before ts j) ≡ Ok (xs ++ zs, j)
    unfolding while_next
    while_goes {ts = ts} p xs j e t = repeated_goes p (length (ts ++ j.rest)) xs j (omega (arith, length-append ts j.rest)) e t

-- Lists in braces

module _ {A : Type 0} (Item : List Token → Option Token → List A → Type 0) (step : List A → Parser (List A)) (begins : (ts : List Token) (next : Option Token) (xs : List A) → Item ts next xs → Begins goes_on_inside ts) where
  pub until_brace_closed : ((xs : List A) (i : Input) (ys : List A) (j : Input) → goes_on_inside (ahead i) ≡ true → step xs i ≡ Ok (ys, j) → Added Item xs i ys j) → (i : Input) (xs : List A) (j : Input) → until_brace step i ≡ Ok (xs, j) → Closed Item i j xs
  until_brace_closed adds i xs j h =
      let a = bind_ok (while_next goes_on_inside step [] i) _ _ h in
      let l = while_lists Item goes_on_inside step begins refl adds [] i a.value a.at a.first in
      let c = l.covers in
      let b = bind_ok (expect CloseBrace a.at) _ _ a.onward in
      let z = expected CloseBrace a.at b.at b.value b.first in
      let listed : Items Item c.text (ahead a.at) a.value = subst (λ ys. Items Item c.text (ahead a.at) ys) (sym l.both) c.spelled in
      let closed : Closed Item i b.at a.value = record {
        text = c.text;
        close = z.token;
        way = way_then c.way z.way;
        items = subst (λ n. Items Item c.text n a.value) (ahead_follow z.way) listed;
        closes = z.is;
      } in
      subst₂ (λ ys k. Closed Item i k ys) (same_value a.value xs b.at j b.onward) (same_input a.value xs b.at j b.onward) closed

  pub until_brace_goes : ((us : List Token) (next : Option Token) (ys xs : List A) (j : Input) → ahead j ≡ next → Item us next ys → step xs (before us j) ≡ Ok (xs ++ ys, j)) → (us : List Token) (z : Token) (xs : List A) (j : Input) → Items Item us (Some z) xs → IsMark z CloseBrace → until_brace step (before (us ++ z ∷ []) j) ≡ Ok (xs, j)
  until_brace_goes goes us z xs j p close_is =
      let items = while_goes Item goes_on_inside step begins goes p [] (before (z ∷ []) j) refl (brace_stops z close_is) in
      ap (until_brace step) (before_both us (z ∷ []) j) ∙ ok_then _ items (ok_then _ (expect_before CloseBrace z [] j close_is) refl)
