-- What stands before the first fault of the kind of a property or of parameters can go on.
use Rattle.std.proofs.Common.{◌≡◌, ℕ, true, false, List, [], ◌∷◌, ◌++◌, Option, Ok, Err, inl, inr, refl, sym, ap, subst, arith, append_assoc, append-nil}
use Rattle.qml_ast.specs.declared.fault.DocFault.{DocFault}
use Rattle.qml_ast.specs.declared.param.MethodParam.{MethodParam}
use Rattle.qml_ast.specs.declared.param.SignalParam.{SignalParam}
use Rattle.qml_grammar.specs.DocumentGrammar.{IsName, IsSignalParam, param, AreSignalParams, one as one_signal, more as more_signal, AreMethodParams, one as one_method, more as more_method, AreMethodParens, none as no_method, some as some_method, AreSignalParens, some as some_signal}
use Rattle.qml_grammar.specs.Documents.{kind, property_kind, signal_param, more_signal_params, some_signal_params, signal_params, method_param, more_method_params, some_method_params, method_params}
use Rattle.qml_grammar.specs.ExpressionGrammar.{IsMark}
use Rattle.qml_grammar.specs.Inputs.{Input, Parser, ahead, after, place, any_name, expect, while_next}
use Rattle.qml_grammar.specs.Lexemes.{Token, is_mark, is_word}
use Rattle.qml_grammar.specs.Names.{is_dotted_kind}
use Rattle.qml_grammar.specs.declared.mark.Mark.TheVariants.{OpenParen, CloseParen, Comma}
use Rattle.qml_grammar.specs.declared.word.Word.TheVariants as ww
use Rattle.grammar_laws.specs.Faults.{IsFaultAt}
use Rattle.grammar_laws.specs.Laws.{Way}
use Rattle.grammar_laws.proofs.Local.{before, onward, bind_err}
use Rattle.grammar_laws.proofs.Tools.{bind_ok, if_ok, ahead_some, way_token, way_then, Named, same_value, same_input}
use Rattle.grammar_laws.proofs.Viable.{name_once}
use Rattle.statement_laws.specs.Laws.{Covers}
use Rattle.document_laws.proofs.Commas.{another, items_until_paren}
use Rattle.document_laws.proofs.Params.{kind_named, signal_param_covers, IsMethodParam, method, method_param_covers}
use Rattle.document_laws.proofs.Steps.{Anyhow}
use Rattle.prefix_laws.proofs.DocumentSteps.{unsupported_place, never, Adding, while_grown, while_halts, Becoming}
use Rattle.prefix_laws.proofs.DocumentTokens.{lower_name, a_lower, lower_is}
use Rattle.prefix_laws.proofs.Going.{HaltsOn, Halts, halts_here, halts_as, halts_behind, halts_expect, expect_place, made_err, fills, the_mark, mark_is}

-- Kinds

kind_place : (i : Input) (e : DocFault) → kind i ≡ Err e → IsFaultAt e (place i)
unfolding kind
kind_place i e h = elim (if_ok (is_dotted_kind i.rest) _ _ _ h) [
  | inl a ↦ unsupported_place {A = List ℕ} i e a.1
  | inr a ↦ (name_once i e a.1).place
]

pub property_kind_place : (i : Input) (e : DocFault) → property_kind i ≡ Err e → IsFaultAt e (place i)
unfolding property_kind
property_kind_place i e h = elim (if_ok (is_word ww.Alias (ahead i)) _ _ _ h) [
  | inl a ↦ unsupported_place {A = List ℕ} i e a.1
  | inr a ↦ kind_place i e a.1
]

pub property_kind_named : (i : Input) (k : List ℕ) (j : Input) → property_kind i ≡ Ok (k, j) → Named k i j × (is_word ww.Alias (ahead i) ≡ false)
unfolding property_kind
property_kind_named i k j h = elim (if_ok (is_word ww.Alias (ahead i)) _ _ _ h) [
  | inl a ↦ absurd (let e = a.1 in cc)
  | inr a ↦ (kind_named i j k a.1, a.0)
]

-- Lists with commas

-- items, and ")"
pub record UntilClose {A : Type 0} (Listed : List Token → List A → Type 0) (ts : List Token) (xs : List A) : Type 0 where
  pub text : List Token
  pub close : Token
  pub all : ts ≡ text ++ close ∷ []
  pub listed : Listed text xs
  pub closes : IsMark close CloseParen

module _ {A : Type 0} (item : Parser A) (Item : List Token → A → Type 0) (Listed : List Token → List A → Type 0) (alone : (ts : List Token) (x : A) → Item ts x → Listed ts (x ∷ [])) (longer : (us : List Token) (o : Token) (vs : List Token) (ys : List A) (z : A) → Listed us ys → IsMark o Comma → Item vs z → Listed (us ++ o ∷ vs) (ys ++ z ∷ [])) (sound : (i : Input) (x : A) (j : Input) → item i ≡ Ok (x, j) → Covers (Anyhow Item) i j x) (fails : (i : Input) (e : DocFault) → item i ≡ Err e → Halts (Becoming Item) i e) where
  abbrev ListedBefore : List Token → Option Token → List A → Type 0
  ListedBefore ts next xs = Listed ts xs

  -- what is listed can go on with ")"
  closed : (ts vs : List Token) (xs : List A) → Listed (ts ++ vs) xs → Becoming (UntilClose Listed) ts
  closed ts vs xs p =
      let z : List Token = the_mark CloseParen ∷ [] in
      fills (vs ++ z) 200 xs (omega arith) (append_assoc ts vs z) (record { text = ts ++ vs; close = the_mark CloseParen; all = refl; listed = p; closes = mark_is CloseParen })

  first_closed : (ts : List Token) → Becoming Item ts → Becoming (UntilClose Listed) ts
  first_closed ts w = closed ts w.others (w.value ∷ []) (alone (ts ++ w.others) w.value w.spelled)

  next_closed : (us : List Token) (o : Token) (ys : List A) → Listed us ys → IsMark o Comma → (ts : List Token) → Becoming Item ts → Becoming (UntilClose Listed) (us ++ o ∷ ts)
  next_closed us o ys p comma ts w = closed (us ++ o ∷ ts) w.others (ys ++ w.value ∷ []) (subst (λ ws. Listed ws (ys ++ w.value ∷ [])) (sym (append_assoc us (o ∷ ts) w.others)) (longer us o (ts ++ w.others) ys w.value p comma w.spelled))

  all_closed : (us : List Token) (xs : List A) → Listed us xs → Becoming (UntilClose Listed) us
  all_closed us xs p = closed us [] xs (subst (λ ws. Listed ws xs) (sym (append-nil us)) p)

  another_adds : (xs : List A) (i : Input) (ys : List A) (j : Input) → is_mark Comma (ahead i) ≡ true → another item Item xs i ≡ Ok (ys, j) → Adding ListedBefore xs i ys j
  another_adds xs i ys j t h =
      let o = ahead_some (is_mark Comma) refl i t in
      let b = bind_ok (item (after i)) _ _ h in
      let y = sound (after i) b.value b.at b.first in
      record {
        text = o.token ∷ y.text;
        way = subst (λ k. Way i k 0 (o.token ∷ y.text)) (same_input (xs ++ b.value ∷ []) ys b.at j b.onward) (way_then (way_token o.token o.rest) y.way);
        spelled = λ us p. subst (λ zs. Listed (us ++ o.token ∷ y.text) zs) (same_value (xs ++ b.value ∷ []) ys b.at j b.onward) (longer us o.token y.text xs b.value p o.is y.spelled);
      }

  another_halts : (us : List Token) (xs : List A) (i : Input) (e : DocFault) → ListedBefore us (ahead i) xs → is_mark Comma (ahead i) ≡ true → another item Item xs i ≡ Err e → HaltsOn (Becoming (UntilClose Listed)) us i e
  another_halts us xs i e p t h =
      let o = ahead_some (is_mark Comma) refl i t in
      halts_behind (way_token o.token o.rest) (halts_as (λ ts w. subst (Becoming (UntilClose Listed)) (sym (append_assoc us (o.token ∷ []) ts)) (next_closed us o.token xs p o.is ts w)) (fails (after i) e (made_err item _ (after i) e h)))

  items_halt : (i : Input) (e : DocFault) → items_until_paren item Item i ≡ Err e → Halts (Becoming (UntilClose Listed)) i e
  items_halt i e h = elim (bind_err (item i) _ _ h) [
    | before g ↦ halts_as first_closed (fails i e g)
    | onward x k g g2 ↦ (
        let y = sound i x k g in
        let listed = alone y.text x y.spelled in
        halts_behind y.way (elim (bind_err (while_next (is_mark Comma) (another item Item) (x ∷ []) k) _ _ g2) [
          | before f ↦ while_halts ListedBefore (is_mark Comma) (another item Item) another_adds (Becoming (UntilClose Listed)) another_halts y.text (x ∷ []) k e listed f
          | onward xs m f f2 ↦ (
              let c = while_grown ListedBefore (is_mark Comma) (another item Item) another_adds y.text (x ∷ []) k xs m listed f in
              halts_behind c.way (halts_here (expect_place CloseParen m e (made_err (expect CloseParen) _ m e f2)) (all_closed (y.text ++ c.text) xs c.spelled)))
        ]))
  ]

-- Parameters of signals

two_names : (ts us : List Token) (t u : Token) (k n : List ℕ) → t ∷ u ∷ [] ≡ ts ++ us → IsName t k → IsName u n → Becoming IsSignalParam ts
two_names ts us t u k n e first second = fills us 200 (record { kind = k; name = n; kind_span = t.span; name_span = u.span }) (omega arith) e (param t u k n refl refl first second)

signal_param_halts : (i : Input) (e : DocFault) → signal_param i ≡ Err e → Halts (Becoming IsSignalParam) i e
unfolding signal_param
signal_param_halts i e h = elim (bind_err (kind i) _ _ h) [
  | before g ↦ halts_here (kind_place i e g) (two_names [] (a_lower ∷ a_lower ∷ []) a_lower a_lower lower_name lower_name refl lower_is lower_is)
  | onward k j g g2 ↦ (
      let t = kind_named i j k g in
      halts_behind t.way (halts_here (name_once j e (made_err any_name _ j e g2)).place (two_names (t.token ∷ []) (a_lower ∷ []) t.token a_lower k lower_name refl t.is lower_is)))
]

some_signals_halt : (i : Input) (e : DocFault) → some_signal_params i ≡ Err e → Halts (Becoming (UntilClose AreSignalParams)) i e
unfolding some_signal_params more_signal_params
some_signals_halt = items_halt signal_param IsSignalParam AreSignalParams (λ ts x p. one_signal x refl p) (λ us o vs ys z p comma q. more_signal us o vs ys z refl refl p comma q) signal_param_covers signal_param_halts

-- parameters in parentheses, whatever follows
abbrev pub SignalParens : List Token → List SignalParam → Type 0
SignalParens ts xs = (next : Option Token) → AreSignalParens ts next xs

signals_in_parens : (o : Token) → IsMark o OpenParen → (us : List Token) → Becoming (UntilClose AreSignalParams) us → Becoming SignalParens (o ∷ us)
signals_in_parens o open_is us w = let p = w.spelled in fills w.others 200 w.value (omega arith) refl (λ next. some_signal o p.text p.close (ap (λ ts. o ∷ ts) p.all) open_is p.listed p.closes)

pub signal_params_halt : (i : Input) (e : DocFault) → signal_params i ≡ Err e → Halts (Becoming SignalParens) i e
unfolding signal_params
signal_params_halt i e h = elim (if_ok (is_mark OpenParen (ahead i)) _ _ _ h) [
  | inl a ↦ (
      let o = ahead_some (is_mark OpenParen) refl i a.0 in
      halts_behind (way_token o.token o.rest) (elim (if_ok (is_mark CloseParen (ahead (after i))) _ _ _ a.1) [
        | inl b ↦ never _ _ e b.1
        | inr b ↦ halts_as (signals_in_parens o.token o.is) (some_signals_halt (after i) e b.1)
      ]))
  | inr a ↦ never _ i e a.1
]

-- Parameters of methods

method_param_halts : (i : Input) (e : DocFault) → method_param i ≡ Err e → Halts (Becoming IsMethodParam) i e
unfolding method_param
method_param_halts i e h = halts_here (name_once i e (made_err any_name _ i e h)).place (fills (a_lower ∷ []) 200 (record { name = lower_name; span = a_lower.span }) (omega arith) refl (method a_lower lower_name refl refl lower_is))

method_alone : (ts : List Token) (x : MethodParam) → IsMethodParam ts x → AreMethodParams ts (x ∷ [])
method_alone ts x (method t n ts_is x_is is) = one_method t n ts_is (ap (λ y. y ∷ []) x_is) is

method_longer : (us : List Token) (o : Token) (vs : List Token) (ys : List MethodParam) (z : MethodParam) → AreMethodParams us ys → IsMark o Comma → IsMethodParam vs z → AreMethodParams (us ++ o ∷ vs) (ys ++ z ∷ [])
method_longer us o vs ys z p comma (method t n vs_is z_is is) = more_method us o t ys n (ap (λ ws. us ++ o ∷ ws) vs_is) (ap (λ y. ys ++ y ∷ []) z_is) p comma is

some_methods_halt : (i : Input) (e : DocFault) → some_method_params i ≡ Err e → Halts (Becoming (UntilClose AreMethodParams)) i e
unfolding some_method_params more_method_params
some_methods_halt = items_halt method_param IsMethodParam AreMethodParams method_alone method_longer method_param_covers method_param_halts

methods_in_parens : (o : Token) → IsMark o OpenParen → (us : List Token) → Becoming (UntilClose AreMethodParams) us → Becoming AreMethodParens (o ∷ us)
methods_in_parens o open_is us w = let p = w.spelled in fills w.others 200 w.value (omega arith) refl (some_method o p.text p.close (ap (λ ts. o ∷ ts) p.all) open_is p.listed p.closes)

abbrev pub empty_parens : List Token
empty_parens = the_mark OpenParen ∷ the_mark CloseParen ∷ []

pub no_params : AreMethodParens empty_parens []
no_params = no_method (the_mark OpenParen) (the_mark CloseParen) refl refl (mark_is OpenParen) (mark_is CloseParen)

pub method_params_halt : (i : Input) (e : DocFault) → method_params i ≡ Err e → Halts (Becoming AreMethodParens) i e
unfolding method_params
method_params_halt i e h = halts_expect OpenParen _ i (fills empty_parens 200 [] (omega arith) refl no_params) (λ o u k f open_is w g. elim (if_ok (is_mark CloseParen (ahead k)) _ _ _ g) [
  | inl b ↦ never _ _ f b.1
  | inr b ↦ halts_as (methods_in_parens o open_is) (some_methods_halt k f b.1)
]) e h
