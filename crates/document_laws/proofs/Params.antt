-- Kinds, and the parameters of signals and methods.
use Rattle.std.proofs.Common.{◌≡◌, ℕ, ◌&&◌, Bool, true, false, is_some, List, [], ◌∷◌, ◌++◌, Option, Some, Ok, inl, inr, refl, ap, ◌∙◌}
use Rattle.qml_ast.specs.declared.param.MethodParam.{MethodParam}
use Rattle.qml_ast.specs.declared.param.SignalParam.{SignalParam}
use Rattle.qml_ast.specs.declared.span.Span.{Span}
use Rattle.qml_grammar.specs.DocumentGrammar.{IsName, IsSignalParam, param, AreSignalParams, one as one_signal, more as more_signal, AreMethodParams, one as one_method, more as more_method, AreMethodParens, none as no_method, some as some_method, AreSignalParens, nothing, none as no_signal, some as some_signal}
use Rattle.qml_grammar.specs.Documents.{kind, signal_param, more_signal_params, some_signal_params, signal_params, method_param, more_method_params, some_method_params, method_params}
use Rattle.qml_grammar.specs.ExpressionGrammar.{IsMark}
use Rattle.qml_grammar.specs.Inputs.{Input, ahead, after, any_name, expect}
use Rattle.qml_grammar.specs.Lexemes.{Token, head, is_mark, is_name, name_of}
use Rattle.qml_grammar.specs.Names.{is_dotted_kind, name_is, upper_first}
use Rattle.qml_grammar.specs.declared.mark.Mark.TheVariants.{OpenParen, CloseParen, Comma, Dot}
use Rattle.grammar_laws.proofs.Behind.{ok_then, if_true, if_false}
use Rattle.grammar_laws.proofs.First.{Begins}
use Rattle.grammar_laws.proofs.Tools.{bind_ok, if_ok, ahead_some, way_token, way_then, way_none, expected, Named, named}
use Rattle.statement_laws.specs.Laws.{Covers}
use Rattle.statement_laws.proofs.Ways.{before, covers_to, expect_before, name_before}
use Rattle.document_laws.proofs.Commas.{Commas, one_item, more_items, UntilParen, until_paren, until_paren_begins, items_cover, items_go}
use Rattle.document_laws.proofs.Steps.{Anyhow, placed}
use Rattle.document_laws.proofs.Tokens.{name_no_mark, is_name_no_mark, named_is_name}

-- Kinds

pub kind_named : (i j : Input) (k : List ℕ) → kind i ≡ Ok (k, j) → Named k i j
unfolding kind
kind_named i j k h = elim (if_ok (is_dotted_kind i.rest) _ _ _ h) [
  | inl a ↦ absurd (let e = a.1 in cc)
  | inr a ↦ named i j k a.1
]

-- a name with another one behind it has no dots
no_dotted_kind : (t u : Token) (us : List Token) (n : List ℕ) → IsName u n → is_dotted_kind (t ∷ u ∷ us) ≡ false
no_dotted_kind t u us n is = by_test (name_is upper_first (Some t)) (is_mark Dot (Some u)) (is_some (name_of (head us))) (name_no_mark Dot u is)
  where
    by_test : (a b c : Bool) → b ≡ false → (a && b && c) ≡ false
    by_test true b c e = rw e refl
    by_test false b c e = refl

pub kind_goes : (k n : List ℕ) (t u : Token) (us : List Token) (j : Input) → IsName t k → IsName u n → kind (before (t ∷ u ∷ us) j) ≡ Ok (k, before (u ∷ us) j)
unfolding kind
kind_goes k n t u us j is next = if_false _ _ (no_dotted_kind t u (us ++ j.rest) n next) (name_before k t (u ∷ us) j is)

-- Parameters of signals

signal_at : (k n : List ℕ) {a b c d : Span} → a ≡ c → b ≡ d → ◌≡◌ {A = SignalParam} (record { kind = k; name = n; kind_span = a; name_span = b }) (record { kind = k; name = n; kind_span = c; name_span = d })
signal_at k n e f = λ l. record { kind = k; name = n; kind_span = e l; name_span = f l }

pub signal_param_covers : (i : Input) (x : SignalParam) (j : Input) → signal_param i ≡ Ok (x, j) → Covers (Anyhow IsSignalParam) i j x
unfolding signal_param
signal_param_covers i x j h =
    let a = bind_ok (kind i) _ _ h in
    let t = kind_named i a.at a.value a.first in
    let b = bind_ok (any_name a.at) _ _ a.onward in
    let u = named a.at b.at b.value b.first in
    covers_to (record {
      text = t.token ∷ u.token ∷ [];
      way = way_then t.way u.way;
      spelled = param t.token u.token a.value b.value refl (signal_at a.value b.value (placed t.way) (placed u.way)) t.is u.is;
    }) b.onward

signal_param_goes : (ts : List Token) (x : SignalParam) (j : Input) → IsSignalParam ts x → signal_param (before ts j) ≡ Ok (x, j)
unfolding signal_param
signal_param_goes ts x j (param t u k n ts_is x_is first second) =
    rw (ts_is, x_is) (ok_then _ (kind_goes k n t u [] j first second) (ok_then _ (name_before n u [] j second) refl))

signal_commas : {ts : List Token} {xs : List SignalParam} → AreSignalParams ts xs → Commas IsSignalParam ts xs
signal_commas (one_signal x xs_is p) = one_item x xs_is p
signal_commas (more_signal us o vs ys z ts_is xs_is p comma q) = more_items us o vs ys z ts_is xs_is (signal_commas p) comma q

commas_signal : {ts : List Token} {xs : List SignalParam} → Commas IsSignalParam ts xs → AreSignalParams ts xs
commas_signal (one_item x xs_is p) = one_signal x xs_is p
commas_signal (more_items us o vs ys z ts_is xs_is p comma q) = more_signal us o vs ys z ts_is xs_is (commas_signal p) comma q

some_signal_covers : (i : Input) (xs : List SignalParam) (j : Input) → some_signal_params i ≡ Ok (xs, j) → Covers (Anyhow (UntilParen IsSignalParam)) i j xs
unfolding some_signal_params more_signal_params
some_signal_covers = items_cover signal_param IsSignalParam signal_param_covers

some_signal_goes : (ts : List Token) (xs : List SignalParam) (j : Input) → UntilParen IsSignalParam ts xs → some_signal_params (before ts j) ≡ Ok (xs, j)
unfolding some_signal_params more_signal_params
some_signal_goes = items_go signal_param IsSignalParam signal_param_goes

in_signal_parens : (o : Token) (next : Option Token) (ts : List Token) (xs : List SignalParam) → IsMark o OpenParen → UntilParen IsSignalParam ts xs → AreSignalParens (o ∷ ts) next xs
in_signal_parens o next ts xs open_is (until_paren us z ts_is p close_is) = some_signal o us z (ap (λ ws. o ∷ ws) ts_is) open_is (commas_signal p) close_is

pub signal_params_cover : (i : Input) (xs : List SignalParam) (j : Input) → signal_params i ≡ Ok (xs, j) → Covers AreSignalParens i j xs
unfolding signal_params
signal_params_cover i xs j h = elim (if_ok (is_mark OpenParen (ahead i)) _ _ _ h) [
  | inl a ↦ (let o = ahead_some (is_mark OpenParen) refl i a.0 in elim (if_ok (is_mark CloseParen (ahead (after i))) _ _ _ a.1) [
    | inl b ↦ (let z = ahead_some (is_mark CloseParen) refl (after i) b.0 in covers_to (record {
      text = o.token ∷ z.token ∷ [];
      way = way_then (way_token o.token o.rest) (way_token z.token z.rest);
      spelled = no_signal o.token z.token refl refl o.is z.is;
    }) b.1)
    | inr b ↦ (let c = some_signal_covers (after i) xs j b.1 in record {
      text = o.token ∷ c.text;
      way = way_then (way_token o.token o.rest) c.way;
      spelled = in_signal_parens o.token (ahead j) c.text xs o.is c.spelled;
    })
  ])
  | inr a ↦ covers_to (record { text = []; way = way_none i; spelled = nothing refl refl a.0 }) a.1
]

signal_param_begins : (ts : List Token) (x : SignalParam) → IsSignalParam ts x → Begins is_name ts
signal_param_begins ts x (param t u k n ts_is x_is first second) = record { token = t; others = u ∷ []; text = ts_is; begins = named_is_name t first }

-- a name is no ")"
no_close : {ts : List Token} (j : Input) → Begins is_name ts → is_mark CloseParen (ahead (before ts j)) ≡ false
no_close j b = ap (λ us. is_mark CloseParen (head (us ++ j.rest))) b.text ∙ is_name_no_mark CloseParen b.token b.begins

some_in_parens_go : (o : Token) (us : List Token) (z : Token) (xs : List SignalParam) (j : Input) → IsMark o OpenParen → AreSignalParams us xs → IsMark z CloseParen → signal_params (before (o ∷ us ++ z ∷ []) j) ≡ Ok (xs, j)
unfolding signal_params
some_in_parens_go o us z xs j open_is p close_is =
    let q : UntilParen IsSignalParam (us ++ z ∷ []) xs = until_paren us z refl (signal_commas p) close_is in
    if_true _ _ open_is (if_false _ _ (no_close j (until_paren_begins is_name signal_param_begins q)) (some_signal_goes (us ++ z ∷ []) xs j q))

pub signal_params_go : (ts : List Token) (next : Option Token) (xs : List SignalParam) (j : Input) → ahead j ≡ next → AreSignalParens ts next xs → signal_params (before ts j) ≡ Ok (xs, j)
unfolding signal_params
signal_params_go ts next xs j e (nothing ts_is xs_is other) = rw (ts_is, xs_is) (if_false _ _ (ap (is_mark OpenParen) e ∙ other) refl)
signal_params_go ts next xs j e (no_signal o z ts_is xs_is open_is close_is) = rw (ts_is, xs_is) (if_true _ _ open_is (if_true _ _ close_is refl))
signal_params_go ts next xs j e (some_signal o us z ts_is open_is p close_is) = ap (λ vs. signal_params (before vs j)) ts_is ∙ some_in_parens_go o us z xs j open_is p close_is

-- Parameters of methods

-- Name
pub data IsMethodParam : List Token → MethodParam → Type 0 where
  method : {ts : List Token} {x : MethodParam} (t : Token) (n : List ℕ) → ts ≡ t ∷ [] → x ≡ record { name = n; span = t.span } → IsName t n → IsMethodParam ts x

pub method_param_covers : (i : Input) (x : MethodParam) (j : Input) → method_param i ≡ Ok (x, j) → Covers (Anyhow IsMethodParam) i j x
unfolding method_param
method_param_covers i x j h =
    let a = bind_ok (any_name i) _ _ h in
    let t = named i a.at a.value a.first in
    covers_to (record { text = t.token ∷ []; way = t.way; spelled = method t.token a.value refl (ap (λ s. record { name = a.value; span = s }) (placed t.way)) t.is }) a.onward

method_param_goes : (ts : List Token) (x : MethodParam) (j : Input) → IsMethodParam ts x → method_param (before ts j) ≡ Ok (x, j)
unfolding method_param
method_param_goes ts x j (method t n ts_is x_is is) = rw (ts_is, x_is) (ok_then _ (name_before n t [] j is) refl)

method_param_begins : (ts : List Token) (x : MethodParam) → IsMethodParam ts x → Begins is_name ts
method_param_begins ts x (method t n ts_is x_is is) = record { token = t; others = []; text = ts_is; begins = named_is_name t is }

method_commas : {ts : List Token} {xs : List MethodParam} → AreMethodParams ts xs → Commas IsMethodParam ts xs
method_commas (one_method t n ts_is xs_is is) = one_item (record { name = n; span = t.span }) xs_is (method t n ts_is refl is)
method_commas (more_method us o t ys n ts_is xs_is p comma is) = more_items us o (t ∷ []) ys (record { name = n; span = t.span }) ts_is xs_is (method_commas p) comma (method t n refl refl is)

method_one : {ts : List Token} {x : MethodParam} {xs : List MethodParam} → IsMethodParam ts x → xs ≡ x ∷ [] → AreMethodParams ts xs
method_one (method t n ts_is x_is is) xs_is = one_method t n ts_is (xs_is ∙ ap (λ y. y ∷ []) x_is) is

method_more : {ts : List Token} {xs : List MethodParam} (us : List Token) (o : Token) (vs : List Token) (ys : List MethodParam) (z : MethodParam) → ts ≡ us ++ o ∷ vs → xs ≡ ys ++ z ∷ [] → AreMethodParams us ys → IsMark o Comma → IsMethodParam vs z → AreMethodParams ts xs
method_more us o vs ys z ts_is xs_is p comma (method t n vs_is z_is is) = more_method us o t ys n (ts_is ∙ ap (λ ws. us ++ o ∷ ws) vs_is) (xs_is ∙ ap (λ y. ys ++ y ∷ []) z_is) p comma is

commas_method : {ts : List Token} {xs : List MethodParam} → Commas IsMethodParam ts xs → AreMethodParams ts xs
commas_method (one_item x xs_is p) = method_one p xs_is
commas_method (more_items us o vs ys z ts_is xs_is p comma q) = method_more us o vs ys z ts_is xs_is (commas_method p) comma q

some_method_covers : (i : Input) (xs : List MethodParam) (j : Input) → some_method_params i ≡ Ok (xs, j) → Covers (Anyhow (UntilParen IsMethodParam)) i j xs
unfolding some_method_params more_method_params
some_method_covers = items_cover method_param IsMethodParam method_param_covers

some_method_goes : (ts : List Token) (xs : List MethodParam) (j : Input) → UntilParen IsMethodParam ts xs → some_method_params (before ts j) ≡ Ok (xs, j)
unfolding some_method_params more_method_params
some_method_goes = items_go method_param IsMethodParam method_param_goes

in_method_parens : (o : Token) (ts : List Token) (xs : List MethodParam) → IsMark o OpenParen → UntilParen IsMethodParam ts xs → AreMethodParens (o ∷ ts) xs
in_method_parens o ts xs open_is (until_paren us z ts_is p close_is) = some_method o us z (ap (λ ws. o ∷ ws) ts_is) open_is (commas_method p) close_is

pub method_params_cover : (i : Input) (xs : List MethodParam) (j : Input) → method_params i ≡ Ok (xs, j) → Covers (Anyhow AreMethodParens) i j xs
unfolding method_params
method_params_cover i xs j h =
    let a = bind_ok (expect OpenParen i) _ _ h in
    let o = expected OpenParen i a.at a.value a.first in
    elim (if_ok (is_mark CloseParen (ahead a.at)) _ _ _ a.onward) [
      | inl b ↦ (let z = ahead_some (is_mark CloseParen) refl a.at b.0 in covers_to (record {
        text = o.token ∷ z.token ∷ [];
        way = way_then o.way (way_token z.token z.rest);
        spelled = no_method o.token z.token refl refl o.is z.is;
      }) b.1)
      | inr b ↦ (let c = some_method_covers a.at xs j b.1 in record {
        text = o.token ∷ c.text;
        way = way_then o.way c.way;
        spelled = in_method_parens o.token c.text xs o.is c.spelled;
      })
    ]

some_methods_go : (o : Token) (us : List Token) (z : Token) (xs : List MethodParam) (j : Input) → IsMark o OpenParen → AreMethodParams us xs → IsMark z CloseParen → method_params (before (o ∷ us ++ z ∷ []) j) ≡ Ok (xs, j)
unfolding method_params
some_methods_go o us z xs j open_is p close_is =
    let q : UntilParen IsMethodParam (us ++ z ∷ []) xs = until_paren us z refl (method_commas p) close_is in
    ok_then _ (expect_before OpenParen o (us ++ z ∷ []) j open_is) (if_false _ _ (no_close j (until_paren_begins is_name method_param_begins q)) (some_method_goes (us ++ z ∷ []) xs j q))

pub method_params_go : (ts : List Token) (xs : List MethodParam) (j : Input) → AreMethodParens ts xs → method_params (before ts j) ≡ Ok (xs, j)
unfolding method_params
method_params_go ts xs j (no_method o z ts_is xs_is open_is close_is) = rw (ts_is, xs_is) (ok_then _ (expect_before OpenParen o (z ∷ []) j open_is) (if_true _ _ close_is refl))
method_params_go ts xs j (some_method o us z ts_is open_is p close_is) = ap (λ vs. method_params (before vs j)) ts_is ∙ some_methods_go o us z xs j open_is p close_is
