-- What stands before the first fault of a member that begins with a word of its own can go on.
use Rattle.std.proofs.Common.{◌≡◌, ℕ, suc, ◌≤◌, Bool, true, false, List, [], ◌∷◌, ◌++◌, Option, Some, None, Err, inl, inr, refl, sym, ap, ◌∙◌, arith, append_assoc}
use Rattle.qml_ast.specs.declared.decl.Init.{Init}
use Rattle.qml_ast.specs.declared.decl.Member.{Member}
use Rattle.qml_ast.specs.declared.decl.Member.TheVariants as mm
use Rattle.qml_ast.specs.declared.fault.DocFault.{DocFault}
use Rattle.qml_ast.specs.declared.param.MethodParam.{MethodParam}
use Rattle.qml_ast.specs.declared.span.Span.{Span}
use Rattle.qml_ast.specs.declared.stmt.Stmt.{Stmt}
use Rattle.qml_grammar.specs.DocumentGrammar.{IsName, AreMethodParens, nothing, IsMaybeValue, no_value, a_value, IsShortMember, id as an_id, property as a_property, fixed as a_fixed, signal as a_signal, IsMember, method as a_method}
use Rattle.qml_grammar.specs.Documents.{Under, value_in, id_member, property_kind, property_value, kind_and_name, property, fixed_property, signal_params, signal_member, method_params, method_block, method_behind, method}
use Rattle.qml_grammar.specs.ExpressionGrammar.{IsMark}
use Rattle.qml_grammar.specs.Inputs.{Input, ahead, after, any_name}
use Rattle.qml_grammar.specs.Lexemes.{Token, head, is_mark, is_word}
use Rattle.qml_grammar.specs.Marks.{same_mark, mark_number}
use Rattle.qml_grammar.specs.StatementGrammar.{IsWord, IsBlock, none as no_statements, braces}
use Rattle.qml_grammar.specs.declared.mark.Mark.TheVariants.{OpenBrace, CloseBrace, OpenParen, Colon}
use Rattle.qml_grammar.specs.declared.word.Word.TheVariants as ww
use Rattle.grammar_laws.proofs.Local.{before, onward, bind_err}
use Rattle.grammar_laws.proofs.Tools.{if_ok, ahead_some, way_token}
use Rattle.grammar_laws.proofs.Viable.{name_once}
use Rattle.document_laws.proofs.Params.{method_params_cover}
use Rattle.prefix_laws.proofs.DocumentSteps.{refused_place, never, Onward, Becoming, goes_with}
use Rattle.prefix_laws.proofs.DocumentTokens.{lower_name, a_lower, property_word, in_braces, property_is, lower_is, lower_no_alias}
use Rattle.prefix_laws.proofs.Going.{HaltsOn, Halts, halts_here, halts_as, halts_behind, halts_expect, halts_name, made_err, completes, the_mark, mark_is}
use Rattle.prefix_laws.proofs.Moved.{brace_tests}
use Rattle.prefix_laws.proofs.ParamPrefixes.{property_kind_place, property_kind_named, SignalParens, signal_params_halt, empty_parens, no_params, method_params_halt}
use Rattle.prefix_laws.proofs.StatementPrefixes.{IsBlockPrefix, any_block_halts}
use Rattle.prefix_laws.proofs.ValuePrefixes.{IsValuePrefix, PrefixesUnder, value_halts}

-- with others behind them the tokens are a member without its end, before a `}`
abbrev pub IsShortPrefix : ℕ → List Token → Type 0
IsShortPrefix d = Onward (λ most. IsShortMember most (suc d))

-- likewise a member with its end, or a group
abbrev pub IsMemberPrefix : ℕ → List Token → Type 0
IsMemberPrefix d = Onward (λ most. IsMember most (suc d))

-- "id" ":" Name

an_id_prefix : (d : ℕ) (ts us : List Token) (t o u : Token) (n : List ℕ) → t ∷ o ∷ u ∷ [] ≡ ts ++ us → IsWord t ww.Id → IsMark o Colon → IsName u n → IsShortPrefix d ts
an_id_prefix d ts us t o u n e word_is colon is = goes_with us (mm.Id n u.span) e (λ next b. an_id t o u n refl refl word_is colon is)

pub id_halts : (d : ℕ) (i : Input) (e : DocFault) → is_word ww.Id (ahead i) ≡ true → id_member i ≡ Err e → Halts (IsShortPrefix d) i e
unfolding id_member
id_halts d i e t h =
    let w = ahead_some (is_word ww.Id) refl i t in
    halts_behind (way_token w.token w.rest)
    (halts_expect Colon _ (after i) (an_id_prefix d (w.token ∷ []) (the_mark Colon ∷ a_lower ∷ []) w.token (the_mark Colon) a_lower lower_name refl w.is (mark_is Colon) lower_is)
    (λ o u k f colon v g. halts_here (name_once k f (made_err any_name _ k f g)).place (an_id_prefix d (w.token ∷ o ∷ []) (a_lower ∷ []) w.token o a_lower lower_name refl w.is colon lower_is)) e h)

-- Properties

-- Name Name [ ":" value ], behind `property`
record KindAndName (fixed : Bool) (most d : ℕ) (ts : List Token) (next : Option Token) (x : Member) : Type 0 where
  kind : Token
  name : Token
  text : List Token
  kind_text : List ℕ
  name_text : List ℕ
  value : Option Init
  at : Span
  all : ts ≡ kind ∷ name ∷ text
  is : x ≡ mm.Property fixed kind_text name_text value kind.span at name.span
  kind_is : IsName kind kind_text
  no_alias : is_word ww.Alias (Some kind) ≡ false
  name_is : IsName name name_text
  spelled : IsMaybeValue most d text next value at name.span

abbrev IsKindPrefix : Bool → ℕ → List Token → Type 0
IsKindPrefix fixed d = Onward (λ most. KindAndName fixed most (suc d))

-- without a value
kind_with : (fixed : Bool) (d : ℕ) (ts us : List Token) (t u : Token) (k n : List ℕ) → t ∷ u ∷ [] ≡ ts ++ us → IsName t k → is_word ww.Alias (Some t) ≡ false → IsName u n → IsKindPrefix fixed d ts
unfolding same_mark mark_number
kind_with fixed d ts us t u k n e kind_is no_alias name_is = goes_with us (mm.Property fixed k n None t.span u.span u.span) e (λ next b. record {
  kind = t;
  name = u;
  text = [];
  kind_text = k;
  name_text = n;
  value = None;
  at = u.span;
  all = refl;
  is = refl;
  kind_is = kind_is;
  no_alias = no_alias;
  name_is = name_is;
  spelled = no_value refl refl refl (brace_tests (is_mark Colon) (λ s. refl) next b);
})

-- with the prefix of one
value_on : (fixed : Bool) (d : ℕ) (t u o : Token) (k n : List ℕ) → IsName t k → is_word ww.Alias (Some t) ≡ false → IsName u n → IsMark o Colon → (us : List Token) → IsValuePrefix d us → IsKindPrefix fixed d (t ∷ u ∷ o ∷ us)
value_on fixed d t u o k n kind_is no_alias name_is colon us w =
    let y = w.value in
    completes w.others w.most (mm.Property fixed k n (Some y.init) t.span y.span u.span) w.enough refl (λ next b. record {
      kind = t;
      name = u;
      text = o ∷ us ++ w.others;
      kind_text = k;
      name_text = n;
      value = Some y.init;
      at = y.span;
      all = refl;
      is = refl;
      kind_is = kind_is;
      no_alias = no_alias;
      name_is = name_is;
      spelled = a_value o (us ++ w.others) y.init refl refl colon (w.spelled next b);
    })

property_on : (d : ℕ) (t : Token) → IsWord t ww.Property → (us : List Token) → IsKindPrefix false d us → IsShortPrefix d (t ∷ us)
property_on d t word_is us w = completes w.others w.most w.value w.enough refl (λ next b. let p = w.spelled next b in a_property t p.kind p.name p.text p.kind_text p.name_text p.value p.at (ap (λ ts. t ∷ ts) p.all) p.is word_is p.kind_is p.no_alias p.name_is p.spelled)

fixed_on : (d : ℕ) (r t : Token) → IsWord r ww.ReadOnly → IsWord t ww.Property → (us : List Token) → IsKindPrefix true d us → IsShortPrefix d (r ∷ t ∷ us)
fixed_on d r t first_is word_is us w = completes w.others w.most w.value w.enough refl (λ next b. let p = w.spelled next b in a_fixed r t p.kind p.name p.text p.kind_text p.name_text p.value p.at (ap (λ ts. r ∷ t ∷ ts) p.all) p.is first_is word_is p.kind_is p.no_alias p.name_is p.spelled)

some_fixed : (d : ℕ) (r : Token) → IsWord r ww.ReadOnly → IsShortPrefix d (r ∷ [])
unfolding same_mark mark_number
some_fixed d r first_is = goes_with (property_word ∷ a_lower ∷ a_lower ∷ []) (mm.Property true lower_name lower_name None a_lower.span a_lower.span a_lower.span) refl (λ next b. a_fixed r property_word a_lower a_lower [] lower_name lower_name None a_lower.span refl refl first_is property_is lower_is lower_no_alias lower_is (no_value refl refl refl (brace_tests (is_mark Colon) (λ s. refl) next b)))

module _ (d : ℕ) (v : Under) (inside : PrefixesUnder d v) where
  property_value_halts : (fixed : Bool) (t u : Token) (k n : List ℕ) (at there : Span) (i : Input) (e : DocFault) → IsName t k → is_word ww.Alias (Some t) ≡ false → IsName u n → property_value d v fixed k at n there i ≡ Err e → HaltsOn (IsKindPrefix fixed d) (t ∷ u ∷ []) i e
  unfolding property_value
  property_value_halts fixed t u k n at there i e kind_is no_alias name_is h = elim (if_ok (is_mark Colon (ahead i)) _ _ _ h) [
    | inl a ↦ (
        let o = ahead_some (is_mark Colon) refl i a.0 in
        halts_behind (way_token o.token o.rest) (halts_as (value_on fixed d t u o.token k n kind_is no_alias name_is o.is) (value_halts d v inside (after i) e (made_err (value_in d v) _ (after i) e a.1))))
    | inr a ↦ never _ i e a.1
  ]

  kind_halts : (fixed : Bool) (i : Input) (e : DocFault) → kind_and_name d v fixed i ≡ Err e → Halts (IsKindPrefix fixed d) i e
  unfolding kind_and_name
  kind_halts fixed i e h = elim (bind_err (property_kind i) _ _ h) [
    | before g ↦ halts_here (property_kind_place i e g) (kind_with fixed d [] (a_lower ∷ a_lower ∷ []) a_lower a_lower lower_name lower_name refl lower_is lower_no_alias lower_is)
    | onward k j g g2 ↦ (
        let a = property_kind_named i k j g in
        let t = a.0 in
        let no_alias : is_word ww.Alias (Some t.token) ≡ false = sym (ap (λ ts. is_word ww.Alias (head ts)) (t.way).rest) ∙ a.1 in
        halts_behind t.way (halts_name _ j (kind_with fixed d (t.token ∷ []) (a_lower ∷ []) t.token a_lower k lower_name refl t.is no_alias lower_is)
        (λ u n m f is w g3. property_value_halts fixed t.token u k n _ _ m f t.is no_alias is g3) e g2))
  ]

  pub property_halts : (i : Input) (e : DocFault) → is_word ww.Property (ahead i) ≡ true → property d v false i ≡ Err e → Halts (IsShortPrefix d) i e
  unfolding property
  property_halts i e t h =
      let w = ahead_some (is_word ww.Property) refl i t in
      halts_behind (way_token w.token w.rest) (halts_as (property_on d w.token w.is) (kind_halts false (after i) e h))

  pub fixed_halts : (i : Input) (e : DocFault) → is_word ww.ReadOnly (ahead i) ≡ true → fixed_property d v i ≡ Err e → Halts (IsShortPrefix d) i e
  unfolding fixed_property property
  fixed_halts i e t h =
      let r = ahead_some (is_word ww.ReadOnly) refl i t in
      halts_behind (way_token r.token r.rest) (elim (if_ok (is_word ww.Property (ahead (after i))) _ _ _ h) [
        | inl a ↦ (
            let w = ahead_some (is_word ww.Property) refl (after i) a.0 in
            halts_behind (way_token w.token w.rest) (halts_as (fixed_on d r.token w.token r.is w.is) (kind_halts true (after (after i)) e a.1)))
        | inr a ↦ halts_here (refused_place {A = Member} (after i) e a.1) (some_fixed d r.token r.is)
      ])

-- Signals

some_signal : (d : ℕ) (t : Token) → IsWord t ww.Signal → IsShortPrefix d (t ∷ [])
unfolding same_mark mark_number
some_signal d t is = goes_with (a_lower ∷ []) (mm.Signal lower_name [] a_lower.span) refl (λ next b. a_signal t a_lower [] lower_name [] refl refl is lower_is (nothing refl refl (brace_tests (is_mark OpenParen) (λ s. refl) next b)))

signal_on : (d : ℕ) (t u : Token) (n : List ℕ) → IsWord t ww.Signal → IsName u n → (us : List Token) → Becoming SignalParens us → IsShortPrefix d (t ∷ u ∷ us)
signal_on d t u n word_is is us w = goes_with w.others (mm.Signal n w.value u.span) refl (λ next b. a_signal t u (us ++ w.others) n w.value refl refl word_is is (w.spelled next))

pub signal_halts : (d : ℕ) (i : Input) (e : DocFault) → is_word ww.Signal (ahead i) ≡ true → signal_member i ≡ Err e → Halts (IsShortPrefix d) i e
unfolding signal_member
signal_halts d i e t h =
    let w = ahead_some (is_word ww.Signal) refl i t in
    halts_behind (way_token w.token w.rest) (halts_name _ (after i) (some_signal d w.token w.is)
    (λ u n k f is v g. halts_as (signal_on d w.token u n w.is is) (signal_params_halt k f (made_err signal_params _ k f g))) e h)

-- Methods

method_with : (d : ℕ) {ts ws : List Token} (us : List Token) (t u : Token) (ps vs : List Token) (n : List ℕ) (xs : List MethodParam) (ys : List Stmt) (most : ℕ) → 200 ≤ most → ws ≡ ts ++ us → ws ≡ t ∷ u ∷ ps ++ vs → IsWord t ww.Function → IsName u n → AreMethodParens ps xs → IsBlock most (suc d) vs ys → IsMemberPrefix d ts
method_with d us t u ps vs n xs ys most enough e f word_is is params block = completes us most (mm.Method n xs ys u.span ∷ []) enough e (λ next b. a_method t u ps vs n xs ys f refl word_is is params block)

no_block : (d : ℕ) → IsBlock 200 (suc d) (in_braces []) []
no_block d = braces d (the_mark OpenBrace) [] (the_mark CloseBrace) refl refl (mark_is OpenBrace) (no_statements refl refl) (mark_is CloseBrace)

some_method : (d : ℕ) (t : Token) → IsWord t ww.Function → IsMemberPrefix d (t ∷ [])
some_method d t word_is = method_with d (a_lower ∷ empty_parens ++ in_braces []) t a_lower empty_parens (in_braces []) lower_name [] [] 200 (omega arith) refl refl word_is lower_is no_params (no_block d)

params_on : (d : ℕ) (t u : Token) (n : List ℕ) → IsWord t ww.Function → IsName u n → (us : List Token) → Becoming AreMethodParens us → IsMemberPrefix d (t ∷ u ∷ us)
params_on d t u n word_is is us w = method_with d (w.others ++ in_braces []) t u (us ++ w.others) (in_braces []) n w.value [] 200 (omega arith) (ap (λ ts. t ∷ u ∷ ts) (append_assoc us w.others (in_braces []))) refl word_is is w.spelled (no_block d)

block_on : (d : ℕ) (t u : Token) (ps : List Token) (n : List ℕ) (xs : List MethodParam) → IsWord t ww.Function → IsName u n → AreMethodParens ps xs → (us : List Token) → IsBlockPrefix d us → IsMemberPrefix d (t ∷ u ∷ ps ++ us)
block_on d t u ps n xs word_is is params us w = method_with d w.others t u ps (us ++ w.others) n xs w.value w.most w.enough refl (ap (λ ts. t ∷ u ∷ ts) (append_assoc ps us w.others)) word_is is params w.spelled

method_block_halts : (d : ℕ) (i : Input) (e : DocFault) → method_block d i ≡ Err e → Halts (IsBlockPrefix d) i e
unfolding method_block
method_block_halts d i e h = elim (if_ok (is_mark OpenBrace (ahead i)) _ _ _ h) [
  | inl a ↦ any_block_halts d i e a.0 a.1
  | inr a ↦ halts_here (refused_place {A = List Stmt} i e a.1) (record { others = in_braces []; most = 200; enough = omega arith; value = []; spelled = no_block d })
]

pub method_halts : (d : ℕ) (i : Input) (e : DocFault) → is_word ww.Function (ahead i) ≡ true → method d i ≡ Err e → Halts (IsMemberPrefix d) i e
unfolding method method_behind
method_halts d i e t h =
    let w = ahead_some (is_word ww.Function) refl i t in
    halts_behind (way_token w.token w.rest) (halts_name _ (after i) (some_method d w.token w.is)
    (λ u n k f is v g. elim (bind_err (method_params k) _ _ g) [
      | before g2 ↦ halts_as (params_on d w.token u n w.is is) (method_params_halt k f g2)
      | onward ps l g2 g3 ↦ (
          let c = method_params_cover k ps l g2 in
          halts_behind c.way (halts_as (block_on d w.token u c.text n ps w.is is c.spelled) (method_block_halts d l f (made_err (method_block d) _ l f g3))))
    ]) e h)
