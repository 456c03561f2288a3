-- Steps of readings that fail, with what was read before them, and what goes on before a `}`.
use Rattle.std.proofs.Common.{◌≡◌, ℕ, zero, suc, Bool, true, List, [], ◌++◌, length, Option, Result, Ok, Err, sym, subst, subst₂, arith, append_assoc, append-nil}
use Rattle.qml_ast.specs.declared.fault.DocFault.{DocFault}
use Rattle.qml_ast.specs.declared.fault.DocFault.TheVariants.{Unsupported}
use Rattle.qml_grammar.specs.Inputs.{Input, Parser, ahead, place, refusal, repeated, while_next}
use Rattle.qml_grammar.specs.Lexemes.{Token}
use Rattle.grammar_laws.specs.Faults.{IsFaultAt, unsupported}
use Rattle.grammar_laws.specs.Laws.{Way}
use Rattle.grammar_laws.proofs.Growing.{went_on, stopped, went}
use Rattle.grammar_laws.proofs.Tools.{way_none, way_then, same_value, same_input}
use Rattle.grammar_laws.proofs.Viable.{same_fault, refused_once, now, later, stuck_on}
use Rattle.prefix_laws.proofs.Going.{HaltsOn, halts_behind, never_err, Completes, completes, Fills}
use Rattle.prefix_laws.proofs.PartPrefixes.{Brace}

-- Faults at the next token

pub refused_place : {A : Type 0} (i : Input) (e : DocFault) → ◌≡◌ {A = Result (A × Input) DocFault} (Err (refusal i)) (Err e) → IsFaultAt e (place i)
refused_place {A = A} i e h = (refused_once {A = A} i e h).place

pub unsupported_place : {A : Type 0} (i : Input) (e : DocFault) → ◌≡◌ {A = Result (A × Input) DocFault} (Err (Unsupported (place i))) (Err e) → IsFaultAt e (place i)
unsupported_place {A = A} i e h = unsupported (sym (same_fault {A = A} (Unsupported (place i)) e h))

-- what gives a value doesn't fail
pub never : {A X : Type 0} (x : A) (i : Input) (e : DocFault) → ◌≡◌ {A = Result (A × Input) DocFault} (Ok (x, i)) (Err e) → X
never x i e h = absurd (never_err x i e h)

-- Loops

-- behind what spells the one value, the tokens between the inputs make it the other value
pub record Adding {A : Type 0} (Spells : List Token → Option Token → A → Type 0) (x : A) (i : Input) (y : A) (j : Input) : Type 0 where
  pub text : List Token
  pub way : Way i j 0 text
  pub spelled : (us : List Token) → Spells us (ahead i) x → Spells (us ++ text) (ahead j) y

-- the tokens and those between the inputs spell this
pub record Grown {A : Type 0} (Spells : List Token → Option Token → A → Type 0) (us : List Token) (i : Input) (y : A) (j : Input) : Type 0 where
  pub text : List Token
  pub way : Way i j 0 text
  pub spelled : Spells (us ++ text) (ahead j) y

grown_none : {A : Type 0} {Spells : List Token → Option Token → A → Type 0} (us : List Token) (x : A) (i : Input) (y : A) (j : Input) → Spells us (ahead i) x → ◌≡◌ {A = Result (A × Input) DocFault} (Ok (x, i)) (Ok (y, j)) → Grown Spells us i y j
grown_none {Spells = Spells} us x i y j p h =
    let here : Grown Spells us i x i = record { text = []; way = way_none i; spelled = subst (λ ts. Spells ts (ahead i) x) (sym (append-nil us)) p } in
    subst₂ (λ z k. Grown Spells us i z k) (same_value x y i j h) (same_input x y i j h) here

module _ {A : Type 0} (Spells : List Token → Option Token → A → Type 0) (test : Option Token → Bool) (step : A → Parser A) (adds : (x : A) (i : Input) (y : A) (j : Input) → test (ahead i) ≡ true → step x i ≡ Ok (y, j) → Adding Spells x i y j) where
  loop_grown : (n : ℕ) (us : List Token) (x : A) (i : Input) (y : A) (j : Input) → Spells us (ahead i) x → repeated test step n x i ≡ Ok (y, j) → Grown Spells us i y j
  unfolding repeated
  loop_grown zero us x i y j p h = grown_none us x i y j p h
  loop_grown (suc n) us x i y j p h = elim (went_on test step n x i y j h) [
    | stopped t g ↦ grown_none us x i y j p g
    | went z k t g g2 ↦ (
        let a = adds x i z k t g in
        let c = loop_grown n (us ++ a.text) z k y j (a.spelled us p) g2 in
        record { text = a.text ++ c.text; way = way_then a.way c.way; spelled = subst (λ ts. Spells ts (ahead j) y) (append_assoc us a.text c.text) c.spelled })
  ]

  -- what a loop gives
  pub while_grown : (us : List Token) (x : A) (i : Input) (y : A) (j : Input) → Spells us (ahead i) x → while_next test step x i ≡ Ok (y, j) → Grown Spells us i y j
  unfolding while_next
  while_grown us x i y j p h = loop_grown (length i.rest) us x i y j p h

  module _ (V : List Token → Type 0) (fails : (us : List Token) (x : A) (i : Input) (e : DocFault) → Spells us (ahead i) x → test (ahead i) ≡ true → step x i ≡ Err e → HaltsOn V us i e) where
    loop_halts : (n : ℕ) (us : List Token) (x : A) (i : Input) (e : DocFault) → Spells us (ahead i) x → repeated test step n x i ≡ Err e → HaltsOn V us i e
    unfolding repeated
    loop_halts zero us x i e p h = never x i e h
    loop_halts (suc n) us x i e p h = elim (stuck_on test step n x i e h) [
      | now t g ↦ fails us x i e p t g
      | later z k t g g2 ↦ (let a = adds x i z k t g in halts_behind a.way (loop_halts n (us ++ a.text) z k e (a.spelled us p) g2))
    ]

    -- where a loop fails, behind what it has read so far
    pub while_halts : (us : List Token) (x : A) (i : Input) (e : DocFault) → Spells us (ahead i) x → while_next test step x i ≡ Err e → HaltsOn V us i e
    unfolding while_next
    while_halts us x i e p h = loop_halts (length i.rest) us x i e p h

-- What goes on

-- with others behind them the tokens spell this before a `}`
abbrev pub Onward : {A : Type 0} → (ℕ → List Token → Option Token → A → Type 0) → List Token → Type 0
Onward Spells ts = Completes Brace Spells ts

-- with others behind them the tokens are this, whatever the nodes and what follows
abbrev pub Becoming : {A : Type 0} → (List Token → A → Type 0) → List Token → Type 0
Becoming Spells ts = Fills (λ most. Spells) ts

-- these others behind them spell it
pub goes_with : {A : Type 0} {Spells : ℕ → List Token → Option Token → A → Type 0} {ts us : List Token} (others : List Token) (x : A) → us ≡ ts ++ others → ((next : Option Token) → Brace next → Spells 200 us next x) → Onward Spells ts
goes_with others x e p = completes others 200 x (omega arith) e p
