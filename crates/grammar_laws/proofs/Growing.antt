-- What a reading gives is spelled by the tokens that it took; what is read on from a value adds tokens to it.
use Rattle.std.proofs.Common.{◌≡◌, ℕ, zero, suc, ◌+◌, ◌≤◌, ◌<◌, Bool, true, false, List, [], ◌∷◌, ◌++◌, length, Option, None, Result, Ok, Err, refl, ap, subst, subst₂, ◌∙◌, arith, length-append}
use Rattle.qml_ast.specs.declared.fault.DocFault.{DocFault}
use Rattle.qml_grammar.specs.Inputs.{Input, Parser, ahead, repeated, while_next}
use Rattle.qml_grammar.specs.Lexemes.{Token, head}
use Rattle.grammar_laws.specs.Laws.{Way}
use Rattle.grammar_laws.proofs.Strength.{strength}
use Rattle.grammar_laws.proofs.Tools.{way_then, same_value, same_input}

-- between the inputs stands the value, and what follows binds no tighter than this
pub record Covers {A : Type 0} (Spells : ℕ → List Token → A → Type 0) (bound : ℕ) (i j : Input) (x : A) : Type 0 where
  pub nodes : ℕ
  pub text : List Token
  pub way : Way i j nodes text
  pub spelled : Spells nodes text x
  pub stops : strength (ahead j) ≤ bound

-- behind what spells the one value, a token or more between the inputs make it the other value
pub record Adds {A : Type 0} (Spells : ℕ → List Token → A → Type 0) (bound : ℕ) (x : A) (i j : Input) (y : A) : Type 0 where
  pub nodes : ℕ
  pub token : Token
  pub others : List Token
  pub way : Way i j nodes (token ∷ others)
  pub spelled : (k : ℕ) (us : List Token) → Spells k us x → Spells (k + nodes) (us ++ token ∷ others) y
  pub stops : strength (ahead j) ≤ bound

pub covers_to : {A : Type 0} {Spells : ℕ → List Token → A → Type 0} {bound : ℕ} {i j k : Input} {x y : A} → Covers Spells bound i j x → ◌≡◌ {A = Result (A × Input) DocFault} (Ok (x, j)) (Ok (y, k)) → Covers Spells bound i k y
covers_to {Spells = Spells} {bound = bound} {i = i} {j = j} {k = k} {x = x} {y = y} c e = subst₂ (λ z l. Covers Spells bound i l z) (same_value x y j k e) (same_input x y j k e) c

pub adds_to : {A : Type 0} {Spells : ℕ → List Token → A → Type 0} {bound : ℕ} {w : A} {i j k : Input} {x y : A} → Adds Spells bound w i j x → ◌≡◌ {A = Result (A × Input) DocFault} (Ok (x, j)) (Ok (y, k)) → Adds Spells bound w i k y
adds_to {Spells = Spells} {bound = bound} {w = w} {i = i} {j = j} {k = k} {x = x} {y = y} c e = subst₂ (λ z l. Adds Spells bound w i l z) (same_value x y j k e) (same_input x y j k e) c

pub covers_then : {A : Type 0} {Spells : ℕ → List Token → A → Type 0} {bound limit : ℕ} {i j k : Input} {x y : A} → Covers Spells limit i j x → Adds Spells bound x j k y → Covers Spells bound i k y
covers_then c a = record { nodes = c.nodes + a.nodes; text = c.text ++ a.token ∷ a.others; way = way_then c.way a.way; spelled = a.spelled c.nodes c.text c.spelled; stops = a.stops }

pub shorter : {i j : Input} {n : ℕ} {t : Token} {ts : List Token} → Way i j n (t ∷ ts) → length j.rest < length i.rest
shorter {ts = ts} w = rw (w.rest, length-append) (omega arith)

-- How a loop went on

pub data Went {A : Type 0} (test : Option Token → Bool) (step : A → Parser A) (n : ℕ) (x : A) (i : Input) (y : A) (j : Input) : Type 0 where
  stopped : test (ahead i) ≡ false → ◌≡◌ {A = Result (A × Input) DocFault} (Ok (x, i)) (Ok (y, j)) → Went test step n x i y j
  went : (z : A) (k : Input) → test (ahead i) ≡ true → step x i ≡ Ok (z, k) → repeated test step n z k ≡ Ok (y, j) → Went test step n x i y j

went_by : {A : Type 0} (test : Option Token → Bool) (step : A → Parser A) (n : ℕ) (x : A) (i : Input) (y : A) (j : Input) → test (ahead i) ≡ true → (r : Result (A × Input) DocFault) → step x i ≡ r → ◌≡◌ {A = Result (A × Input) DocFault} (elim r [ Ok p ↦ repeated test step n p.0 p.1 | Err e ↦ Err e ]) (Ok (y, j)) → Went test step n x i y j
went_by test step n x i y j t (Ok (z, k)) e h = went z k t e h
went_by test step n x i y j t (Err f) e h = absurd cc

went_from : {A : Type 0} (test : Option Token → Bool) (step : A → Parser A) (n : ℕ) (x : A) (i : Input) (y : A) (j : Input) (b : Bool) → test (ahead i) ≡ b → ◌≡◌ {A = Result (A × Input) DocFault} (elim b [ true ↦ elim (step x i) [ Ok p ↦ repeated test step n p.0 p.1 | Err e ↦ Err e ] | false ↦ Ok (x, i) ]) (Ok (y, j)) → Went test step n x i y j
went_from test step n x i y j true t h = went_by test step n x i y j t (step x i) refl h
went_from test step n x i y j false t h = stopped t h

pub went_on : {A : Type 0} (test : Option Token → Bool) (step : A → Parser A) (n : ℕ) (x : A) (i : Input) (y : A) (j : Input) → repeated test step (suc n) x i ≡ Ok (y, j) → Went test step n x i y j
unfolding repeated
went_on test step n x i y j h = went_from test step n x i y j (test (ahead i)) refl h

-- What a loop gives

pub record Loops {A : Type 0} (Spells : ℕ → List Token → A → Type 0) (bound : ℕ) (test : Option Token → Bool) (i j : Input) (y : A) : Type 0 where
  pub covers : Covers Spells bound i j y
  pub ends : test (ahead j) ≡ false

pub no_token : (ts : List Token) → length ts ≤ 0 → head ts ≡ None
no_token [] h = refl
no_token (t ∷ ts) h = absurd (omega arith)

loops_to : {A : Type 0} {Spells : ℕ → List Token → A → Type 0} {bound : ℕ} {test : Option Token → Bool} {i j k : Input} {x y : A} → Covers Spells bound i j x → test (ahead j) ≡ false → ◌≡◌ {A = Result (A × Input) DocFault} (Ok (x, j)) (Ok (y, k)) → Loops Spells bound test i k y
loops_to {test = test} {j = j} {k = k} {x = x} {y = y} c t e = record { covers = covers_to c e; ends = subst (λ l. test (ahead l) ≡ false) (same_input x y j k e) t }

module _ {A : Type 0} (Spells : ℕ → List Token → A → Type 0) (bound : ℕ) (test : Option Token → Bool) (step : A → Parser A) (none : test None ≡ false) (adds : (x : A) (i : Input) (y : A) (j : Input) → test (ahead i) ≡ true → step x i ≡ Ok (y, j) → Adds Spells bound x i j y) where
  repeated_covers : (n : ℕ) (o i : Input) (x y : A) (j : Input) → length i.rest ≤ n → Covers Spells bound o i x → repeated test step n x i ≡ Ok (y, j) → Loops Spells bound test o j y
  unfolding repeated
  repeated_covers zero o i x y j few c h = loops_to c (ap test (no_token i.rest few) ∙ none) h
  repeated_covers (suc n) o i x y j few c h = elim (went_on test step n x i y j h) [
    | stopped t e ↦ loops_to c t e
    | went z k t e g ↦ (let a = adds x i z k t e in repeated_covers n o k z y j (let lt = shorter a.way in omega arith) (covers_then c a) g)
  ]

  pub while_covers : (o i : Input) (x y : A) (j : Input) → Covers Spells bound o i x → while_next test step x i ≡ Ok (y, j) → Loops Spells bound test o j y
  unfolding while_next
  while_covers o i x y j c h = repeated_covers (length i.rest) o i x y j (omega arith) c h
