-- Inputs with tokens put in front, and readings of them.
use Rattle.std.proofs.Common.{◌≡◌, ℕ, zero, suc, ◌+◌, ◌≤◌, Bool, true, false, if◌then◌else◌, List, [], ◌∷◌, ◌++◌, length, Option, Some, None, Result, Ok, Err, refl, sym, ap, subst, ◌∙◌, arith, append_assoc, length-append}
use Rattle.qml_ast.specs.declared.fault.DocFault.{DocFault}
use Rattle.qml_grammar.specs.Inputs.{Input, Parser, ahead, take_node, repeated, while_next}
use Rattle.qml_grammar.specs.Lexemes.{Token}
use Rattle.grammar_laws.specs.Laws.{Way}

-- the input with tokens of so many nodes in front
abbrev pub behind : List Token → ℕ → Input → Input
behind ts n j = record { rest = ts ++ j.rest; end = j.end; nodes = n + j.nodes }

pub same_input_by : {i j : Input} → i.rest ≡ j.rest → i.end ≡ j.end → i.nodes ≡ j.nodes → i ≡ j
same_input_by r e n = λ l. record { rest = r l; end = e l; nodes = n l }

pub behind_both : {ts : List Token} {k : ℕ} (us vs : List Token) (m n : ℕ) (j : Input) → ts ≡ us ++ vs → k ≡ m + n → behind ts k j ≡ behind us m (behind vs n j)
behind_both us vs m n j t e = same_input_by (ap (λ ws. ws ++ j.rest) t ∙ append_assoc us vs j.rest) refl (omega arith)

pub way_behind : {i j : Input} {n : ℕ} {ts : List Token} → Way i j n ts → i ≡ behind ts n j
way_behind w = same_input_by w.rest w.end w.used

-- Steps

pub ok_then : {A B : Type 0} {r : Result (A × Input) DocFault} {p : A × Input} (f : A × Input → Result (B × Input) DocFault) {y : Result (B × Input) DocFault} → r ≡ Ok p → f p ≡ y → ◌≡◌ {A = Result (B × Input) DocFault} (elim r [ Ok q ↦ f q | Err e ↦ Err e ]) y
ok_then f e h = rw e h

pub if_true : {A : Type 0} {b : Bool} (p q : A) {y : A} → b ≡ true → p ≡ y → (if b then p else q) ≡ y
if_true p q e h = rw e h

pub if_false : {A : Type 0} {b : Bool} (p q : A) {y : A} → b ≡ false → q ≡ y → (if b then p else q) ≡ y
if_false p q e h = rw e h

pub found : {A B : Type 0} {o : Option A} {x : A} (f : A → B) (z : B) {y : B} → o ≡ Some x → f x ≡ y → ◌≡◌ {A = B} (elim o [ Some w ↦ f w | None ↦ z ]) y
found f z e h = rw e h

pub missing : {A B : Type 0} {o : Option A} (f : A → B) (z : B) {y : B} → o ≡ None → z ≡ y → ◌≡◌ {A = B} (elim o [ Some w ↦ f w | None ↦ z ]) y
missing f z e h = rw e h

pub passed : {A : Type 0} {b : Bool} (p q : A) {y : A} → b ≡ true → p ≡ y → ◌≡◌ {A = A} (elim b [ true ↦ p | false ↦ q ]) y
passed p q e h = rw e h

pub failed : {A : Type 0} {b : Bool} (p q : A) {y : A} → b ≡ false → q ≡ y → ◌≡◌ {A = A} (elim b [ true ↦ p | false ↦ q ]) y
failed p q e h = rw e h

pub node_behind : (t : Token) (ts : List Token) (n : ℕ) (j : Input) → take_node (behind (t ∷ ts) (1 + n) j) ≡ Ok (tt, behind ts n j)
node_behind t ts n j = let e : (1 + n) + j.nodes ≡ suc (n + j.nodes) = omega arith in rw e

pub last_behind : (j : Input) → behind [] 0 j ≡ j
last_behind j = same_input_by refl refl (omega arith)

pub node_last : (t : Token) (j : Input) → take_node (behind (t ∷ []) 1 j) ≡ Ok (tt, j)
node_last t j = node_behind t [] 0 j ∙ ap (λ i. Ok (tt, i)) (last_behind j)

-- Loops

-- reading the tokens is reading on behind them
pub record GoesOn {A : Type 0} (p : Parser A) (test : Option Token → Bool) (step : A → Parser A) (ts : List Token) (k : ℕ) (x : A) (j : Input) : Type 0 where
  pub fuel : ℕ
  pub enough : length j.rest ≤ fuel
  pub same : p (behind ts k j) ≡ repeated test step fuel x j

pub goes_as : {A : Type 0} {p : Parser A} {test : Option Token → Bool} {step : A → Parser A} {ts : List Token} {k : ℕ} {x y : A} {j : Input} → GoesOn p test step ts k x j → y ≡ x → GoesOn p test step ts k y j
goes_as {p = p} {test = test} {step = step} {ts = ts} {k = k} {j = j} g e = subst (λ z. GoesOn p test step ts k z j) (sym e) g

module _ {A : Type 0} (p : Parser A) (test : Option Token → Bool) (step : A → Parser A) where
  pub again : (n : ℕ) (x y : A) (i j : Input) → test (ahead i) ≡ true → step x i ≡ Ok (y, j) → repeated test step (suc n) x i ≡ repeated test step n y j
  unfolding repeated
  again n x y i j t h = passed _ _ t (ok_then _ h refl)

  pub stopped : (n : ℕ) (x : A) (i : Input) → test (ahead i) ≡ false → repeated test step n x i ≡ Ok (x, i)
  unfolding repeated
  stopped zero x i t = refl
  stopped (suc n) x i t = failed _ _ t refl

  pub goes_first : (ts : List Token) (k : ℕ) (x : A) (j : Input) → p (behind ts k j) ≡ while_next test step x j → GoesOn p test step ts k x j
  unfolding while_next
  goes_first ts k x j h = record { fuel = length j.rest; enough = omega arith; same = h }

  more_from : (ts us : List Token) (o : Token) (vs : List Token) (k m n : ℕ) (x y : A) (j : Input) (fuel : ℕ) → length (o ∷ vs ++ j.rest) ≤ fuel → p (behind us m (behind (o ∷ vs) n j)) ≡ repeated test step fuel x (behind (o ∷ vs) n j) → k ≡ m + n → ts ≡ us ++ o ∷ vs → test (Some o) ≡ true → step x (behind (o ∷ vs) n j) ≡ Ok (y, j) → GoesOn p test step ts k y j
  more_from ts us o vs k m n x y j zero enough same e t is h = absurd (omega arith)
  more_from ts us o vs k m n x y j (suc fuel) enough same e t is h = record {
    fuel = fuel;
    enough = omega (arith, length-append vs j.rest);
    same = ap p (behind_both us (o ∷ vs) m n j t e) ∙ (same ∙ again fuel x y (behind (o ∷ vs) n j) j is h);
  }

  pub goes_more : (ts us : List Token) (o : Token) (vs : List Token) (k m n : ℕ) (x y : A) (j : Input) → GoesOn p test step us m x (behind (o ∷ vs) n j) → k ≡ m + n → ts ≡ us ++ o ∷ vs → test (Some o) ≡ true → step x (behind (o ∷ vs) n j) ≡ Ok (y, j) → GoesOn p test step ts k y j
  goes_more ts us o vs k m n x y j g = more_from ts us o vs k m n x y j g.fuel g.enough g.same

  pub goes_last : (ts : List Token) (k : ℕ) (x : A) (j : Input) → GoesOn p test step ts k x j → test (ahead j) ≡ false → p (behind ts k j) ≡ Ok (x, j)
  goes_last ts k x j g t = g.same ∙ stopped g.fuel x j t
