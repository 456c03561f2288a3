-- Readings that depend on the tokens that they take, and on the one behind them, alone.
use Rattle.std.proofs.Common.{◌≡◌, ℕ, ◌+◌, Bool, if◌then◌else◌, List, [], ◌∷◌, ◌++◌, Option, Some, None, Result, Ok, Err, inl, inr, refl, sym, ap, ◌∙◌, arith}
use Rattle.qml_ast.specs.declared.fault.DocFault.{DocFault}
use Rattle.qml_grammar.specs.Inputs.{Input, Parser, ahead, place}
use Rattle.qml_grammar.specs.Lexemes.{Token}
use Rattle.grammar_laws.specs.Faults.{IsLike}
use Rattle.grammar_laws.specs.Laws.{Way}
use Rattle.grammar_laws.proofs.Behind.{behind, behind_both, way_behind, ok_then, if_true, if_false, found, missing}
use Rattle.grammar_laws.proofs.Tools.{bind_ok, way_then, if_ok}

-- the same tokens before the same next one are read alike
pub record LocalOk {A : Type 0} (p : Parser A) (i j : Input) (x : A) : Type 0 where
  pub nodes : ℕ
  pub text : List Token
  pub way : Way i j nodes text
  pub again : (l : Input) → ahead l ≡ ahead j → p (behind text nodes l) ≡ Ok (x, l)

pub record Local {A : Type 0} (p : Parser A) : Type 0 where
  pub ok : (i : Input) (x : A) (j : Input) → p i ≡ Ok (x, j) → LocalOk p i j x

-- The next token of like inputs

ahead_kept : (ts : List Token) (n : ℕ) (l j : Input) → ahead l ≡ ahead j → ahead (behind ts n l) ≡ ahead (behind ts n j)
ahead_kept [] n l j h = h
ahead_kept (t ∷ ts) n l j h = refl

pub ahead_again : {i j : Input} (l : Input) {n : ℕ} {ts : List Token} → Way i j n ts → ahead l ≡ ahead j → ahead (behind ts n l) ≡ ahead i
ahead_again {j = j} l {n = n} {ts = ts} w h = ahead_kept ts n l j h ∙ sym (ap ahead (way_behind w))

place_kept : (ts : List Token) (n : ℕ) (l j : Input) → place l ≡ place j → place (behind ts n l) ≡ place (behind ts n j)
place_kept [] n l j h = h
place_kept (t ∷ ts) n l j h = refl

pub place_again : {i j : Input} (l : Input) {n : ℕ} {ts : List Token} → Way i j n ts → place l ≡ place j → place (behind ts n l) ≡ place i
place_again {j = j} l {n = n} {ts = ts} w h = place_kept ts n l j h ∙ sym (ap place (way_behind w))

pub like_again : {i j : Input} (l : Input) {n : ℕ} {ts : List Token} → Way i j n ts → IsLike l j → IsLike (behind ts n l) i
like_again l w h = record { ahead = ahead_again l w h.ahead; place = place_again l w h.place; nodes = omega (arith, h.nodes, w.used) }

-- One reading after another one

pub data FailedIn {A B : Type 0} (r : Result (A × Input) DocFault) (f : A × Input → Result (B × Input) DocFault) (e : DocFault) : Type 0 where
  before : r ≡ Err e → FailedIn r f e
  onward : (x : A) (j : Input) → r ≡ Ok (x, j) → f (x, j) ≡ Err e → FailedIn r f e

pub bind_err : {A B : Type 0} (r : Result (A × Input) DocFault) (f : A × Input → Result (B × Input) DocFault) (e : DocFault) → ◌≡◌ {A = Result (B × Input) DocFault} (elim r [ Ok p ↦ f p | Err g ↦ Err g ]) (Err e) → FailedIn r f e
bind_err (Ok (x, j)) f e h = onward x j refl h
bind_err {B = B} (Err g) f e h = before (let k : ◌≡◌ {A = Result (B × Input) DocFault} (Err g) (Err e) = h in cc)

pub err_then : {A B : Type 0} {r : Result (A × Input) DocFault} (f : A × Input → Result (B × Input) DocFault) {e : DocFault} → r ≡ Err e → ◌≡◌ {A = Result (B × Input) DocFault} (elim r [ Ok q ↦ f q | Err g ↦ Err g ]) (Err e)
err_then f h = rw h

abbrev pub followed : {A B : Type 0} → Parser A → (A → Parser B) → Parser B
followed p f i = elim (p i) [ Ok r ↦ f r.0 r.1 | Err e ↦ Err e ]

module _ {A B : Type 0} (p : Parser A) (f : A → Parser B) (first : Local p) (second : (x : A) → Local (f x)) where
  then_ok : (i : Input) (y : B) (j : Input) → followed p f i ≡ Ok (y, j) → LocalOk (followed p f) i j y
  then_ok i y j h =
      let b = bind_ok (p i) _ _ h in
      let a = first.ok i b.value b.at b.first in
      let c = (second b.value).ok b.at y j b.onward in
      record {
        nodes = a.nodes + c.nodes;
        text = a.text ++ c.text;
        way = way_then a.way c.way;
        again = λ l s. ap (followed p f) (behind_both a.text c.text a.nodes c.nodes l refl refl) ∙ ok_then _ (a.again (behind c.text c.nodes l) (ahead_again l c.way s)) (c.again l s);
      }

pub local_followed : {A B : Type 0} {p : Parser A} {f : A → Parser B} → Local p → ((x : A) → Local (f x)) → Local (followed p f)
local_followed {p = p} {f = f} first second = record { ok = then_ok p f first second }

-- A reading by the next token

abbrev pub branch : {A : Type 0} → (Option Token → Bool) → Parser A → Parser A → Parser A
branch test p q i = if test (ahead i) then p i else q i

module _ {A : Type 0} (test : Option Token → Bool) (p q : Parser A) (if_so : Local p) (not_so : Local q) where
  branch_ok : (i : Input) (x : A) (j : Input) → branch test p q i ≡ Ok (x, j) → LocalOk (branch test p q) i j x
  branch_ok i x j h = elim (if_ok (test (ahead i)) _ _ _ h) [
    | inl a ↦ (let c = if_so.ok i x j a.1 in record { nodes = c.nodes; text = c.text; way = c.way; again = λ l s. if_true _ _ (ap test (ahead_again l c.way s) ∙ a.0) (c.again l s) })
    | inr a ↦ (let c = not_so.ok i x j a.1 in record { nodes = c.nodes; text = c.text; way = c.way; again = λ l s. if_false _ _ (ap test (ahead_again l c.way s) ∙ a.0) (c.again l s) })
  ]

pub local_branch : {A : Type 0} (test : Option Token → Bool) {p q : Parser A} → Local p → Local q → Local (branch test p q)
local_branch test {p = p} {q = q} if_so not_so = record { ok = branch_ok test p q if_so not_so }

abbrev pub choose : {A B : Type 0} → (Option Token → Option B) → (B → Parser A) → Parser A → Parser A
choose table p q i = elim (table (ahead i)) [ Some y ↦ p y i | None ↦ q i ]

pub data Chosen {B R : Type 0} (o : Option B) (f : B → R) (z y : R) : Type 0 where
  chosen : (w : B) → o ≡ Some w → f w ≡ y → Chosen o f z y
  not_chosen : o ≡ None → z ≡ y → Chosen o f z y

pub chosen_in : {B R : Type 0} (o : Option B) (f : B → R) (z y : R) → ◌≡◌ {A = R} (elim o [ Some w ↦ f w | None ↦ z ]) y → Chosen o f z y
chosen_in (Some w) f z y h = chosen w refl h
chosen_in None f z y h = not_chosen refl h

module _ {A B : Type 0} (table : Option Token → Option B) (p : B → Parser A) (q : Parser A) (if_so : (y : B) → Local (p y)) (not_so : Local q) where
  choose_ok : (i : Input) (x : A) (j : Input) → choose table p q i ≡ Ok (x, j) → LocalOk (choose table p q) i j x
  choose_ok i x j h = elim (chosen_in (table (ahead i)) _ _ _ h) [
    | chosen w e g ↦ (let c = (if_so w).ok i x j g in record { nodes = c.nodes; text = c.text; way = c.way; again = λ l s. found _ _ (ap table (ahead_again l c.way s) ∙ e) (c.again l s) })
    | not_chosen e g ↦ (let c = not_so.ok i x j g in record { nodes = c.nodes; text = c.text; way = c.way; again = λ l s. missing _ _ (ap table (ahead_again l c.way s) ∙ e) (c.again l s) })
  ]

pub local_choose : {A B : Type 0} (table : Option Token → Option B) {p : B → Parser A} {q : Parser A} → ((y : B) → Local (p y)) → Local q → Local (choose table p q)
local_choose table {p = p} {q = q} if_so not_so = record { ok = choose_ok table p q if_so not_so }
