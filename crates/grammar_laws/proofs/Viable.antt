-- Readings that fail where what was taken before can still go on.
use Rattle.std.proofs.Common.{◌≡◌, ℕ, zero, suc, ◌+◌, ◌≤◌, ◌<◌, Bool, true, false, if◌then◌else◌, List, [], ◌∷◌, ◌++◌, length, Option, Some, None, Result, Ok, Err, inl, inr, refl, sym, ap, ap₂, subst, ◌∙◌, arith, append_assoc}
use Rattle.std.proofs.lemmas.List.{append_cancel_right}
use Rattle.qml_ast.specs.declared.fault.DocFault.{DocFault}
use Rattle.qml_ast.specs.declared.fault.DocFault.TheVariants.{Syntax, TooDeep, Unsupported}
use Rattle.qml_ast.specs.declared.span.Span.{Span}
use Rattle.qml_grammar.specs.Inputs.{Input, Parser, ahead, after, place, refusal, operand_refusal, too_deep, take_token, take_node, expect, any_name, repeated, while_next}
use Rattle.qml_grammar.specs.Lexemes.{Token, tail, name_of, is_mark, is_foreign, is_foreign_operand}
use Rattle.qml_grammar.specs.declared.mark.Mark.{Mark}
use Rattle.grammar_laws.specs.Faults.{IsFaultAt, syntax, unsupported, deep, IsLike, CanGoOn}
use Rattle.grammar_laws.specs.Laws.{Way}
use Rattle.grammar_laws.proofs.Behind.{behind, behind_both, last_behind, ok_then, if_true, if_false, found, missing, passed}
use Rattle.grammar_laws.proofs.Growing.{Covers, Adds, shorter, no_token}
use Rattle.grammar_laws.proofs.Local.{LocalOk, Local, ahead_again, like_again, followed, branch, choose, chosen, not_chosen, chosen_in, before, onward, bind_err, err_then}
use Rattle.grammar_laws.proofs.LocalLoops.{some_text, step_anew}
use Rattle.grammar_laws.proofs.LocalTokens.{local_node, local_token, local_expect}
use Rattle.grammar_laws.proofs.Tools.{way_none, way_then, way_node, way_token, if_ok, expected}

-- a local fault, and the tokens before it are such
pub record FailsAt {A : Type 0} (p : Parser A) (V : List Token → Type 0) (i : Input) (e : DocFault) : Type 0 where
  pub nodes : ℕ
  pub text : List Token
  pub at : Input
  pub way : Way i at nodes text
  pub place : IsFaultAt e (place at)
  pub again : (l : Input) → IsLike l at → p (behind text nodes l) ≡ Err e
  pub viable : V text

-- the fault stands at the next token
pub record AtOnce {A : Type 0} (p : Parser A) (i : Input) (e : DocFault) : Type 0 where
  pub place : IsFaultAt e (place i)
  pub alike : (l : Input) → IsLike l i → p l ≡ Err e

pub fails_once : {A : Type 0} {p : Parser A} {V : List Token → Type 0} {i : Input} {e : DocFault} → AtOnce p i e → V [] → FailsAt p V i e
fails_once {p = p} {i = i} a v = record {
  nodes = 0;
  text = [];
  at = i;
  way = way_none i;
  place = a.place;
  again = λ l s. ap p (last_behind l) ∙ a.alike l s;
  viable = v;
}

-- Faults

-- a fault by the next token and its place
abbrev failing : {A : Type 0} → (Option Token → Span → DocFault) → Parser A
failing fault i = Err (fault (ahead i) (place i))

abbrev refusal_of : (Option Token → Bool) → Option Token → Span → DocFault
refusal_of foreign o s = if foreign o then Unsupported s else Syntax s

refusal_stands : (b : Bool) (s : Span) → IsFaultAt (if b then Unsupported s else Syntax s) s
refusal_stands true s = unsupported refl
refusal_stands false s = syntax refl

pub failing_once : {A : Type 0} (fault : Option Token → Span → DocFault) → ((o : Option Token) (s : Span) → IsFaultAt (fault o s) s) → (i : Input) → AtOnce (failing {A = A} fault) i (fault (ahead i) (place i))
failing_once fault stands i = record { place = stands (ahead i) (place i); alike = λ l s. ap Err (ap₂ fault s.ahead s.place) }

pub same_fault : {A : Type 0} (e f : DocFault) → ◌≡◌ {A = Result (A × Input) DocFault} (Err e) (Err f) → e ≡ f
same_fault {A = A} e f h = let g : ◌≡◌ {A = Result (A × Input) DocFault} (Err e) (Err f) = h in cc

pub once_as : {A : Type 0} {p : Parser A} {i : Input} {e f : DocFault} → AtOnce p i e → e ≡ f → AtOnce p i f
once_as {p = p} {i = i} a h = subst (λ g. AtOnce p i g) h a

pub refused_once : {A : Type 0} (i : Input) (e : DocFault) → ◌≡◌ {A = Result (A × Input) DocFault} (Err (refusal i)) (Err e) → AtOnce {A = A} (λ k. Err (refusal k)) i e
refused_once {A = A} i e h = once_as (failing_once (refusal_of is_foreign) (λ o s. refusal_stands (is_foreign o) s) i) (same_fault {A = A} (refusal i) e h)

pub operand_refused_once : {A : Type 0} (i : Input) (e : DocFault) → ◌≡◌ {A = Result (A × Input) DocFault} (Err (operand_refusal i)) (Err e) → AtOnce {A = A} (λ k. Err (operand_refusal k)) i e
operand_refused_once {A = A} i e h = once_as (failing_once (refusal_of is_foreign_operand) (λ o s. refusal_stands (is_foreign_operand o) s) i) (same_fault {A = A} (operand_refusal i) e h)

pub too_deep_once : {A : Type 0} (i : Input) (e : DocFault) → ◌≡◌ {A = Result (A × Input) DocFault} (too_deep i) (Err e) → AtOnce {A = A} too_deep i e
too_deep_once {A = A} i e h = once_as (failing_once (λ o s. TooDeep s) (λ o s. deep refl) i) (same_fault {A = A} (TooDeep (place i)) e h)

expect_once : (m : Mark) (i : Input) (e : DocFault) → expect m i ≡ Err e → AtOnce (expect m) i e
expect_once m i e h = elim (if_ok (is_mark m (ahead i)) _ _ _ h) [
  | inl a ↦ absurd (let g = a.1 in cc)
  | inr a ↦ (let c = refused_once {A = Unit {0}} i e a.1 in record { place = c.place; alike = λ l s. if_false _ _ (ap (is_mark m) s.ahead ∙ a.0) (c.alike l s) })
]

pub name_once : (i : Input) (e : DocFault) → any_name i ≡ Err e → AtOnce any_name i e
name_once i e h = elim (chosen_in (name_of (ahead i)) _ _ _ h) [
  | chosen n o g ↦ absurd cc
  | not_chosen o g ↦ (let c = refused_once {A = List ℕ} i e g in record { place = c.place; alike = λ l s. missing _ _ (ap name_of s.ahead ∙ o) (c.alike l s) })
]

no_node : (l : Input) → l.nodes ≡ 0 → take_node l ≡ Err (TooDeep (place l))
no_node l h = rw h

node_from : (i : Input) (n : ℕ) (e : DocFault) → i.nodes ≡ n → take_node (record { rest = i.rest; end = i.end; nodes = n }) ≡ Err e → AtOnce take_node i e
node_from i zero e n_is h =
    let f = same_fault {A = Unit {0}} (TooDeep (place i)) e h in
    record {
      place = subst (λ g. IsFaultAt g (place i)) f (deep refl);
      alike = λ l s. no_node l (s.nodes ∙ n_is) ∙ ap Err (ap TooDeep s.place ∙ f);
    }
node_from i (suc n) e n_is h = absurd cc

pub node_once : (i : Input) (e : DocFault) → take_node i ≡ Err e → AtOnce take_node i e
node_once i e h = node_from i i.nodes e refl h

pub followed_once : {A B : Type 0} {p : Parser A} (f : A → Parser B) {i : Input} {e : DocFault} → AtOnce p i e → AtOnce (followed p f) i e
followed_once f a = record { place = a.place; alike = λ l s. err_then _ (a.alike l s) }

-- A reading and what is read behind it

pub same_text : {i j : Input} {m n : ℕ} {us vs : List Token} → Way i j m us → Way i j n vs → us ≡ vs
same_text {j = j} {us = us} {vs = vs} a b = append_cancel_right us vs j.rest (sym a.rest ∙ b.rest)

pub same_nodes : {i j : Input} {m n : ℕ} {us vs : List Token} → Way i j m us → Way i j n vs → m ≡ n
same_nodes a b = omega (arith, a.used, b.used)

-- what was taken, with these tokens
abbrev pub retaken : {A : Type 0} {p : Parser A} {i j : Input} {x : A} {n : ℕ} {ts : List Token} → LocalOk p i j x → Way i j n ts → LocalOk p i j x
retaken {p = p} {j = j} {x = x} {n = n} {ts = ts} a w = record {
  nodes = n;
  text = ts;
  way = w;
  again = λ l s. subst (λ us. p (behind us n l) ≡ Ok (x, l)) (same_text a.way w) (subst (λ m. p (behind a.text m l) ≡ Ok (x, l)) (same_nodes a.way w) (a.again l s));
}

module _ {A B : Type 0} (p : Parser A) (f : A → Parser B) (V : List Token → Type 0) (i : Input) where
  weakened : {W : List Token → Type 0} {e : DocFault} → FailsAt p W i e → ((ts : List Token) → W ts → V ts) → FailsAt (followed p f) V i e
  weakened a w = record { nodes = a.nodes; text = a.text; at = a.at; way = a.way; place = a.place; again = λ l s. err_then _ (a.again l s); viable = w a.text a.viable }

  pub onward_fails : {k : Input} {x : A} {e : DocFault} (a : LocalOk p i k x) → FailsAt (f x) (λ us. V (a.text ++ us)) k e → FailsAt (followed p f) V i e
  onward_fails a c = record {
    nodes = a.nodes + c.nodes;
    text = a.text ++ c.text;
    at = c.at;
    way = way_then a.way c.way;
    place = c.place;
    again = λ l s. ap (followed p f) (behind_both a.text c.text a.nodes c.nodes l refl refl) ∙ ok_then _ (a.again (behind c.text c.nodes l) ((like_again l c.way s).ahead)) (c.again l s);
    viable = c.viable;
  }

  -- the first reading fails, or what is behind it
  pub fails_read : {Spells : ℕ → List Token → A → Type 0} {bound : ℕ} {W : List Token → Type 0} → Local p → ((x : A) (j : Input) → p i ≡ Ok (x, j) → Covers Spells bound i j x) → ((e : DocFault) → p i ≡ Err e → FailsAt p W i e) → ((ts : List Token) → W ts → V ts) → ((x : A) (k : Input) (c : Covers Spells bound i k x) (e : DocFault) → f x k ≡ Err e → FailsAt (f x) (λ us. V (c.text ++ us)) k e) → (e : DocFault) → followed p f i ≡ Err e → FailsAt (followed p f) V i e
  fails_read local sound first w second e h = elim (bind_err (p i) _ _ h) [
    | before g ↦ weakened (first e g) w
    | onward x k g g2 ↦ (let c = sound x k g in onward_fails (retaken (local.ok i x k g) c.way) (second x k c e g2))
  ]

  -- likewise where the first reading takes just one token, or fails at once
  pub fails_behind : {n : ℕ} {t : Token} → Local p → ((x : A) (j : Input) → p i ≡ Ok (x, j) → Way i j n (t ∷ [])) → ((e : DocFault) → p i ≡ Err e → AtOnce p i e) → V [] → ((x : A) (k : Input) → p i ≡ Ok (x, k) → (e : DocFault) → f x k ≡ Err e → FailsAt (f x) (λ us. V (t ∷ us)) k e) → (e : DocFault) → followed p f i ≡ Err e → FailsAt (followed p f) V i e
  fails_behind local way first v second e h = elim (bind_err (p i) _ _ h) [
    | before g ↦ fails_once (followed_once f (first e g)) v
    | onward x k g g2 ↦ onward_fails (retaken (local.ok i x k g) (way x k g)) (second x k g e g2)
  ]

-- behind the next token, which is a node
pub fails_node : {B : Type 0} (f : Unit {0} → Parser B) (V : List Token → Type 0) (i : Input) (t : Token) → i.rest ≡ t ∷ tail i.rest → V [] → ((u : Unit {0}) (k : Input) (e : DocFault) → f u k ≡ Err e → FailsAt (f u) (λ us. V (t ∷ us)) k e) → (e : DocFault) → followed take_node f i ≡ Err e → FailsAt (followed take_node f) V i e
fails_node f V i t rest v second = fails_behind take_node f V i local_node (λ u j g. way_node i j u t rest g) (node_once i) v (λ u k g. second u k)

-- behind the next token, whatever it is
pub fails_token : {B : Type 0} (f : Unit {0} → Parser B) (V : List Token → Type 0) (i : Input) (t : Token) → i.rest ≡ t ∷ tail i.rest → ((u : Unit {0}) (k : Input) (e : DocFault) → f u k ≡ Err e → FailsAt (f u) (λ us. V (t ∷ us)) k e) → (e : DocFault) → followed take_token f i ≡ Err e → FailsAt (followed take_token f) V i e
fails_token f V i t rest second e h = onward_fails take_token f V i (retaken (local_token.ok i tt (after i) refl) (way_token t rest)) (second tt (after i) e h)

-- behind a mark that may be missing
pub fails_expect : {B : Type 0} (m : Mark) (f : Unit {0} → Parser B) (V : List Token → Type 0) (i : Input) → V [] → ((t : Token) → is_mark m (Some t) ≡ true → (u : Unit {0}) (k : Input) (e : DocFault) → f u k ≡ Err e → FailsAt (f u) (λ us. V (t ∷ us)) k e) → (e : DocFault) → followed (expect m) f i ≡ Err e → FailsAt (followed (expect m) f) V i e
fails_expect m f V i v second e h = elim (bind_err (expect m i) _ _ h) [
  | before g ↦ fails_once (followed_once f (expect_once m i e g)) v
  | onward u k g g2 ↦ (let t = expected m i k u g in onward_fails (expect m) f V i (retaken ((local_expect m).ok i u k g) t.way) (second t.token t.is u k e g2))
]

-- where nothing behind the first reading fails
pub fails_last : {A B : Type 0} (p : Parser A) (f : A → Parser B) (V : List Token → Type 0) (i : Input) → ((e : DocFault) → p i ≡ Err e → AtOnce p i e) → V [] → ((x : A) (k : Input) (e : DocFault) → f x k ≡ Err e → ⊥) → (e : DocFault) → followed p f i ≡ Err e → FailsAt (followed p f) V i e
fails_last p f V i first v never e h = elim (bind_err (p i) _ _ h) [
  | before g ↦ fails_once (followed_once f (first e g)) v
  | onward x k g g2 ↦ absurd (never x k e g2)
]

pub pure_reads : {A : Type 0} (x : A) (i : Input) (e : DocFault) → ◌≡◌ {A = Result (A × Input) DocFault} (Ok (x, i)) (Err e) → ⊥
pure_reads {A = A} x i e h = let g : ◌≡◌ {A = Result (A × Input) DocFault} (Ok (x, i)) (Err e) = h in cc

pub pure_fails : {A : Type 0} (x : A) (V : List Token → Type 0) (i : Input) (e : DocFault) → ◌≡◌ {A = Result (A × Input) DocFault} (Ok (x, i)) (Err e) → FailsAt (λ l. Ok (x, l)) V i e
pure_fails x V i e h = absurd (pure_reads x i e h)

-- a mark that may be missing ends what is read
pub fails_closing : {A : Type 0} (m : Mark) (x : A) (V : List Token → Type 0) (i : Input) → V [] → (e : DocFault) → followed (expect m) (λ u l. Ok (x, l)) i ≡ Err e → FailsAt (followed (expect m) (λ u l. Ok (x, l))) V i e
fails_closing m x V i v = fails_last (expect m) (λ u l. Ok (x, l)) V i (expect_once m i) v (λ u k e h. pure_reads x k e h)

-- a name that may be missing ends what is read
pub fails_named : {A : Type 0} (f : List ℕ → A) (V : List Token → Type 0) (i : Input) → V [] → (e : DocFault) → followed any_name (λ n l. Ok (f n, l)) i ≡ Err e → FailsAt (followed any_name (λ n l. Ok (f n, l))) V i e
fails_named f V i v = fails_last any_name (λ n l. Ok (f n, l)) V i (name_once i) v (λ n k e h. pure_reads (f n) k e h)

-- The same reading, written in another way

abbrev onto : {A B : Type 0} → Result (A × Input) DocFault → (A → Parser B) → Result (B × Input) DocFault
onto r f = elim r [ Ok p ↦ f p.0 p.1 | Err e ↦ Err e ]

onto_both : {A B C : Type 0} (r : Result (A × Input) DocFault) (f : A → Parser B) (g : B → Parser C) → onto r (λ x k. onto (f x k) g) ≡ onto (onto r f) g
onto_both (Ok p) f g = refl
onto_both (Err e) f g = refl

-- readings in a row, grouped in another way
pub regrouped : {A B C : Type 0} (p : Parser A) (f : A → Parser B) (g : B → Parser C) (i : Input) → followed p (λ x. followed (f x) g) i ≡ followed (followed p f) g i
regrouped p f g i = onto_both (p i) f g

pub fails_as : {A : Type 0} {p : Parser A} (q : Parser A) {V : List Token → Type 0} {i : Input} {e : DocFault} → ((l : Input) → q l ≡ p l) → FailsAt p V i e → FailsAt q V i e
fails_as q same a = record { nodes = a.nodes; text = a.text; at = a.at; way = a.way; place = a.place; again = λ l s. same (behind a.text a.nodes l) ∙ a.again l s; viable = a.viable }

pub fails_so : {A : Type 0} {p : Parser A} {V W : List Token → Type 0} {i : Input} {e : DocFault} → FailsAt p W i e → ((ts : List Token) → W ts → V ts) → FailsAt p V i e
fails_so a w = record { nodes = a.nodes; text = a.text; at = a.at; way = a.way; place = a.place; again = a.again; viable = w a.text a.viable }

pub fails_branch : {A : Type 0} (test : Option Token → Bool) (p q : Parser A) (V : List Token → Type 0) (i : Input) → ((e : DocFault) → test (ahead i) ≡ true → p i ≡ Err e → FailsAt p V i e) → ((e : DocFault) → test (ahead i) ≡ false → q i ≡ Err e → FailsAt q V i e) → (e : DocFault) → branch test p q i ≡ Err e → FailsAt (branch test p q) V i e
fails_branch test p q V i first second e h = elim (if_ok (test (ahead i)) _ _ _ h) [
  | inl a ↦ (let c = first e a.0 a.1 in record { nodes = c.nodes; text = c.text; at = c.at; way = c.way; place = c.place; again = λ l s. if_true _ _ (ap test (ahead_again l c.way s.ahead) ∙ a.0) (c.again l s); viable = c.viable })
  | inr a ↦ (let c = second e a.0 a.1 in record { nodes = c.nodes; text = c.text; at = c.at; way = c.way; place = c.place; again = λ l s. if_false _ _ (ap test (ahead_again l c.way s.ahead) ∙ a.0) (c.again l s); viable = c.viable })
]

pub fails_choose : {A B : Type 0} (table : Option Token → Option B) (p : B → Parser A) (q : Parser A) (V : List Token → Type 0) (i : Input) → ((y : B) (e : DocFault) → table (ahead i) ≡ Some y → p y i ≡ Err e → FailsAt (p y) V i e) → ((e : DocFault) → table (ahead i) ≡ None → q i ≡ Err e → FailsAt q V i e) → (e : DocFault) → choose table p q i ≡ Err e → FailsAt (choose table p q) V i e
fails_choose table p q V i first second e h = elim (chosen_in (table (ahead i)) _ _ _ h) [
  | chosen y o g ↦ (let c = first y e o g in record { nodes = c.nodes; text = c.text; at = c.at; way = c.way; place = c.place; again = λ l s. found _ _ (ap table (ahead_again l c.way s.ahead) ∙ o) (c.again l s); viable = c.viable })
  | not_chosen o g ↦ (let c = second e o g in record { nodes = c.nodes; text = c.text; at = c.at; way = c.way; place = c.place; again = λ l s. missing _ _ (ap table (ahead_again l c.way s.ahead) ∙ o) (c.again l s); viable = c.viable })
]

-- Loops

-- the tokens so far are spelled, and these can go on behind them
pub data GoesOnBehind {A : Type 0} (Spells : ℕ → List Token → A → Type 0) (x : A) (us : List Token) : Type 0 where
  behind_any : ((k : ℕ) (ts : List Token) → Spells k ts x → CanGoOn Spells (ts ++ us)) → GoesOnBehind Spells x us

pub on_behind : {A : Type 0} {Spells : ℕ → List Token → A → Type 0} {x : A} {us : List Token} → GoesOnBehind Spells x us → (k : ℕ) (ts : List Token) → Spells k ts x → CanGoOn Spells (ts ++ us)
on_behind (behind_any f) = f

-- how a loop failed
pub data Stuck {A : Type 0} (test : Option Token → Bool) (step : A → Parser A) (n : ℕ) (x : A) (i : Input) (e : DocFault) : Type 0 where
  now : test (ahead i) ≡ true → step x i ≡ Err e → Stuck test step n x i e
  later : (z : A) (k : Input) → test (ahead i) ≡ true → step x i ≡ Ok (z, k) → repeated test step n z k ≡ Err e → Stuck test step n x i e

stuck_by : {A : Type 0} (test : Option Token → Bool) (step : A → Parser A) (n : ℕ) (x : A) (i : Input) (e : DocFault) → test (ahead i) ≡ true → (r : Result (A × Input) DocFault) → step x i ≡ r → ◌≡◌ {A = Result (A × Input) DocFault} (elim r [ Ok p ↦ repeated test step n p.0 p.1 | Err g ↦ Err g ]) (Err e) → Stuck test step n x i e
stuck_by test step n x i e t (Ok (z, k)) g h = later z k t g h
stuck_by {A = A} test step n x i e t (Err f) g h = now t (g ∙ h)

stuck_from : {A : Type 0} (test : Option Token → Bool) (step : A → Parser A) (n : ℕ) (x : A) (i : Input) (e : DocFault) (b : Bool) → test (ahead i) ≡ b → ◌≡◌ {A = Result (A × Input) DocFault} (elim b [ true ↦ elim (step x i) [ Ok p ↦ repeated test step n p.0 p.1 | Err g ↦ Err g ] | false ↦ Ok (x, i) ]) (Err e) → Stuck test step n x i e
stuck_from test step n x i e true t h = stuck_by test step n x i e t (step x i) refl h
stuck_from test step n x i e false t h = absurd cc

pub stuck_on : {A : Type 0} (test : Option Token → Bool) (step : A → Parser A) (n : ℕ) (x : A) (i : Input) (e : DocFault) → repeated test step (suc n) x i ≡ Err e → Stuck test step n x i e
unfolding repeated
stuck_on test step n x i e h = stuck_from test step n x i e (test (ahead i)) refl h

pub fail_anew : {A : Type 0} (test : Option Token → Bool) (step : A → Parser A) → test None ≡ false → (x : A) (n : ℕ) (us : List Token) (k : ℕ) (l : Input) (e : DocFault) → test (ahead (behind us k l)) ≡ true → step x (behind us k l) ≡ Err e → length (us ++ l.rest) ≤ n → repeated test step n x (behind us k l) ≡ Err e
unfolding repeated
fail_anew test step none x zero us k l e t h few = absurd (let f : test None ≡ true = sym (ap test (no_token (us ++ l.rest) few)) ∙ t in let g : false ≡ true = sym none ∙ f in cc)
fail_anew test step none x (suc n) us k l e t h few = passed _ _ t (err_then _ h)

record LoopFails {A : Type 0} (test : Option Token → Bool) (step : A → Parser A) (x : A) (V : List Token → Type 0) (i : Input) (e : DocFault) : Type 0 where
  nodes : ℕ
  text : List Token
  at : Input
  way : Way i at nodes text
  place : IsFaultAt e (place at)
  anew : (l : Input) (n : ℕ) → length (text ++ l.rest) ≤ n → IsLike l at → repeated test step n x (behind text nodes l) ≡ Err e
  viable : V text

module _ {A : Type 0} (Spells : ℕ → List Token → A → Type 0) (bound : ℕ) (test : Option Token → Bool) (step : A → Parser A) (none : test None ≡ false) (local : (x : A) → Local (step x)) (adds : (x : A) (i : Input) (y : A) (j : Input) → test (ahead i) ≡ true → step x i ≡ Ok (y, j) → Adds Spells bound x i j y) (fails : (x : A) (i : Input) (e : DocFault) → test (ahead i) ≡ true → step x i ≡ Err e → FailsAt (step x) (GoesOnBehind Spells x) i e) where
  less : (x : A) (i : Input) (y : A) (j : Input) → test (ahead i) ≡ true → step x i ≡ Ok (y, j) → length j.rest < length i.rest
  less x i y j t h = shorter (adds x i y j t h).way

  loop_fails : (n : ℕ) (x : A) (i : Input) (e : DocFault) (m : ℕ) (ts : List Token) → Spells m ts x → length i.rest ≤ n → repeated test step n x i ≡ Err e → LoopFails test step x (λ us. CanGoOn Spells (ts ++ us)) i e
  unfolding repeated
  loop_fails zero x i e m ts p few h = absurd cc
  loop_fails (suc n) x i e m ts p few h = elim (stuck_on test step n x i e h) [
    | now t g ↦ (
        let a = fails x i e t g in
        record {
          nodes = a.nodes;
          text = a.text;
          at = a.at;
          way = a.way;
          place = a.place;
          anew = λ l f many s. fail_anew test step none x f a.text a.nodes l e (ap test (ahead_again l a.way s.ahead) ∙ t) (a.again l s) many;
          viable = on_behind a.viable m ts p;
        })
    | later z k t g g2 ↦ (
        let a = adds x i z k t g in
        let us : List Token = a.token ∷ a.others in
        let r = retaken ((local x).ok i z k g) a.way in
        let lt = less x i z k t g in
        let c = loop_fails n z k e (m + a.nodes) (ts ++ us) (a.spelled m ts p) (omega arith) g2 in
        record {
          nodes = a.nodes + c.nodes;
          text = us ++ c.text;
          at = c.at;
          way = way_then a.way c.way;
          place = c.place;
          anew = λ l f many s.
              let same = ahead_again l c.way s.ahead in
              step_anew test step none local less x z f us c.text a.nodes c.nodes l (Err e) (ap test (ahead_again (behind c.text c.nodes l) a.way same) ∙ t) (r.again (behind c.text c.nodes l) same) (some_text a.way lt) many (λ q enough. c.anew l q enough s);
          viable = subst (λ ws. CanGoOn Spells ws) (append_assoc ts us c.text) c.viable;
        })
  ]

  pub while_fails : (x : A) (i : Input) (e : DocFault) (m : ℕ) (ts : List Token) → Spells m ts x → while_next test step x i ≡ Err e → FailsAt (while_next test step x) (λ us. CanGoOn Spells (ts ++ us)) i e
  unfolding while_next
  while_fails x i e m ts p h =
      let c = loop_fails (length i.rest) x i e m ts p (omega arith) h in
      record { nodes = c.nodes; text = c.text; at = c.at; way = c.way; place = c.place; again = λ l s. c.anew l (length (c.text ++ l.rest)) (omega arith) s; viable = c.viable }
