-- Steps of readings, and the ways between inputs.
use Rattle.std.proofs.Common.{◌≡◌, ℕ, zero, suc, ◌+◌, ◌⊎◌, inl, inr, Bool, true, false, if◌then◌else◌, List, [], ◌∷◌, ◌++◌, Option, Some, None, Result, Ok, Err, refl, sym, ap, ◌∙◌, arith, append_assoc, zero-add, subst}
use Rattle.qml_ast.specs.declared.fault.DocFault.{DocFault}
use Rattle.qml_grammar.specs.Inputs.{Input, ahead, after, refusal, take_node, expect, any_name}
use Rattle.qml_grammar.specs.Lexemes.{Token, head, tail, is_mark, name_of}
use Rattle.qml_grammar.specs.declared.mark.Mark.{Mark}
use Rattle.grammar_laws.specs.Laws.{Way}

-- What was read before what is read

-- what a first reading gave, from which the next one went on to the end
pub record Bound {A B : Type 0} (r : Result (A × Input) DocFault) (f : A × Input → Result (B × Input) DocFault) (y : B × Input) : Type 0 where
  pub value : A
  pub at : Input
  pub first : r ≡ Ok (value, at)
  pub onward : f (value, at) ≡ Ok y

pub bind_ok : {A B : Type 0} (r : Result (A × Input) DocFault) (f : A × Input → Result (B × Input) DocFault) (y : B × Input) → ◌≡◌ {A = Result (B × Input) DocFault} (elim r [ Ok p ↦ f p | Err e ↦ Err e ]) (Ok y) → Bound r f y
bind_ok (Ok (x, j)) f y h = record { value = x; at = j; first = refl; onward = h }
bind_ok (Err e) f y h = absurd cc

abbrev value_or : {A : Type 0} → A × Input → Result (A × Input) DocFault → A × Input
value_or p (Ok q) = q
value_or p (Err e) = p

pub same_value : {A : Type 0} (x y : A) (i j : Input) → ◌≡◌ {A = Result (A × Input) DocFault} (Ok (x, i)) (Ok (y, j)) → x ≡ y
same_value x y i j h = ap (λ r. (value_or (x, i) r).0) h

pub same_input : {A : Type 0} (x y : A) (i j : Input) → ◌≡◌ {A = Result (A × Input) DocFault} (Ok (x, i)) (Ok (y, j)) → i ≡ j
same_input x y i j h = ap (λ r. (value_or (x, i) r).1) h

-- Ways

pub way_none : (i : Input) → Way i i 0 []
way_none i = record { rest = refl; used = sym (zero-add _); end = refl }

pub way_then : {i j k : Input} {m n : ℕ} {us vs : List Token} → Way i j m us → Way j k n vs → Way i k (m + n) (us ++ vs)
way_then {us = us} {vs = vs} a b = record { rest = rw (a.rest, b.rest, append_assoc); used = omega (arith, a.used, b.used); end = a.end ∙ b.end }

-- the same number of nodes, written in another way
pub counted : {i j : Input} {m n : ℕ} {us : List Token} → m ≡ n → Way i j m us → Way i j n us
counted e w = record { rest = w.rest; used = omega (arith, w.used); end = w.end }

-- Single tokens

-- the next token passes the test
pub record Ahead (test : Option Token → Bool) (i : Input) : Type 0 where
  pub token : Token
  pub rest : i.rest ≡ token ∷ tail i.rest
  pub is : test (Some token) ≡ true

pub ahead_in : (test : Option Token → Bool) → test None ≡ false → (ts : List Token) → test (head ts) ≡ true → (t : Token) × (ts ≡ t ∷ tail ts) × (test (Some t) ≡ true)
ahead_in test none [] h = absurd cc
ahead_in test none (t ∷ ts) h = (t, refl, h)

pub ahead_some : (test : Option Token → Bool) → test None ≡ false → (i : Input) → test (ahead i) ≡ true → Ahead test i
ahead_some test none i h = let a = ahead_in test none i.rest h in record { token = a.0; rest = a.1; is = a.2 }

pub way_token : {i : Input} (t : Token) → i.rest ≡ t ∷ tail i.rest → Way i (after i) 0 (t ∷ [])
way_token t h = record { rest = h; used = sym (zero-add _); end = refl }

node_from : (n : ℕ) (i j : Input) (u : Unit {0}) (t : Token) → i.nodes ≡ n → i.rest ≡ t ∷ tail i.rest → take_node (record { rest = i.rest; end = i.end; nodes = n }) ≡ Ok (u, j) → Way i j 1 (t ∷ [])
node_from zero i j u t e r h = absurd cc
node_from (suc n) i j u t e r h =
    let same = same_input tt u (record { rest = tail i.rest; end = i.end; nodes = n }) j h in
    let left : n ≡ j.nodes = ap (λ (k : Input). k.nodes) same in
    record { rest = r ∙ ap (λ (k : Input). t ∷ k.rest) same; used = omega (arith, e, left); end = ap (λ (k : Input). k.end) same }

pub way_node : (i j : Input) (u : Unit {0}) (t : Token) → i.rest ≡ t ∷ tail i.rest → take_node i ≡ Ok (u, j) → Way i j 1 (t ∷ [])
way_node i j u t r h = node_from i.nodes i j u t refl r h

-- a token that was taken
pub record Taken (test : Option Token → Bool) (i j : Input) : Type 0 where
  pub token : Token
  pub way : Way i j 0 (token ∷ [])
  pub is : test (Some token) ≡ true

pub if_ok : {A : Type 0} (b : Bool) (p q y : A) → (if b then p else q) ≡ y → ((b ≡ true) × (p ≡ y)) ⊎ ((b ≡ false) × (q ≡ y))
if_ok true p q y h = inl (refl, h)
if_ok false p q y h = inr (refl, h)

expected_of : (m : Mark) (i j : Input) (u : Unit {0}) → is_mark m (ahead i) ≡ true → ◌≡◌ {A = Result (Unit {0} × Input) DocFault} (Ok (tt, after i)) (Ok (u, j)) → Taken (is_mark m) i j
expected_of m i j u a h =
    let t = ahead_some (is_mark m) refl i a in
    record { token = t.token; way = subst (λ k. Way i k 0 (t.token ∷ [])) (same_input tt u (after i) j h) (way_token t.token t.rest); is = t.is }

pub expected : (m : Mark) (i j : Input) (u : Unit {0}) → expect m i ≡ Ok (u, j) → Taken (is_mark m) i j
expected m i j u h = elim (if_ok (is_mark m (ahead i)) _ _ _ h) [
  | inl a ↦ expected_of m i j u a.0 a.1
  | inr a ↦ absurd (let e = a.1 in cc)
]

-- a name that was taken
pub record Named (n : List ℕ) (i j : Input) : Type 0 where
  pub token : Token
  pub way : Way i j 0 (token ∷ [])
  pub is : name_of (Some token) ≡ Some n

-- the next token has this
pub record Gives {B : Type 0} (f : Option Token → Option B) (y : B) (i : Input) : Type 0 where
  pub token : Token
  pub rest : i.rest ≡ token ∷ tail i.rest
  pub is : f (Some token) ≡ Some y

gives_in : {B : Type 0} (f : Option Token → Option B) → f None ≡ None → (ts : List Token) (y : B) → f (head ts) ≡ Some y → (t : Token) × (ts ≡ t ∷ tail ts) × (f (Some t) ≡ Some y)
gives_in f none [] y h = absurd cc
gives_in f none (t ∷ ts) y h = (t, refl, h)

pub ahead_gives : {B : Type 0} (f : Option Token → Option B) → f None ≡ None → (i : Input) (y : B) → f (ahead i) ≡ Some y → Gives f y i
ahead_gives f none i y h = let a = gives_in f none i.rest y h in record { token = a.0; rest = a.1; is = a.2 }

named_from : (o : Option (List ℕ)) (i j : Input) (n : List ℕ) → name_of (ahead i) ≡ o → ◌≡◌ {A = Result (List ℕ × Input) DocFault} (elim o [ Some m ↦ Ok (m, after i) | None ↦ Err (refusal i) ]) (Ok (n, j)) → Named n i j
named_from None i j n e h = absurd cc
named_from (Some m) i j n e h =
    let t = ahead_gives name_of refl i m e in
    record { token = t.token; way = subst (λ k. Way i k 0 (t.token ∷ [])) (same_input m n (after i) j h) (way_token t.token t.rest); is = t.is ∙ ap Some (same_value m n (after i) j h) }

pub named : (i j : Input) (n : List ℕ) → any_name i ≡ Ok (n, j) → Named n i j
named i j n h = named_from (name_of (ahead i)) i j n refl h
