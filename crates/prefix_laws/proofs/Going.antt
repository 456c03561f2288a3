-- Readings that fail, where the tokens before the fault can go on.
use Rattle.std.proofs.Common.{◌≡◌, ℕ, zero, suc, ◌+◌, ◌≤◌, inl, inr, Bool, true, List, [], ◌∷◌, ◌++◌, length, Option, Some, Result, Ok, Err, refl, sym, subst, append_assoc, codes}
use Rattle.std.proofs.lemmas.List.{append-nil}
use Rattle.qml_ast.specs.declared.fault.DocFault.{DocFault}
use Rattle.qml_grammar.specs.Ends.{since, may_end, end_behind, ended}
use Rattle.qml_grammar.specs.ExpressionGrammar.{IsMark}
use Rattle.qml_grammar.specs.Inputs.{Input, Parser, ahead, after, place, take_token, expect, any_name, repeated, while_next}
use Rattle.qml_grammar.specs.Lexemes.{Lexeme, plain, integer, mark, Token, tail, last_of, is_mark, name_of}
use Rattle.qml_grammar.specs.Marks.{same_mark, mark_number}
use Rattle.qml_grammar.specs.declared.mark.Mark.{Mark}
use Rattle.qml_grammar.specs.declared.mark.Mark.TheVariants.{OpenBrace, Semicolon}
use Rattle.grammar_laws.specs.Faults.{IsFaultAt}
use Rattle.grammar_laws.specs.Laws.{Way}
use Rattle.grammar_laws.proofs.Local.{followed, before, onward, bind_err}
use Rattle.grammar_laws.proofs.Tools.{way_none, way_then, way_token, if_ok, expected, named}
use Rattle.grammar_laws.proofs.Viable.{refused_once, name_once, now, later, stuck_on}
use Rattle.prefix_laws.specs.Prefixes.{FaultsBehind}

-- Where a reading fails

-- the fault stands behind more tokens, which together with those before are such
pub record HaltsOn (V : List Token → Type 0) (pre : List Token) (i : Input) (e : DocFault) : Type 0 where
  pub nodes : ℕ
  pub text : List Token
  pub at : Input
  pub way : Way i at nodes text
  pub place : IsFaultAt e (place at)
  pub viable : V (pre ++ text)

-- the fault stands behind tokens that are such
abbrev pub Halts : (List Token → Type 0) → Input → DocFault → Type 0
Halts V i e = HaltsOn V [] i e

pub halts_faults : {V : List Token → Type 0} {i : Input} {e : DocFault} → Halts V i e → FaultsBehind V i e
halts_faults h = record { nodes = h.nodes; text = h.text; at = h.at; way = h.way; place = h.place; viable = h.viable }

-- the fault stands at the next token
pub halts_here : {V : List Token → Type 0} {pre : List Token} {i : Input} {e : DocFault} → IsFaultAt e (place i) → V pre → HaltsOn V pre i e
halts_here {V = V} {pre = pre} {i = i} at viable = record { nodes = 0; text = []; at = i; way = way_none i; place = at; viable = subst V (sym (append-nil pre)) viable }

-- what stands before the fault can go on in another way
pub halts_as : {V W : List Token → Type 0} {pre : List Token} {i : Input} {e : DocFault} → ((us : List Token) → W us → V (pre ++ us)) → Halts W i e → HaltsOn V pre i e
halts_as f h = record { nodes = h.nodes; text = h.text; at = h.at; way = h.way; place = h.place; viable = f h.text h.viable }

pub halts_map : {V W : List Token → Type 0} {pre : List Token} {i : Input} {e : DocFault} → ((us : List Token) → W us → V us) → HaltsOn W pre i e → HaltsOn V pre i e
halts_map {pre = pre} f h = record { nodes = h.nodes; text = h.text; at = h.at; way = h.way; place = h.place; viable = f (pre ++ h.text) h.viable }

-- likewise, by the way to the fault
pub halts_by : {V W : List Token → Type 0} {pre : List Token} {i : Input} {e : DocFault} → ((us : List Token) (n : ℕ) (j : Input) → Way i j n us → W us → V (pre ++ us)) → Halts W i e → HaltsOn V pre i e
halts_by f h = record { nodes = h.nodes; text = h.text; at = h.at; way = h.way; place = h.place; viable = f h.text h.nodes h.at h.way h.viable }

-- behind more tokens that were read
pub halts_behind : {V : List Token → Type 0} {pre : List Token} {i k : Input} {n : ℕ} {ts : List Token} {e : DocFault} → Way i k n ts → HaltsOn V (pre ++ ts) k e → HaltsOn V pre i e
halts_behind {V = V} {pre = pre} {n = n} {ts = ts} w h = record {
  nodes = n + h.nodes;
  text = ts ++ h.text;
  at = h.at;
  way = way_then w h.way;
  place = h.place;
  viable = subst V (append_assoc pre ts h.text) h.viable;
}

-- One reading after another one

pub expect_place : (m : Mark) (i : Input) (e : DocFault) → expect m i ≡ Err e → IsFaultAt e (place i)
expect_place m i e h = elim (if_ok (is_mark m (ahead i)) _ _ _ h) [
  | inl a ↦ absurd (let g = a.1 in cc)
  | inr a ↦ (refused_once {A = Unit {0}} i e a.1).place
]

module _ {V : List Token → Type 0} {pre : List Token} where
  pub halts_then : {A B : Type 0} (p : Parser A) (f : A → Parser B) (i : Input) → ((e : DocFault) → p i ≡ Err e → HaltsOn V pre i e) → ((x : A) (k : Input) (e : DocFault) → p i ≡ Ok (x, k) → f x k ≡ Err e → HaltsOn V pre i e) → (e : DocFault) → followed p f i ≡ Err e → HaltsOn V pre i e
  halts_then p f i first second e h = elim (bind_err (p i) _ _ h) [
    | before g ↦ first e g
    | onward x k g g2 ↦ second x k e g g2
  ]

  -- behind the next token, whatever it is
  pub halts_token : {B : Type 0} (f : Unit {0} → Parser B) (i : Input) (t : Token) → i.rest ≡ t ∷ tail i.rest → ((u : Unit {0}) (k : Input) (e : DocFault) → Way i k 0 (t ∷ []) → f u k ≡ Err e → HaltsOn V (pre ++ t ∷ []) k e) → (e : DocFault) → followed take_token f i ≡ Err e → HaltsOn V pre i e
  halts_token f i t rest second e h = halts_behind (way_token t rest) (second tt (after i) e (way_token t rest) h)

  -- behind a mark that may be missing
  pub halts_expect : {B : Type 0} (m : Mark) (f : Unit {0} → Parser B) (i : Input) → V pre → ((t : Token) (u : Unit {0}) (k : Input) (e : DocFault) → IsMark t m → Way i k 0 (t ∷ []) → f u k ≡ Err e → HaltsOn V (pre ++ t ∷ []) k e) → (e : DocFault) → followed (expect m) f i ≡ Err e → HaltsOn V pre i e
  halts_expect m f i none second e h = elim (bind_err (expect m i) _ _ h) [
    | before g ↦ halts_here (expect_place m i e g) none
    | onward u k g g2 ↦ (let t = expected m i k u g in halts_behind t.way (second t.token u k e t.is t.way g2))
  ]

  -- behind a name that may be missing
  pub halts_name : {B : Type 0} (f : List ℕ → Parser B) (i : Input) → V pre → ((t : Token) (n : List ℕ) (k : Input) (e : DocFault) → name_of (Some t) ≡ Some n → Way i k 0 (t ∷ []) → f n k ≡ Err e → HaltsOn V (pre ++ t ∷ []) k e) → (e : DocFault) → followed any_name f i ≡ Err e → HaltsOn V pre i e
  halts_name f i none second e h = elim (bind_err (any_name i) _ _ h) [
    | before g ↦ halts_here (name_once i e g).place none
    | onward n k g g2 ↦ (let t = named i k n g in halts_behind t.way (second t.token n k e t.is t.way g2))
  ]

pub never_err : {A : Type 0} (x : A) (i : Input) (e : DocFault) → ◌≡◌ {A = Result (A × Input) DocFault} (Ok (x, i)) (Err e) → ⊥
never_err {A = A} x i e h = let g : ◌≡◌ {A = Result (A × Input) DocFault} (Ok (x, i)) (Err e) = h in cc

-- a reading that makes a value of another one
pub made_err : {A B : Type 0} (p : Parser A) (make : A → B) (i : Input) (e : DocFault) → followed p (λ x k. Ok (make x, k)) i ≡ Err e → p i ≡ Err e
made_err p make i e h = elim (bind_err (p i) _ _ h) [
  | before g ↦ g
  | onward x k g g2 ↦ absurd (never_err (make x) k e g2)
]

-- What has an end

-- between the inputs stand tokens that are such
pub record Between (V : List Token → Type 0) (i k : Input) : Type 0 where
  pub nodes : ℕ
  pub text : List Token
  pub way : Way i k nodes text
  pub viable : V text

end_place : (last : Option Token) (i : Input) (e : DocFault) → end_behind last i ≡ Err e → IsFaultAt e (place i)
unfolding end_behind
end_place last i e h = elim (if_ok (is_mark Semicolon (ahead i)) _ _ _ h) [
  | inl a ↦ absurd (let g = a.1 in cc)
  | inr a ↦ elim (if_ok (may_end last (ahead i)) _ _ _ a.1) [
    | inl b ↦ absurd (never_err tt i e b.1)
    | inr b ↦ (refused_once {A = Unit {0}} i e b.1).place
  ]
]

-- what the parser reads fails, or its end, which is then put in
pub halts_ended : {A : Type 0} {V : List Token → Type 0} (p : Parser A) (i : Input) → ((e : DocFault) → p i ≡ Err e → Halts V i e) → ((x : A) (k : Input) → p i ≡ Ok (x, k) → Between V i k) → (e : DocFault) → ended p i ≡ Err e → Halts V i e
unfolding ended
halts_ended p i first read e h = elim (bind_err (p i) _ _ h) [
  | before g ↦ first e g
  | onward x k g g2 ↦ (let c = read x k g in halts_behind c.way (halts_here (end_place _ k e (made_err (end_behind (last_of (since i.rest k.rest))) (λ u. x) k e g2)) c.viable))
]

-- Loops

-- a loop fails in its first step, or later
module _ {A : Type 0} (V : List Token → Type 0) (test : Option Token → Bool) (step : A → Parser A) (first : (x : A) (i : Input) (e : DocFault) → test (ahead i) ≡ true → step x i ≡ Err e → Halts V i e) (more : (x : A) (i : Input) (y : A) (k : Input) (e : DocFault) → test (ahead i) ≡ true → step x i ≡ Ok (y, k) → Halts V k e → Halts V i e) where
  halts_repeated : (n : ℕ) (x : A) (i : Input) (e : DocFault) → repeated test step n x i ≡ Err e → Halts V i e
  unfolding repeated
  halts_repeated zero x i e h = absurd (never_err x i e h)
  halts_repeated (suc n) x i e h = elim (stuck_on test step n x i e h) [
    | now t g ↦ first x i e t g
    | later y k t g g2 ↦ more x i y k e t g (halts_repeated n y k e g2)
  ]

  pub halts_while : (x : A) (i : Input) (e : DocFault) → while_next test step x i ≡ Err e → Halts V i e
  unfolding while_next
  halts_while x i e h = halts_repeated (length i.rest) x i e h

-- What goes on

-- with others behind them the tokens spell something before such a token
pub record Completes {A : Type 0} (Next : Option Token → Type 0) (Spells : ℕ → List Token → Option Token → A → Type 0) (text : List Token) : Type 0 where
  pub others : List Token
  pub most : ℕ
  pub enough : 200 ≤ most
  pub value : A
  pub spelled : (next : Option Token) → Next next → Spells most (text ++ others) next value

-- likewise, whatever follows
pub record Fills {A : Type 0} (Spells : ℕ → List Token → A → Type 0) (text : List Token) : Type 0 where
  pub others : List Token
  pub most : ℕ
  pub enough : 200 ≤ most
  pub value : A
  pub spelled : Spells most (text ++ others) value

pub completes : {A : Type 0} {Next : Option Token → Type 0} {Spells : ℕ → List Token → Option Token → A → Type 0} {text ts : List Token} (others : List Token) (most : ℕ) (x : A) → 200 ≤ most → ts ≡ text ++ others → ((next : Option Token) → Next next → Spells most ts next x) → Completes Next Spells text
completes {Spells = Spells} others most x enough e p = record { others = others; most = most; enough = enough; value = x; spelled = λ next h. subst (λ ts. Spells most ts next x) e (p next h) }

pub fills : {A : Type 0} {Spells : ℕ → List Token → A → Type 0} {text ts : List Token} (others : List Token) (most : ℕ) (x : A) → 200 ≤ most → ts ≡ text ++ others → Spells most ts x → Fills Spells text
fills {Spells = Spells} others most x enough e p = record { others = others; most = most; enough = enough; value = x; spelled = subst (λ ts. Spells most ts x) e p }

-- Tokens that are put in

abbrev pub put : Lexeme → Token
put l = record { lexeme = l; span = record { line = 1; col = 1 } }

abbrev pub the_mark : Mark → Token
the_mark m = put (mark m)

abbrev pub one : Token
one = put (integer 1)

abbrev pub some_name : Token
some_name = put (plain (codes "a"))

same_itself : (m : Mark) → same_mark m m ≡ true
unfolding same_mark mark_number
same_itself OpenBrace = refl
same_itself _ = refl

pub mark_is : (m : Mark) → IsMark (the_mark m) m
mark_is m = same_itself m
