-- Readings that take a token or more, where there is one.
use Rattle.std.proofs.Common.{◌≡◌, ℕ, ◌<◌, ◌≤◌, Bool, true, if◌then◌else◌, is_some, List, length, Option, Ok, Err, inl, inr, refl, ap, subst, arith, length-append}
use Rattle.qml_grammar.specs.Ends.{end_behind, ended}
use Rattle.qml_grammar.specs.Inputs.{Input, Parser, ahead, after, refusal, take_token, expect, any_name}
use Rattle.qml_grammar.specs.Lexemes.{Token, last_of, name_of, is_mark}
use Rattle.qml_grammar.specs.declared.mark.Mark.{Mark}
use Rattle.grammar_laws.specs.Laws.{Way}
use Rattle.grammar_laws.proofs.Growing.{shorter}
use Rattle.grammar_laws.proofs.Local.{Local, followed, branch, choose, chosen, not_chosen, chosen_in}
use Rattle.grammar_laws.proofs.Tools.{bind_ok, way_token, ahead_some, if_ok, same_input}
use Rattle.fault_laws.proofs.Sure.{sure_followed}
use Rattle.fault_laws.proofs.SureTokens.{since_followed, end_sure, sure_pure}

abbrev pub Grows : {A : Type 0} → Parser A → Type 0
Grows {A = A} p = (i : Input) (x : A) (j : Input) → is_some (ahead i) ≡ true → p i ≡ Ok (x, j) → length j.rest < length i.rest

no_longer : {i j : Input} {n : ℕ} {ts : List Token} → Way i j n ts → length j.rest ≤ length i.rest
no_longer {j = j} {ts = ts} w = omega (arith, ap length w.rest, length-append ts j.rest)

pub grows_after : {A : Type 0} (x : A) → Grows (λ i. Ok (x, after i))
grows_after x i y j t h =
    let a = ahead_some is_some refl i t in
    subst (λ (k : Input). length k.rest < length i.rest) (same_input x y (after i) j h) (shorter {i = i} {j = after i} (way_token a.token a.rest))

pub grows_token : Grows take_token
grows_token = grows_after tt

pub grows_followed : {A B : Type 0} (p : Parser A) (f : A → Parser B) → Grows p → ((x : A) → Local (f x)) → Grows (followed p f)
grows_followed p f first second i y j t h =
    let b = bind_ok (p i) _ _ h in
    let lt = first i b.value b.at t b.first in
    let le = no_longer ((second b.value).ok b.at y j b.onward).way in
    omega arith

pub grows_branch : {A : Type 0} (test : Option Token → Bool) (p q : Parser A) → Grows p → Grows q → Grows (branch test p q)
grows_branch test p q if_so not_so i y j t h = elim (if_ok (test (ahead i)) _ _ _ h) [
  | inl a ↦ if_so i y j t a.1
  | inr a ↦ not_so i y j t a.1
]

pub grows_choose : {A B : Type 0} (table : Option Token → Option B) (p : B → Parser A) (q : Parser A) → ((y : B) → Grows (p y)) → Grows q → Grows (choose table p q)
grows_choose table p q if_so not_so i y j t h = elim (chosen_in (table (ahead i)) _ _ _ h) [
  | chosen w e g ↦ if_so w i y j t g
  | not_chosen e g ↦ not_so i y j t g
]

pub grows_refused : {A : Type 0} → Grows {A = A} (λ i. Err (refusal i))
grows_refused i x j t h = absurd cc

pub grows_expect : (m : Mark) → Grows (expect m)
grows_expect m = grows_branch (is_mark m) (λ i. Ok (tt, after i)) (λ i. Err (refusal i)) (grows_after tt) grows_refused

pub grows_name : Grows any_name
grows_name = grows_choose name_of (λ n i. Ok (n, after i)) (λ i. Err (refusal i)) (λ n. grows_after n) grows_refused

-- what follows what was read takes no token back
pub grows_since : {A B : Type 0} (p : Parser A) (f : List Token → A → Parser B) → Grows p → ((ts : List Token) (x : A) → Local (f ts x)) → Grows (since_followed p f)
grows_since p f first second i y j t h =
    let b = bind_ok (p i) _ _ h in
    let lt = first i b.value b.at t b.first in
    let le = no_longer ((second _ b.value).ok b.at y j b.onward).way in
    omega arith

pub grows_ahead : {A : Type 0} (f : Option Token → Parser A) → ((o : Option Token) → Grows (f o)) → Grows (λ i. f (ahead i) i)
grows_ahead f grows i x j t h = grows (ahead i) i x j t h

pub grows_ended : {A : Type 0} (p : Parser A) → Grows p → Grows (ended p)
unfolding ended
grows_ended p grows = grows_since p (λ ts x. followed (end_behind (last_of ts)) (λ u i. Ok (x, i))) grows
    (λ ts x. (sure_followed (Unit {0}) ⊥ (end_sure (Unit {0}) ⊥ (last_of ts)) (λ u. sure_pure (Unit {0}) ⊥ x)).local)

-- behind a token
pub grows_behind : {B : Type 0} (f : Unit {0} → Parser B) → ((u : Unit {0}) → Local (f u)) → Grows (followed take_token f)
grows_behind f second = grows_followed take_token f grows_token second

pub grows_when : {A : Type 0} (test : Input → Bool) (p q : Parser A) → Grows p → Grows q → Grows (λ i. if test i then p i else q i)
grows_when test p q if_so not_so i y j t h = elim (if_ok (test i) _ _ _ h) [
  | inl a ↦ if_so i y j t a.1
  | inr a ↦ not_so i y j t a.1
]
