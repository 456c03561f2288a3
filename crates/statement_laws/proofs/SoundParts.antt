-- Statements with an end, and the parts of `if`, `while` and `for`: what is read as one is spelled.
use Rattle.std.proofs.Common.{◌≡◌, ℕ, inl, inr, Bool, true, false, List, [], ◌∷◌, ◌++◌, Option, Some, Ok, refl, sym, ap, subst, ◌∙◌}
use Rattle.std.proofs.lemmas.List.{append-nil}
use Rattle.qml_ast.specs.declared.expr.Expr.{Expr}
use Rattle.qml_ast.specs.declared.stmt.LocalWord.{LocalWord}
use Rattle.qml_ast.specs.declared.stmt.LocalWord.TheVariants.{Var as AsVar}
use Rattle.qml_ast.specs.declared.stmt.Stmt.{Stmt}
use Rattle.qml_ast.specs.declared.stmt.Stmt.TheVariants.{Local, Do}
use Rattle.qml_grammar.specs.Expressions.{whole}
use Rattle.qml_grammar.specs.Inputs.{Input, ahead, after, refused, pure, expect, any_name}
use Rattle.qml_grammar.specs.Lexemes.{Token, head, last_of, is_mark, is_word, name_of, local_word_of, same_line}
use Rattle.qml_grammar.specs.StatementGrammar.{IsWord, changes_on, IsWhole, IsTarget, IsShort, local as a_local, local_set, change, act as an_act, leave as a_leave, leave_with, IsSimple, IsMaybeSimple, IsMaybeWhole, IsCondition, parens}
use Rattle.qml_grammar.specs.StatementGrammar.IsSimple.{local as simple_set, change as simple_changed}
use Rattle.qml_grammar.specs.Statements.{is_target, target, change_or, initial, local, gives_value, returned, leave, acted, act, simple_local, simple_change, simple, simple_before, test, condition}
use Rattle.qml_grammar.specs.declared.mark.Mark.{Mark}
use Rattle.qml_grammar.specs.declared.mark.Mark.TheVariants.{OpenParen, CloseParen, Semicolon, Equal}
use Rattle.qml_grammar.specs.declared.word.Word.TheVariants as ww
use Rattle.grammar_laws.proofs.Tools.{Taken, Named, bind_ok, if_ok, ahead_some, ahead_gives, expected, named, way_none, way_token, way_then}
use Rattle.statement_laws.specs.Laws.{Covers}
use Rattle.statement_laws.proofs.Changes.{change_or_covers}
use Rattle.statement_laws.proofs.Ends.{since_way}
use Rattle.statement_laws.proofs.Targets.{and_both, expr_target, spelled_target, target_covers}
use Rattle.statement_laws.proofs.Ways.{ahead_follow, Sound, SoundAt, covers_to, covers_as, covers_behind}
use Rattle.statement_laws.proofs.Wholes.{whole_covers, whole_begins, head_begins}

-- Locals

module _ (d : ℕ) (t p : Token) (w : LocalWord) (n : List ℕ) (word_is : local_word_of (Some t) ≡ Some w) (name_is : name_of (Some p) ≡ Some n) where
  initial_covers : (i : Input) (x : Option Expr) (j : Input) → initial d i ≡ Ok (x, j) → Covers (λ us next y. IsShort 200 d (t ∷ p ∷ us) next (Local w n y)) i j x
  unfolding initial
  initial_covers i x j h = elim (if_ok (is_mark Equal (ahead i)) _ _ _ h) [
    | inl a ↦ (
        let o = ahead_some (is_mark Equal) refl i a.0 in
        let b = bind_ok (whole d (after i)) _ _ a.1 in
        let y = whole_covers d (after i) b.value b.at b.first in
        covers_to (record {
          text = o.token ∷ y.text;
          way = way_then (way_token o.token o.rest) y.way;
          spelled = local_set t p o.token y.text w n b.value refl refl word_is name_is o.is y.spelled;
        }) b.onward)
    | inr a ↦ covers_to (record { text = []; way = way_none i; spelled = a_local t p w n refl refl word_is name_is a.0 }) a.1
  ]

pub local_covers : (d : ℕ) (w : LocalWord) (i : Input) → local_word_of (ahead i) ≡ Some w → SoundAt (local d w) (IsShort 200 d) i
unfolding local
local_covers d w i e x j h =
    let t = ahead_gives local_word_of refl i w e in
    let a = bind_ok (any_name (after i)) _ _ h in
    let p = named (after i) a.at a.value a.first in
    let b = bind_ok (initial d a.at) _ _ a.onward in
    let y = initial_covers d t.token p.token w a.value t.is p.is a.at b.value b.at b.first in
    covers_behind (way_then (way_token t.token t.rest) p.way) (covers_to (covers_as (λ us next q. q) y) b.onward)

-- `return`

module _ (d : ℕ) (t : Token) (word_is : IsWord t ww.Return) where
  returned_covers : (i : Input) (x : Stmt) (j : Input) → returned d (Some t) i ≡ Ok (x, j) → Covers (λ us next y. IsShort 200 d (t ∷ us) next y) i j x
  unfolding returned
  returned_covers i x j h = elim (if_ok (gives_value (Some t) (ahead i)) _ _ _ h) [
    | inl a ↦ (
        let b = bind_ok (whole d i) _ _ a.1 in
        let y = whole_covers d i b.value b.at b.first in
        let first : ahead i ≡ head y.text = ap head (y.way).rest ∙ head_begins (whole_begins y.spelled) b.at.rest in
        let line : same_line (Some t) (head y.text) ≡ true = ap (λ u. same_line (Some t) u) (sym first) ∙ (and_both a.0).0 in
        covers_to (record { text = y.text; way = y.way; spelled = leave_with t y.text b.value refl refl word_is line y.spelled }) b.onward)
    | inr a ↦ covers_to (record { text = []; way = way_none i; spelled = a_leave t refl refl word_is }) a.1
  ]

pub leave_covers : (d : ℕ) (i : Input) → is_word ww.Return (ahead i) ≡ true → SoundAt (leave d) (IsShort 200 d) i
unfolding leave
leave_covers d i e x j h =
    let t = ahead_some (is_word ww.Return) refl i e in
    let after_it : returned d (Some t.token) (after i) ≡ Ok (x, j) = ap (λ u. returned d u (after i)) (sym (ap head t.rest)) ∙ h in
    covers_behind (way_token t.token t.rest) (returned_covers d t.token t.is (after i) x j after_it)

-- Expressions and changes

-- a statement with an end, behind its expression
abbrev IsShortOf : ℕ → List Token → List Token → Option Token → Stmt → Type 0
IsShortOf d ts us next x = IsShort 200 d (ts ++ us) next x

nothing_behind : (d : ℕ) (ts : List Token) (i : Input) (x : Expr) (z : Stmt) (j : Input) → IsWhole 200 d ts (ahead i) x → ((k : ℕ) → IsTarget k ts x → changes_on (last_of ts) (ahead i) ≡ false) → pure (Do x) i ≡ Ok (z, j) → Covers (IsShortOf d ts) i j z
nothing_behind d ts i x z j p calm h =
    let alone : IsShort 200 d ts (ahead i) (Do x) = an_act x refl p calm in
    covers_to (record { text = []; way = way_none i; spelled = subst (λ us. IsShort 200 d us (ahead i) (Do x)) (sym (append-nil ts)) alone }) h

true_false : {A : Type 0} {b : Bool} → b ≡ true → b ≡ false → A
true_false e f = absurd cc

acted_covers : (d : ℕ) (ts : List Token) (x : Expr) (i : Input) (z : Stmt) (j : Input) → IsWhole 200 d ts (ahead i) x → acted d ts (last_of ts) x i ≡ Ok (z, j) → Covers (IsShortOf d ts) i j z
unfolding acted
acted_covers d ts x i z j p h = elim (if_ok (is_target ts) _ _ _ h) [
  | inl a ↦ (
      let t = expr_target i d p.nodes ts x p.spelled a.0 in
      elim (change_or_covers (pure (Do x)) d p.nodes ts x t p.few i z j a.1) [
        | inl c ↦ covers_as (λ us next q. change q) c
        | inr c ↦ nothing_behind d ts i x z j p (λ k q. c.0) c.1
      ])
  | inr a ↦ nothing_behind d ts i x z j p (λ k q. true_false (spelled_target q) a.0) a.1
]

pub act_covers : (d : ℕ) → Sound (act d) (IsShort 200 d)
unfolding act
act_covers d i x j h =
    let a = bind_ok (whole d i) _ _ h in
    let y = whole_covers d i a.value a.at a.first in
    let behind_it : acted d y.text (last_of y.text) a.value a.at ≡ Ok (x, j) = ap (λ ts. acted d ts (last_of ts) a.value a.at) (sym (since_way y.way)) ∙ a.onward in
    covers_behind y.way (acted_covers d y.text a.value a.at x j y.spelled behind_it)

-- Parts of `for`

simple_set_by : {d : ℕ} {i k l m j : Input} {n : List ℕ} {y : Expr} → Taken (is_word ww.Var) i k → Named n k l → Taken (is_mark Equal) l m → Covers (IsWhole 200 d) m j y → Covers (IsSimple 200 d) i j (Local AsVar n (Some y))
simple_set_by {n = n} {y = y} t p o e = record {
  text = t.token ∷ p.token ∷ o.token ∷ e.text;
  way = way_then t.way (way_then p.way (way_then o.way e.way));
  spelled = simple_set t.token p.token o.token e.text n y refl refl t.is p.is o.is e.spelled;
}

simple_local_covers : (d : ℕ) (i : Input) → is_word ww.Var (ahead i) ≡ true → SoundAt (simple_local d) (IsSimple 200 d) i
unfolding simple_local
simple_local_covers d i e x j h =
    let t = ahead_some (is_word ww.Var) refl i e in
    let taken : Taken (is_word ww.Var) i (after i) = record { token = t.token; way = way_token t.token t.rest; is = t.is } in
    let a = bind_ok (any_name (after i)) _ _ h in
    let b = bind_ok (expect Equal a.at) _ _ a.onward in
    let c = bind_ok (whole d b.at) _ _ b.onward in
    let y = whole_covers d b.at c.value c.at c.first in
    covers_to (simple_set_by taken (named (after i) a.at a.value a.first) (expected Equal a.at b.at b.value b.first) y) c.onward

simple_change_covers : (d : ℕ) → Sound (simple_change d) (IsSimple 200 d)
unfolding simple_change
simple_change_covers d i x j h =
    let a = bind_ok (target i) _ _ h in
    let y = target_covers i a.value a.at a.first in
    let behind_it : change_or refused d a.value (last_of y.text) a.at ≡ Ok (x, j) = ap (λ ts. change_or refused d a.value (last_of ts) a.at) (sym (since_way y.way)) ∙ a.onward in
    elim (change_or_covers refused d y.nodes y.text a.value y.is y.few a.at x j behind_it) [
      | inl c ↦ covers_behind y.way (covers_as (λ us next q. simple_changed q) c)
      | inr c ↦ absurd (let e = c.1 in cc)
    ]

pub simple_covers : (d : ℕ) → Sound (simple d) (IsSimple 200 d)
unfolding simple
simple_covers d i x j h = elim (if_ok (is_word ww.Var (ahead i)) _ _ _ h) [
  | inl a ↦ simple_local_covers d i a.0 x j a.1
  | inr a ↦ simple_change_covers d i x j a.1
]

pub simple_before_covers : (m : Mark) (d : ℕ) → Sound (simple_before m d) (IsMaybeSimple 200 d)
unfolding simple_before
simple_before_covers m d i x j h = elim (if_ok (is_mark m (ahead i)) _ _ _ h) [
  | inl a ↦ covers_to (record { text = []; way = way_none i; spelled = IsMaybeSimple.none refl refl }) a.1
  | inr a ↦ (
      let b = bind_ok (simple d i) _ _ a.1 in
      let y = simple_covers d i b.value b.at b.first in
      covers_to (covers_as (λ ts next q. IsMaybeSimple.some b.value refl q) y) b.onward)
]

pub test_covers : (d : ℕ) → Sound (test d) (IsMaybeWhole 200 d)
unfolding test
test_covers d i x j h = elim (if_ok (is_mark Semicolon (ahead i)) _ _ _ h) [
  | inl a ↦ covers_to (record { text = []; way = way_none i; spelled = IsMaybeWhole.none refl refl }) a.1
  | inr a ↦ (
      let b = bind_ok (whole d i) _ _ a.1 in
      let y = whole_covers d i b.value b.at b.first in
      covers_to (covers_as (λ ts next q. IsMaybeWhole.some b.value refl q) y) b.onward)
]

-- Conditions

-- a condition, whatever follows it
abbrev pub IsConditionBefore : ℕ → List Token → Option Token → Expr → Type 0
IsConditionBefore d ts next x = IsCondition 200 d ts x

condition_by : {d : ℕ} {i k l j : Input} {x : Expr} → Taken (is_mark OpenParen) i k → Covers (IsWhole 200 d) k l x → Taken (is_mark CloseParen) l j → Covers (IsConditionBefore d) i j x
condition_by {d = d} {x = x} o y z = record {
  text = o.token ∷ y.text ++ z.token ∷ [];
  way = way_then o.way (way_then y.way z.way);
  spelled = parens o.token y.text z.token refl o.is (subst (λ n. IsWhole 200 d y.text n x) (ahead_follow z.way) y.spelled) z.is;
}

pub condition_covers : (d : ℕ) → Sound (condition d) (IsConditionBefore d)
unfolding condition
condition_covers d i x j h =
    let a = bind_ok (expect OpenParen i) _ _ h in
    let b = bind_ok (whole d a.at) _ _ a.onward in
    let y = whole_covers d a.at b.value b.at b.first in
    let c = bind_ok (expect CloseParen b.at) _ _ b.onward in
    covers_to (condition_by (expected OpenParen i a.at a.value a.first) y (expected CloseParen b.at c.at c.value c.first)) c.onward
