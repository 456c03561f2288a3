-- Statements with an end, and the parts of `if`, `while` and `for`: what stands before a fault can go on.
use Rattle.std.proofs.Common.{◌≡◌, ℕ, suc, inl, inr, true, false, List, [], ◌∷◌, ◌++◌, Option, Some, None, Err, refl, sym, ap, ◌∙◌, arith, append_assoc, codes}
use Rattle.qml_ast.specs.declared.expr.Expr.{Expr}
use Rattle.qml_ast.specs.declared.fault.DocFault.{DocFault}
use Rattle.qml_ast.specs.declared.stmt.LocalWord.{LocalWord}
use Rattle.qml_ast.specs.declared.stmt.LocalWord.TheVariants.{Var as AsVar}
use Rattle.qml_ast.specs.declared.stmt.Stmt.{Stmt}
use Rattle.qml_ast.specs.declared.stmt.Stmt.TheVariants.{Local, Do, Return}
use Rattle.qml_grammar.specs.Expressions.{whole}
use Rattle.qml_grammar.specs.ExpressionGrammar.{IsMark}
use Rattle.qml_grammar.specs.Inputs.{Input, ahead, after, refused, pure, expect}
use Rattle.qml_grammar.specs.Lexemes.{Token, head, last_of, is_mark, is_word, name_of, local_word_of, same_line}
use Rattle.qml_grammar.specs.StatementGrammar.{IsWord, goes_on, IsWhole, IsShort, local as a_local, local_set, change, act as an_act, leave as a_leave, leave_with, IsSimple, IsMaybeSimple, IsMaybeWhole, IsCondition, parens}
use Rattle.qml_grammar.specs.Statements.{is_target, target, change_or, initial, local, gives_value, returned, leave, acted, act, simple_local, simple_change, simple, simple_before, test, condition}
use Rattle.qml_grammar.specs.declared.mark.Mark.{Mark}
use Rattle.qml_grammar.specs.declared.mark.Mark.TheVariants.{CloseBrace, OpenParen, CloseParen, Semicolon, Equal}
use Rattle.qml_grammar.specs.declared.word.Word.TheVariants as ww
use Rattle.grammar_laws.specs.Laws.{Way}
use Rattle.grammar_laws.proofs.Local.{before, onward, bind_err}
use Rattle.grammar_laws.proofs.Tools.{if_ok, ahead_some, ahead_gives}
use Rattle.grammar_laws.proofs.Viable.{refused_once}
use Rattle.statement_laws.proofs.Ends.{since_way}
use Rattle.statement_laws.proofs.Targets.{and_both, expr_target, target_covers}
use Rattle.statement_laws.proofs.Wholes.{whole_covers}
use Rattle.prefix_laws.proofs.ChangePrefixes.{IsChangePrefix, target_stays, target_change, target_halts, change_or_halts}
use Rattle.prefix_laws.proofs.Going.{HaltsOn, Halts, halts_here, halts_as, halts_map, halts_by, halts_behind, halts_then, halts_token, halts_expect, halts_name, expect_place, never_err, made_err, Completes, completes, Fills, fills, the_mark, one, some_name, mark_is}
use Rattle.prefix_laws.proofs.Moved.{brace_stops, brace_changes_nothing, brace_no_equal, semicolon_stops, close_stops, calm_whole}
use Rattle.prefix_laws.proofs.WholePrefixes.{Calm, IsWholePrefix, one_value, one_whole, whole_halts}

abbrev pub Brace : Option Token → Type 0
Brace next = is_mark CloseBrace next ≡ true

-- Locals

-- the tokens and others spell a statement with an end, without it
abbrev pub IsShortPrefix : ℕ → List Token → Type 0
IsShortPrefix d = Completes Brace (λ most. IsShort most (suc d))

local_goes_on : (d : ℕ) (t : Token) (w : LocalWord) → local_word_of (Some t) ≡ Some w → IsShortPrefix d (t ∷ [])
local_goes_on d t w word_is = completes (some_name ∷ []) 200 (Local w (codes "a") None) (omega arith) refl (λ next b. a_local t some_name w (codes "a") refl refl word_is refl (brace_no_equal next b))

module _ (d : ℕ) (t p : Token) (w : LocalWord) (n : List ℕ) (word_is : local_word_of (Some t) ≡ Some w) (name_is : name_of (Some p) ≡ Some n) where
  set_goes_on : (o : Token) (us : List Token) → IsMark o Equal → IsWholePrefix d us → IsShortPrefix d (t ∷ p ∷ o ∷ us)
  set_goes_on o us is g = completes g.others g.most (Local w n (Some g.value)) g.enough refl (λ next b. local_set t p o (us ++ g.others) w n g.value refl refl word_is name_is is (g.spelled next (brace_stops next b)))

  initial_halts : (i : Input) (e : DocFault) → initial d i ≡ Err e → HaltsOn (IsShortPrefix d) (t ∷ p ∷ []) i e
  unfolding initial
  initial_halts i e h = elim (if_ok (is_mark Equal (ahead i)) _ _ _ h) [
    | inl a ↦ (
        let o = ahead_some (is_mark Equal) refl i a.0 in
        halts_token _ i o.token o.rest (λ u k f to g. halts_as (λ us w. set_goes_on o.token us o.is w) (whole_halts d k f (made_err (whole d) (λ y. Some y) k f g))) e a.1)
    | inr a ↦ absurd (never_err None i e a.1)
  ]

pub local_halts : (d : ℕ) (w : LocalWord) (i : Input) (e : DocFault) → local_word_of (ahead i) ≡ Some w → local d w i ≡ Err e → Halts (IsShortPrefix d) i e
unfolding local
local_halts d w i e s h =
    let t = ahead_gives local_word_of refl i w s in
    halts_token _ i t.token t.rest
    (λ u k f to g. halts_name _ k (local_goes_on d t.token w t.is)
    (λ p n l f2 is at g2. initial_halts d t.token p w n t.is is l f2 (made_err (initial d) (λ x. Local w n x) l f2 g2)) f g) e h

-- `return`

module _ (d : ℕ) (t : Token) (word_is : IsWord t ww.Return) where
  value_goes_on : (i : Input) (us : List Token) (n : ℕ) (j : Input) → same_line (Some t) (ahead i) ≡ true → Way i j n us → IsWholePrefix d us → IsShortPrefix d (t ∷ us)
  value_goes_on i [] n j line w g = completes [] 200 (Return None) (omega arith) refl (λ next b. a_leave t refl refl word_is)
  value_goes_on i (u ∷ us) n j line w g =
      let on_it : same_line (Some t) (Some u) ≡ true = ap (λ ts. same_line (Some t) (head ts)) (sym w.rest) ∙ line in
      completes g.others g.most (Return (Some g.value)) g.enough refl (λ next b. leave_with t (u ∷ us ++ g.others) g.value refl refl word_is on_it (g.spelled next (brace_stops next b)))

  returned_halts : (i : Input) (e : DocFault) → returned d (Some t) i ≡ Err e → HaltsOn (IsShortPrefix d) (t ∷ []) i e
  unfolding returned
  returned_halts i e h = elim (if_ok (gives_value (Some t) (ahead i)) _ _ _ h) [
    | inl a ↦ halts_by (λ us n j w g. value_goes_on i us n j (and_both a.0).0 w g) (whole_halts d i e (made_err (whole d) (λ y. Return (Some y)) i e a.1))
    | inr a ↦ absurd (never_err (Return None) i e a.1)
  ]

pub leave_halts : (d : ℕ) (i : Input) (e : DocFault) → is_word ww.Return (ahead i) ≡ true → leave d i ≡ Err e → Halts (IsShortPrefix d) i e
unfolding leave
leave_halts d i e s h =
    let t = ahead_some (is_word ww.Return) refl i s in
    halts_token _ i t.token t.rest (λ u k f to g. returned_halts d t.token t.is k f (ap (λ o. returned d o k) (sym (ap head t.rest)) ∙ g)) e h

-- Expressions and changes

act_goes_on : (d : ℕ) (us : List Token) → IsWholePrefix d us → IsShortPrefix d us
act_goes_on d us g = completes g.others g.most (Do g.value) g.enough refl (λ next b. an_act g.value refl (g.spelled next (brace_stops next b)) (λ k q. brace_changes_nothing _ next b))

change_goes_on : (d : ℕ) (us : List Token) → IsChangePrefix d us → IsShortPrefix d us
change_goes_on d us g = completes g.others g.most g.value g.enough refl (λ next b. change (g.spelled next (brace_stops next b)))

acted_halts : (d : ℕ) (ts : List Token) (x : Expr) (i : Input) (e : DocFault) → IsWhole 200 d ts (ahead i) x → acted d ts (last_of ts) x i ≡ Err e → HaltsOn (IsShortPrefix d) ts i e
unfolding acted
acted_halts d ts x i e p h = elim (if_ok (is_target ts) _ _ _ h) [
  | inl a ↦ elim (change_or_halts d p.nodes ts x (expr_target i d p.nodes ts x p.spelled a.0) p.few (pure (Do x)) i e a.1) [
    | inl c ↦ halts_map (λ us g. change_goes_on d us g) c
    | inr c ↦ absurd (never_err (Do x) i e c)
  ]
  | inr a ↦ absurd (never_err (Do x) i e a.1)
]

pub act_halts : (d : ℕ) (i : Input) (e : DocFault) → act d i ≡ Err e → Halts (IsShortPrefix d) i e
unfolding act
act_halts d i e h = elim (bind_err (whole d i) _ _ h) [
  | before g ↦ halts_as (λ us w. act_goes_on d us w) (whole_halts d i e g)
  | onward x k g g2 ↦ (
      let y = whole_covers d i x k g in
      halts_behind y.way (acted_halts d y.text x k e y.spelled (ap (λ ts. acted d ts (last_of ts) x k) (sym (since_way y.way)) ∙ g2)))
]

-- Parts of `for`

abbrev pub IsSimplePrefix : ℕ → List Token → Type 0
IsSimplePrefix d = Completes Calm (λ most. IsSimple most (suc d))

module _ (d : ℕ) (t : Token) (word_is : IsWord t ww.Var) where
  simple_set_goes_on : (p o : Token) (n : List ℕ) (us : List Token) → name_of (Some p) ≡ Some n → IsMark o Equal → IsWholePrefix d us → IsSimplePrefix d (t ∷ p ∷ o ∷ us)
  simple_set_goes_on p o n us name_is is g = completes g.others g.most (Local AsVar n (Some g.value)) g.enough refl (λ next c. IsSimple.local t p o (us ++ g.others) n g.value refl refl word_is name_is is (g.spelled next c))

  simple_put : (p : Token) (n : List ℕ) (us ts : List Token) → name_of (Some p) ≡ Some n → t ∷ p ∷ the_mark Equal ∷ one ∷ [] ≡ us ++ ts → IsSimplePrefix d us
  simple_put p n us ts name_is e = completes ts 200 (Local AsVar n (Some one_value)) (omega arith) e (λ next c. IsSimple.local t p (the_mark Equal) (one ∷ []) n one_value refl refl word_is name_is (mark_is Equal) (one_whole 200 (suc d) next (omega arith) c))

  simple_local_halts : (i : Input) (e : DocFault) → i.rest ≡ t ∷ (after i).rest → simple_local d i ≡ Err e → Halts (IsSimplePrefix d) i e
  unfolding simple_local
  simple_local_halts i e rest h =
      halts_token _ i t rest
      (λ u k f to g. halts_name _ k (simple_put some_name (codes "a") (t ∷ []) (some_name ∷ the_mark Equal ∷ one ∷ []) refl refl)
      (λ p n l f2 name_is at g2. halts_expect Equal _ l (simple_put p n (t ∷ p ∷ []) (the_mark Equal ∷ one ∷ []) name_is refl)
      (λ o u3 m f3 is by g3. halts_as (λ us w. simple_set_goes_on p o n us name_is is w) (whole_halts d m f3 (made_err (whole d) (λ y. Local AsVar n (Some y)) m f3 g3))) f2 g2) f g) e h

simple_change_goes_on : (d : ℕ) (us : List Token) → IsChangePrefix d us → IsSimplePrefix d us
simple_change_goes_on d us g = completes g.others g.most g.value g.enough refl (λ next c. IsSimple.change (g.spelled next c))

simple_change_halts : (d : ℕ) (i : Input) (e : DocFault) → simple_change d i ≡ Err e → Halts (IsSimplePrefix d) i e
unfolding simple_change
simple_change_halts d i e h = elim (bind_err (target i) _ _ h) [
  | before g ↦ halts_as (λ us w. simple_change_goes_on d us (target_change d us w)) (target_halts i e g)
  | onward x k g g2 ↦ (
      let y = target_covers i x k g in
      let behind_it : change_or refused d x (last_of y.text) k ≡ Err e = ap (λ ts. change_or refused d x (last_of ts) k) (sym (since_way y.way)) ∙ g2 in
      halts_behind y.way (elim (change_or_halts d y.nodes y.text x y.is y.few refused k e behind_it) [
        | inl c ↦ halts_map (λ us w. simple_change_goes_on d us w) c
        | inr c ↦ halts_here (refused_once {A = Stmt} k e c).place (simple_change_goes_on d y.text (target_change d y.text (target_stays y.is)))
      ]))
]

simple_halts : (d : ℕ) (i : Input) (e : DocFault) → simple d i ≡ Err e → Halts (IsSimplePrefix d) i e
unfolding simple
simple_halts d i e h = elim (if_ok (is_word ww.Var (ahead i)) _ _ _ h) [
  | inl a ↦ (let t = ahead_some (is_word ww.Var) refl i a.0 in simple_local_halts d t.token t.is i e t.rest a.1)
  | inr a ↦ simple_change_halts d i e a.1
]

abbrev pub IsMaybeSimplePrefix : ℕ → List Token → Type 0
IsMaybeSimplePrefix d = Completes Calm (λ most. IsMaybeSimple most (suc d))

pub simple_before_halts : (m : Mark) (d : ℕ) (i : Input) (e : DocFault) → simple_before m d i ≡ Err e → Halts (IsMaybeSimplePrefix d) i e
unfolding simple_before
simple_before_halts m d i e h = elim (if_ok (is_mark m (ahead i)) _ _ _ h) [
  | inl a ↦ absurd (never_err None i e a.1)
  | inr a ↦ halts_as (λ us w. completes w.others w.most (Some w.value) w.enough refl (λ next c. IsMaybeSimple.some w.value refl (w.spelled next c))) (simple_halts d i e (made_err (simple d) (λ y. Some y) i e a.1))
]

abbrev pub IsMaybeWholePrefix : ℕ → List Token → Type 0
IsMaybeWholePrefix d = Completes Calm (λ most. IsMaybeWhole most (suc d))

pub test_halts : (d : ℕ) (i : Input) (e : DocFault) → test d i ≡ Err e → Halts (IsMaybeWholePrefix d) i e
unfolding test
test_halts d i e h = elim (if_ok (is_mark Semicolon (ahead i)) _ _ _ h) [
  | inl a ↦ absurd (never_err None i e a.1)
  | inr a ↦ halts_as (λ us w. completes w.others w.most (Some w.value) w.enough refl (λ next c. IsMaybeWhole.some w.value refl (w.spelled next c))) (whole_halts d i e (made_err (whole d) (λ y. Some y) i e a.1))
]

-- Marks that end an expression

pub semicolon_is_calm : goes_on (Some (the_mark Semicolon)) ≡ false
semicolon_is_calm = semicolon_stops (Some (the_mark Semicolon)) (mark_is Semicolon)

pub close_is_calm : goes_on (Some (the_mark CloseParen)) ≡ false
close_is_calm = close_stops (Some (the_mark CloseParen)) (mark_is CloseParen)

-- Conditions

abbrev pub IsConditionPrefix : ℕ → List Token → Type 0
IsConditionPrefix d = Fills (λ most. IsCondition most (suc d))

condition_goes_on : (d : ℕ) (o : Token) (us : List Token) → IsMark o OpenParen → IsWholePrefix d us → IsConditionPrefix d (o ∷ us)
condition_goes_on d o us is w = fills (w.others ++ the_mark CloseParen ∷ []) w.most w.value w.enough (append_assoc (o ∷ us) w.others (the_mark CloseParen ∷ [])) (parens o (us ++ w.others) (the_mark CloseParen) refl is (w.spelled (Some (the_mark CloseParen)) close_is_calm) (mark_is CloseParen))

some_condition : (d : ℕ) → IsConditionPrefix d []
some_condition d = fills (the_mark OpenParen ∷ one ∷ the_mark CloseParen ∷ []) 200 one_value (omega arith) refl (parens (the_mark OpenParen) (one ∷ []) (the_mark CloseParen) refl (mark_is OpenParen) (one_whole 200 (suc d) (Some (the_mark CloseParen)) (omega arith) close_is_calm) (mark_is CloseParen))

closed_condition : (d : ℕ) (o : Token) (ts : List Token) (next : Option Token) (x : Expr) → IsMark o OpenParen → IsWhole 200 d ts next x → IsConditionPrefix d (o ∷ ts)
closed_condition d o ts next x is p = fills (the_mark CloseParen ∷ []) 200 x (omega arith) refl (parens o ts (the_mark CloseParen) refl is (calm_whole (omega arith) (λ h. close_is_calm) p) (mark_is CloseParen))

pub condition_halts : (d : ℕ) (i : Input) (e : DocFault) → condition d i ≡ Err e → Halts (IsConditionPrefix d) i e
unfolding condition
condition_halts d i e h = halts_expect OpenParen _ i (some_condition d)
    (λ o u k f is to g. halts_then (whole d) _ k
    (λ f2 g2. halts_as (λ us w. condition_goes_on d o us is w) (whole_halts d k f2 g2))
    (λ x l f2 read g2.
    let c = whole_covers d k x l read in
    halts_behind c.way (halts_here (expect_place CloseParen l f2 (made_err (expect CloseParen) (λ v. x) l f2 g2)) (closed_condition d o c.text (ahead l) x is c.spelled))) f g) e h
