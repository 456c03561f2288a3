-- Statements with an end, and the parts of `if`, `while` and `for`: what is spelled as one is read.
use Rattle.std.proofs.Common.{◌≡◌, ℕ, ◌≤◌, ◌&&◌, ◌||◌, not, Bool, true, false, List, [], ◌∷◌, ◌++◌, Option, Some, None, Ok, refl, sym, ap, ◌∙◌}
use Rattle.qml_ast.specs.declared.expr.Expr.{Expr}
use Rattle.qml_ast.specs.declared.stmt.LocalWord.{LocalWord}
use Rattle.qml_ast.specs.declared.stmt.LocalWord.TheVariants.{Var as AsVar}
use Rattle.qml_ast.specs.declared.stmt.Stmt.{Stmt}
use Rattle.qml_ast.specs.declared.stmt.Stmt.TheVariants.{Local, Assign, Step, Do, Return}
use Rattle.qml_grammar.specs.Ends.{may_end, since}
use Rattle.qml_grammar.specs.ExpressionGrammar.{IsMark}
use Rattle.qml_grammar.specs.Expressions.{whole}
use Rattle.qml_grammar.specs.Inputs.{Input, ahead, refused, pure}
use Rattle.qml_grammar.specs.Lexemes.{Lexeme, word, Token, head, last_of, is_mark, is_mark_lexeme, is_word, is_word_lexeme, name_of, same_line}
use Rattle.qml_grammar.specs.StatementGrammar.{IsWord, follow, goes_on, changes_on, IsEnd, semicolon, nothing, IsWhole, IsTarget, IsChange, assign, step, IsSimple, IsMaybeSimple, IsMaybeWhole, IsCondition, parens}
use Rattle.qml_grammar.specs.StatementGrammar.IsSimple.{local as simple_set, change as simple_changed}
use Rattle.qml_grammar.specs.Statements.{is_target, change_or, initial, local, gives_value, returned, leave, acted, act, simple_local, simple_change, simple, simple_before, test, condition}
use Rattle.qml_grammar.specs.declared.mark.Mark.{Mark}
use Rattle.qml_grammar.specs.declared.mark.Mark.TheVariants.{OpenParen, CloseParen, CloseBrace, Semicolon, Equal}
use Rattle.qml_grammar.specs.declared.word.Word.TheVariants as ww
use Rattle.grammar_laws.proofs.Behind.{ok_then, if_true, if_false}
use Rattle.statement_laws.proofs.Changes.{assign_stops, step_stops, no_dot_on, assigned_goes, stepped_goes, unchanged}
use Rattle.statement_laws.proofs.Ends.{since_at}
use Rattle.statement_laws.proofs.Firsts.{expr_no_semicolon, expr_no_brace, simple_no_mark, operand_no_var, change_begins_name, simple_begins}
use Rattle.statement_laws.proofs.Targets.{both_and, target_expr, expr_target, spelled_target, target_goes}
use Rattle.statement_laws.proofs.Ways.{before, before_both, Complete, expect_before, name_before}
use Rattle.statement_laws.proofs.Wholes.{whole_goes, whole_begins, head_begins}

-- Locals

pub local_alone_goes : (d : ℕ) (t p : Token) (w : LocalWord) (n : List ℕ) (j : Input) → name_of (Some p) ≡ Some n → is_mark Equal (ahead j) ≡ false → local d w (before (t ∷ p ∷ []) j) ≡ Ok (Local w n None, j)
unfolding local initial
local_alone_goes d t p w n j name_is unset = ok_then _ (name_before n p [] j name_is) (ok_then _ (if_false _ _ unset refl) refl)

pub local_set_goes : (d : ℕ) (t p o : Token) (us : List Token) (w : LocalWord) (n : List ℕ) (y : Expr) (next : Option Token) (j : Input) → ahead j ≡ next → name_of (Some p) ≡ Some n → IsMark o Equal → IsWhole 200 d us next y → local d w (before (t ∷ p ∷ o ∷ us) j) ≡ Ok (Local w n (Some y), j)
unfolding local initial
local_set_goes d t p o us w n y next j e name_is equal q =
    ok_then _ (name_before n p (o ∷ us) j name_is) (ok_then _ (if_true _ _ equal (ok_then _ (whole_goes d us next y j e q) refl)) refl)

-- `return`

pub leave_goes : (d : ℕ) (t : Token) (j : Input) → gives_value (Some t) (ahead j) ≡ false → leave d (before (t ∷ []) j) ≡ Ok (Return None, j)
unfolding leave returned
leave_goes d t j h = if_false _ _ h refl

gives : (t u : Token) → same_line (Some t) (Some u) ≡ true → is_mark Semicolon (Some u) ≡ false → is_mark CloseBrace (Some u) ≡ false → gives_value (Some t) (Some u) ≡ true
gives t u line a b = both_and line (rw (a, b) refl)

pub leave_with_goes : (d : ℕ) (t : Token) (us : List Token) (y : Expr) (next : Option Token) (j : Input) → ahead j ≡ next → same_line (Some t) (head us) ≡ true → IsWhole 200 d us next y → leave d (before (t ∷ us) j) ≡ Ok (Return (Some y), j)
unfolding leave returned
leave_with_goes d t us y next j e line q =
    let b = whole_begins q in
    let first : head us ≡ Some b.token = ap head b.text in
    let line_is : same_line (Some t) (Some b.token) ≡ true = ap (λ u. same_line (Some t) u) (sym first) ∙ line in
    let value : gives_value (Some t) (ahead (before us j)) ≡ true = ap (λ u. gives_value (Some t) u) (head_begins b j.rest ∙ first) ∙ gives t b.token line_is (expr_no_semicolon b.token b.begins) (expr_no_brace b.token b.begins) in
    if_true _ _ value (ok_then _ (whole_goes d us next y j e q) refl)

-- behind `return` alone its end shows that no value follows

mark_semicolon_no_value : (last next : Option Token) → is_mark Semicolon next ≡ true → gives_value last next ≡ false
mark_semicolon_no_value last next h = no_value (is_mark Semicolon next) (same_line last next) (is_mark CloseBrace next) h
  where
    no_value : (semi line brace : Bool) → semi ≡ true → (line && not (semi || brace)) ≡ false
    no_value true true brace h = refl
    no_value true false brace h = refl
    no_value false line brace h = absurd cc

lexeme_return_no_mark : (m : Mark) (l : Lexeme) → is_word_lexeme ww.Return l ≡ true → is_mark_lexeme m l ≡ false
lexeme_return_no_mark m (word w) h = refl
lexeme_return_no_mark m _ h = absurd cc

may_end_no_value : (t : Token) (next : Option Token) → IsWord t ww.Return → may_end (Some t) next ≡ true → gives_value (Some t) next ≡ false
may_end_no_value t None word_is h = refl
may_end_no_value t (Some u) word_is h = no_value (same_line (Some t) (Some u)) (is_mark CloseBrace (Some u)) (is_mark Semicolon (Some u)) (lexeme_return_no_mark CloseBrace t.lexeme word_is) (lexeme_return_no_mark Semicolon t.lexeme word_is) h
  where
    no_value : (line brace semi : Bool) {a b : Bool} → a ≡ false → b ≡ false → (false || brace || not line || a || b) ≡ true → (line && not (semi || brace)) ≡ false
    no_value false brace semi e f h = refl
    no_value true true true e f h = refl
    no_value true true false e f h = refl
    no_value true false semi e f h = absurd (let k : false ≡ true = rw (e, f) at h in cc)

pub end_no_value : (t : Token) (es : List Token) (next : Option Token) → IsWord t ww.Return → IsEnd (Some t) es next → gives_value (Some t) (follow es next) ≡ false
end_no_value t es next word_is (semicolon u es_is is) = rw es_is (mark_semicolon_no_value (Some t) (Some u) is)
end_no_value t es next word_is (nothing es_is other may) = rw es_is (may_end_no_value t next word_is may)

-- Expressions and changes

target_whole : (d k : ℕ) (us : List Token) (o : Token) (y : Expr) → IsTarget k us y → k ≤ 200 → goes_on (Some o) ≡ false → IsWhole 200 d us (Some o) y
target_whole d k us o y p few stops = record { nodes = k; few = few; spelled = target_expr p; longest = stops }

act_by : (d : ℕ) (us : List Token) (next : Option Token) (y : Expr) (k : Input) (x : Stmt) (j : Input) → ahead k ≡ next → IsWhole 200 d us next y → acted d us (last_of us) y k ≡ Ok (x, j) → act d (before us k) ≡ Ok (x, j)
unfolding act
act_by d us next y k x j e p h =
    let read : since (us ++ k.rest) k.rest ≡ us = since_at (us ++ k.rest) us k.rest refl in
    ok_then _ (whole_goes d us next y k e p) (ap (λ ts. acted d ts (last_of ts) y k) read ∙ h)

pub act_changes : (d : ℕ) → Complete (act d) (IsChange 200 d)
unfolding acted
act_changes d ts next x j e (assign k us o vs y op z ts_is x_is p few is q) =
    let read = assigned_goes (pure (Do y)) d y (last_of us) o op vs next z j e is q in
    let all = act_by d us (Some o) y (before (o ∷ vs) j) (Assign y op z) j refl (target_whole d k us o y p few (assign_stops o op is)) (if_true _ _ (spelled_target p) read) in
    rw (ts_is, x_is) (ap (act d) (before_both us (o ∷ vs) j) ∙ all)
act_changes d ts next x j e (step k us o y up ts_is x_is p few is line) =
    let read = stepped_goes (pure (Do y)) d y (last_of us) o up j is line in
    let all = act_by d us (Some o) y (before (o ∷ []) j) (Step y up) j refl (target_whole d k us o y p few (step_stops o up is)) (if_true _ _ (spelled_target p) read) in
    rw (ts_is, x_is) (ap (act d) (before_both us (o ∷ []) j) ∙ all)

acted_calm : (d : ℕ) (ts : List Token) (next : Option Token) (y : Expr) (j : Input) (b : Bool) → is_target ts ≡ b → ahead j ≡ next → IsWhole 200 d ts next y → ((k : ℕ) → IsTarget k ts y → changes_on (last_of ts) next ≡ false) → acted d ts (last_of ts) y j ≡ Ok (Do y, j)
unfolding acted
acted_calm d ts next y j true is e p calm =
    let t = expr_target j d p.nodes ts y p.spelled is in
    let stays : changes_on (last_of ts) (ahead j) ≡ false = ap (changes_on (last_of ts)) e ∙ calm p.nodes t in
    if_true _ _ is (unchanged (pure (Do y)) d y (last_of ts) j stays)
acted_calm d ts next y j false is e p calm = if_false _ _ is refl

pub act_goes : (d : ℕ) (ts : List Token) (next : Option Token) (y : Expr) (j : Input) → ahead j ≡ next → IsWhole 200 d ts next y → ((k : ℕ) → IsTarget k ts y → changes_on (last_of ts) next ≡ false) → act d (before ts j) ≡ Ok (Do y, j)
act_goes d ts next y j e p calm = act_by d ts next y j (Do y) j e p (acted_calm d ts next y j (is_target ts) refl e p calm)

-- Parts of `for`

simple_by : (d k : ℕ) (us : List Token) (y : Expr) (i : Input) (x : Stmt) (j : Input) → IsTarget k us y → k ≤ 200 → goes_on (ahead i) ≡ false → change_or refused d y (last_of us) i ≡ Ok (x, j) → simple_change d (before us i) ≡ Ok (x, j)
unfolding simple_change
simple_by d k us y i x j p few stops h =
    let read : since (us ++ i.rest) i.rest ≡ us = since_at (us ++ i.rest) us i.rest refl in
    ok_then _ (target_goes k us y i p few (no_dot_on (ahead i) stops)) (ap (λ ts. change_or refused d y (last_of ts) i) read ∙ h)

simple_changes : (d : ℕ) → Complete (simple_change d) (IsChange 200 d)
simple_changes d ts next x j e (assign k us o vs y op z ts_is x_is p few is q) =
    let read = assigned_goes refused d y (last_of us) o op vs next z j e is q in
    let all = simple_by d k us y (before (o ∷ vs) j) (Assign y op z) j p few (assign_stops o op is) read in
    rw (ts_is, x_is) (ap (simple_change d) (before_both us (o ∷ vs) j) ∙ all)
simple_changes d ts next x j e (step k us o y up ts_is x_is p few is line) =
    let read = stepped_goes refused d y (last_of us) o up j is line in
    let all = simple_by d k us y (before (o ∷ []) j) (Step y up) j p few (step_stops o up is) read in
    rw (ts_is, x_is) (ap (simple_change d) (before_both us (o ∷ []) j) ∙ all)

simple_local_goes : (d : ℕ) (t p o : Token) (us : List Token) (n : List ℕ) (y : Expr) (next : Option Token) (j : Input) → ahead j ≡ next → name_of (Some p) ≡ Some n → IsMark o Equal → IsWhole 200 d us next y → simple_local d (before (t ∷ p ∷ o ∷ us) j) ≡ Ok (Local AsVar n (Some y), j)
unfolding simple_local
simple_local_goes d t p o us n y next j e name_is equal q =
    ok_then _ (name_before n p (o ∷ us) j name_is) (ok_then _ (expect_before Equal o us j equal) (ok_then _ (whole_goes d us next y j e q) refl))

pub simple_goes : (d : ℕ) → Complete (simple d) (IsSimple 200 d)
unfolding simple
simple_goes d ts next x j e (simple_set t p o us n y ts_is x_is word_is name_is equal q) = rw (ts_is, x_is) (if_true _ _ word_is (simple_local_goes d t p o us n y next j e name_is equal q))
simple_goes d ts next x j e (simple_changed p) =
    let b = change_begins_name p in
    let other : is_word ww.Var (ahead (before ts j)) ≡ false = ap (is_word ww.Var) (head_begins b j.rest ∙ ap head b.text) ∙ operand_no_var b.token b.begins in
    if_false _ _ other (simple_changes d ts next x j e p)

pub simple_before_goes : (m : Mark) (d : ℕ) (ts : List Token) (next : Option Token) (x : Option Stmt) (j : Input) → is_mark m next ≡ true → ahead j ≡ next → IsMaybeSimple 200 d ts next x → simple_before m d (before ts j) ≡ Ok (x, j)
unfolding simple_before
simple_before_goes m d ts next x j is e (IsMaybeSimple.none ts_is x_is) = rw (ts_is, x_is) (if_true _ _ (ap (is_mark m) e ∙ is) refl)
simple_before_goes m d ts next x j is e (IsMaybeSimple.some y x_is p) =
    let b = simple_begins p in
    let other : is_mark m (ahead (before ts j)) ≡ false = ap (is_mark m) (head_begins b j.rest ∙ ap head b.text) ∙ simple_no_mark m b.token b.begins in
    rw x_is (if_false _ _ other (ok_then _ (simple_goes d ts next y j e p) refl))

pub test_goes : (d : ℕ) (ts : List Token) (next : Option Token) (x : Option Expr) (j : Input) → is_mark Semicolon next ≡ true → ahead j ≡ next → IsMaybeWhole 200 d ts next x → test d (before ts j) ≡ Ok (x, j)
unfolding test
test_goes d ts next x j is e (IsMaybeWhole.none ts_is x_is) = rw (ts_is, x_is) (if_true _ _ (ap (is_mark Semicolon) e ∙ is) refl)
test_goes d ts next x j is e (IsMaybeWhole.some y x_is p) =
    let b = whole_begins p in
    let other : is_mark Semicolon (ahead (before ts j)) ≡ false = ap (is_mark Semicolon) (head_begins b j.rest ∙ ap head b.text) ∙ expr_no_semicolon b.token b.begins in
    rw x_is (if_false _ _ other (ok_then _ (whole_goes d ts next y j e p) refl))

-- Conditions

pub condition_goes : (d : ℕ) {ts : List Token} {x : Expr} → IsCondition 200 d ts x → (j : Input) → condition d (before ts j) ≡ Ok (x, j)
unfolding condition
condition_goes d {x = x} (parens o us z ts_is open_is p close_is) j =
    let read : whole d (before (us ++ z ∷ []) j) ≡ Ok (x, before (z ∷ []) j) = ap (whole d) (before_both us (z ∷ []) j) ∙ whole_goes d us (Some z) x (before (z ∷ []) j) refl p in
    rw ts_is (ok_then _ (expect_before OpenParen o (us ++ z ∷ []) j open_is) (ok_then _ read (ok_then _ (expect_before CloseParen z [] j close_is) refl)))
