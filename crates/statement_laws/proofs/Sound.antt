-- What is read as a statement is spelled by the productions, level by level.
use Rattle.std.proofs.Common.{◌≡◌, ℕ, zero, suc, inl, inr, true, List, [], ◌∷◌, ◌++◌, Option, Some, None, Result, Ok, refl, sym, ap, subst, ◌∙◌, arith, append_assoc}
use Rattle.qml_ast.specs.declared.expr.Expr.{Expr}
use Rattle.qml_ast.specs.declared.fault.DocFault.{DocFault}
use Rattle.qml_ast.specs.declared.stmt.LocalWord.{LocalWord}
use Rattle.qml_ast.specs.declared.stmt.Stmt.{Stmt}
use Rattle.qml_ast.specs.declared.stmt.Stmt.TheVariants.{If, While, For}
use Rattle.qml_grammar.specs.Ends.{ended}
use Rattle.qml_grammar.specs.Inputs.{Input, Parser, ahead, after, too_deep, expect}
use Rattle.qml_grammar.specs.Lexemes.{Token, is_mark, is_word, local_word_of}
use Rattle.qml_grammar.specs.StatementGrammar.{IsWord, IsShort, IsMaybeSimple, IsMaybeWhole, IsCondition, AreParts, parts, IsStmt, short, block as a_block, empty, when, when_else, loop, count, braces as a_braces, AreStmts}
use Rattle.qml_grammar.specs.Statements.{local, leave, act, simple_before, test, Bodies, begins_statement, begun, block_statement, empty_statement, condition, otherwise, choice, while_statement, for_body, for_step, for_test, for_statement, by_word, statement_in, one_more, goes_on_inside, statements, braces, bodies, statement}
use Rattle.qml_grammar.specs.declared.mark.Mark.TheVariants.{OpenBrace, OpenParen, CloseParen, Semicolon}
use Rattle.qml_grammar.specs.declared.word.Word.TheVariants as ww
use Rattle.grammar_laws.proofs.First.{Begins}
use Rattle.grammar_laws.proofs.Tools.{Taken, bind_ok, if_ok, ahead_some, expected, way_token, way_then, same_value, same_input}
use Rattle.statement_laws.specs.Laws.{Covers, IsBlockBefore}
use Rattle.statement_laws.proofs.Ends.{IsEnded, ended_covers}
use Rattle.statement_laws.proofs.Firsts.{stmt_begins_inside}
use Rattle.statement_laws.proofs.Loops.{Items, no_item, an_item, Single, one_item, Added, added_to, Closed, until_brace_closed}
use Rattle.statement_laws.proofs.SoundParts.{IsConditionBefore, condition_covers, simple_before_covers, test_covers, local_covers, leave_covers, act_covers}
use Rattle.statement_laws.proofs.Ways.{ahead_follow, Sound, SoundAt, covers_to, covers_as, covers_behind}

-- a level was left
pub record Deeper {A : Type 0} (Spells : ℕ → List Token → Option Token → A → Type 0) (d : ℕ) (i j : Input) (x : A) : Type 0 where
  pub less : ℕ
  pub one_less : d ≡ suc less
  pub covers : Covers (Spells less) i j x

one_level : (c d : ℕ) → suc d ≡ suc c → d ≡ c
one_level c d e = omega arith

-- what stands one level further in, at the level that is known
pub at_level : {A : Type 0} {Spells : ℕ → List Token → Option Token → A → Type 0} {d : ℕ} {i j : Input} {x : A} (c : ℕ) → d ≡ suc c → Deeper Spells d i j x → Covers (Spells c) i j x
at_level {Spells = Spells} {i = i} {j = j} {x = x} c e deep = subst (λ n. Covers (Spells n) i j x) (one_level c deep.less (sym deep.one_less ∙ e)) deep.covers

-- the readings one level further in are right
pub record SoundInside (d : ℕ) (v : Bodies) : Type 0 where
  pub nested : (i : Input) (x : Stmt) (j : Input) → v.nested i ≡ Ok (x, j) → Deeper (IsStmt 200) d i j x
  pub block : (i : Input) (xs : List Stmt) (j : Input) → is_mark OpenBrace (ahead i) ≡ true → v.block i ≡ Ok (xs, j) → Covers (IsBlockBefore d) i j xs

-- Statements with an end

stmt_ended : {d : ℕ} (ts : List Token) (next : Option Token) {x : Stmt} → IsEnded (IsShort 200 d) ts next x → IsStmt 200 d ts next x
stmt_ended ts next e = short e.text e.end e.both e.spelled e.ends

short_covers : (d : ℕ) (p : Parser Stmt) (i : Input) → SoundAt p (IsShort 200 d) i → SoundAt (ended p) (IsStmt 200 d) i
short_covers d p i sound x j h = covers_as (λ ts next e. stmt_ended ts next e) (ended_covers p (IsShort 200 d) i sound x j h)

-- Texts in a row

row : (us vs ws : List Token) (t : Token) → us ++ (vs ++ t ∷ ws) ≡ us ++ vs ++ t ∷ ws
row us vs ws t = sym (append_assoc us vs (t ∷ ws))

-- Statements in a row

pub are_stmts : {d : ℕ} {ts : List Token} {next : Option Token} {xs : List Stmt} → Items (Single (IsStmt 200 d)) ts next xs → AreStmts 200 d ts next xs
are_stmts (no_item ts_is xs_is) = AreStmts.none ts_is xs_is
are_stmts (an_item us vs ys zs ts_is xs_is p ps) = AreStmts.more us vs p.value zs ts_is (xs_is ∙ ap (λ ws. ws ++ zs) p.alone) p.is (are_stmts ps)

pub stmts_begin : {d : ℕ} (ts : List Token) (next : Option Token) (xs : List Stmt) → Single (IsStmt 200 d) ts next xs → Begins goes_on_inside ts
stmts_begin ts next xs p = stmt_begins_inside p.is

module _ (d : ℕ) (v : Bodies) (inside : SoundInside d v) where
  -- `if`

  -- what an `if` with this condition becomes by what stands behind the condition
  abbrev IsChoiceOf : List Token → List Token → Option Token → Stmt → Type 0
  IsChoiceOf ts us next x = IsStmt 200 d (ts ++ us) next x

  else_covers : (t : Token) (us : List Token) (x : Expr) (k i : Input) (y z : Stmt) (j : Input) → IsWord t ww.If → IsCondition 200 d us x → Deeper (IsStmt 200) d k i y → Taken (is_word ww.Else) i (after i) → Deeper (IsStmt 200) d (after i) j z → Covers (IsChoiceOf (t ∷ us)) k j (If x y (Some z))
  else_covers t us x k i y z j word_is p first o second =
      let a = first.covers in
      let b = at_level first.less first.one_less second in
      let then_it : IsStmt 200 first.less a.text (Some o.token) y = subst (λ n. IsStmt 200 first.less a.text n y) (ahead_follow o.way) a.spelled in
      record {
        text = a.text ++ o.token ∷ b.text;
        way = way_then a.way (way_then o.way b.way);
        spelled = when_else first.less t us a.text o.token b.text x y z first.one_less (row (t ∷ us) a.text b.text o.token) refl word_is p then_it o.is b.spelled;
      }

  otherwise_covers : (t : Token) (us : List Token) (x : Expr) (k i : Input) (y z : Stmt) (j : Input) → IsWord t ww.If → IsCondition 200 d us x → Deeper (IsStmt 200) d k i y → otherwise v x y i ≡ Ok (z, j) → Covers (IsChoiceOf (t ∷ us)) k j z
  unfolding otherwise
  otherwise_covers t us x k i y z j word_is p first h = elim (if_ok (is_word ww.Else (ahead i)) _ _ _ h) [
    | inl a ↦ (
        let o = ahead_some (is_word ww.Else) refl i a.0 in
        let taken : Taken (is_word ww.Else) i (after i) = record { token = o.token; way = way_token o.token o.rest; is = o.is } in
        let b = bind_ok (v.nested (after i)) _ _ a.1 in
        covers_to (else_covers t us x k i y b.value b.at word_is p first taken (inside.nested (after i) b.value b.at b.first)) b.onward)
    | inr a ↦ (
        let c = first.covers in
        covers_to (record { text = c.text; way = c.way; spelled = when first.less t us c.text x y first.one_less refl refl word_is p c.spelled a.0 }) a.1)
  ]

  choice_covers : (i : Input) → is_word ww.If (ahead i) ≡ true → SoundAt (choice d v) (IsStmt 200 d) i
  unfolding choice
  choice_covers i e x j h =
      let t = ahead_some (is_word ww.If) refl i e in
      let a = bind_ok (condition d (after i)) _ _ h in
      let c = condition_covers d (after i) a.value a.at a.first in
      let b = bind_ok (v.nested a.at) _ _ a.onward in
      covers_behind (way_then (way_token t.token t.rest) c.way) (otherwise_covers t.token c.text a.value a.at b.at b.value x j t.is c.spelled (inside.nested a.at b.value b.at b.first) b.onward)

  -- `while`

  while_by : {i k j : Input} {x : Expr} {y : Stmt} (t : Token) → i.rest ≡ t ∷ (after i).rest → IsWord t ww.While → Covers (IsConditionBefore d) (after i) k x → Deeper (IsStmt 200) d k j y → Covers (IsStmt 200 d) i j (While x y)
  while_by {x = x} {y = y} t rest word_is c deep =
      let a = deep.covers in
      record {
        text = t ∷ c.text ++ a.text;
        way = way_then (way_then (way_token t rest) c.way) a.way;
        spelled = loop deep.less t c.text a.text x y deep.one_less refl refl word_is c.spelled a.spelled;
      }

  while_covers : (i : Input) → is_word ww.While (ahead i) ≡ true → SoundAt (while_statement d v) (IsStmt 200 d) i
  unfolding while_statement
  while_covers i e x j h =
      let t = ahead_some (is_word ww.While) refl i e in
      let a = bind_ok (condition d (after i)) _ _ h in
      let c = condition_covers d (after i) a.value a.at a.first in
      let b = bind_ok (v.nested a.at) _ _ a.onward in
      covers_to (while_by t.token t.rest t.is c (inside.nested a.at b.value b.at b.first)) b.onward

  -- `for`

  -- the step, `)` and what is done over and over
  record ForBody (a : Option Stmt) (y : Option Expr) (b : Option Stmt) (i j : Input) (x : Stmt) : Type 0 where
    at : Input
    value : Stmt
    close : Taken (is_mark CloseParen) i at
    deep : Deeper (IsStmt 200) d at j value
    same : x ≡ For a y b value

  record ForStep (a : Option Stmt) (y : Option Expr) (i j : Input) (x : Stmt) : Type 0 where
    at : Input
    to : Input
    value : Option Stmt
    semi : Taken (is_mark Semicolon) i at
    part : Covers (IsMaybeSimple 200 d) at to value
    body : ForBody a y value to j x

  record ForTest (a : Option Stmt) (i j : Input) (x : Stmt) : Type 0 where
    at : Input
    to : Input
    value : Option Expr
    semi : Taken (is_mark Semicolon) i at
    part : Covers (IsMaybeWhole 200 d) at to value
    step : ForStep a value to j x

  body_reads : (a : Option Stmt) (y : Option Expr) (b : Option Stmt) (i : Input) (x : Stmt) (j : Input) → for_body v a y b i ≡ Ok (x, j) → ForBody a y b i j x
  unfolding for_body
  body_reads a y b i x j h =
      let c = bind_ok (expect CloseParen i) _ _ h in
      let z = bind_ok (v.nested c.at) _ _ c.onward in
      record {
        at = c.at;
        value = z.value;
        close = expected CloseParen i c.at c.value c.first;
        deep = subst (λ k. Deeper (IsStmt 200) d c.at k z.value) (same_input (For a y b z.value) x z.at j z.onward) (inside.nested c.at z.value z.at z.first);
        same = sym (same_value (For a y b z.value) x z.at j z.onward);
      }

  step_reads : (a : Option Stmt) (y : Option Expr) (i : Input) (x : Stmt) (j : Input) → for_step d v a y i ≡ Ok (x, j) → ForStep a y i j x
  unfolding for_step
  step_reads a y i x j h =
      let s = bind_ok (expect Semicolon i) _ _ h in
      let b = bind_ok (simple_before CloseParen d s.at) _ _ s.onward in
      record {
        at = s.at;
        to = b.at;
        value = b.value;
        semi = expected Semicolon i s.at s.value s.first;
        part = simple_before_covers CloseParen d s.at b.value b.at b.first;
        body = body_reads a y b.value b.at x j b.onward;
      }

  test_reads : (a : Option Stmt) (i : Input) (x : Stmt) (j : Input) → for_test d v a i ≡ Ok (x, j) → ForTest a i j x
  unfolding for_test
  test_reads a i x j h =
      let s = bind_ok (expect Semicolon i) _ _ h in
      let y = bind_ok (test d s.at) _ _ s.onward in
      record {
        at = s.at;
        to = y.at;
        value = y.value;
        semi = expected Semicolon i s.at s.value s.first;
        part = test_covers d s.at y.value y.at y.first;
        step = step_reads a y.value y.at x j y.onward;
      }

  abbrev ArePartsBefore : Option Stmt → Option Expr → Option Stmt → List Token → Option Token → Unit {0} → Type 0
  ArePartsBefore x y z ts next u = AreParts 200 d ts x y z

  parts_by : {i j k l m n o p : Input} {x : Option Stmt} {y : Option Expr} {z : Option Stmt} → Taken (is_mark OpenParen) i j → Covers (IsMaybeSimple 200 d) j k x → Taken (is_mark Semicolon) k l → Covers (IsMaybeWhole 200 d) l m y → Taken (is_mark Semicolon) m n → Covers (IsMaybeSimple 200 d) n o z → Taken (is_mark CloseParen) o p → Covers (ArePartsBefore x y z) i p tt
  parts_by {x = x} {y = y} {z = z} a us b vs c ws e =
      let first : IsMaybeSimple 200 d us.text (Some b.token) x = subst (λ n. IsMaybeSimple 200 d us.text n x) (ahead_follow b.way) us.spelled in
      let second : IsMaybeWhole 200 d vs.text (Some c.token) y = subst (λ n. IsMaybeWhole 200 d vs.text n y) (ahead_follow c.way) vs.spelled in
      let third : IsMaybeSimple 200 d ws.text (Some e.token) z = subst (λ n. IsMaybeSimple 200 d ws.text n z) (ahead_follow e.way) ws.spelled in
      record {
        text = a.token ∷ us.text ++ b.token ∷ vs.text ++ c.token ∷ ws.text ++ e.token ∷ [];
        way = way_then (way_then (way_then (way_then a.way us.way) (way_then b.way vs.way)) (way_then c.way ws.way)) e.way;
        spelled = parts a.token us.text b.token vs.text c.token ws.text e.token refl a.is first b.is second c.is third e.is;
      }

  for_by : {i k j : Input} {x : Stmt} {a : Option Stmt} {y : Option Expr} {b : Option Stmt} {z : Stmt} (t : Token) → i.rest ≡ t ∷ (after i).rest → IsWord t ww.For → Covers (ArePartsBefore a y b) (after i) k tt → Deeper (IsStmt 200) d k j z → x ≡ For a y b z → Covers (IsStmt 200 d) i j x
  for_by {a = a} {y = y} {b = b} {z = z} t rest word_is c deep same =
      let e = deep.covers in
      record {
        text = t ∷ c.text ++ e.text;
        way = way_then (way_then (way_token t rest) c.way) e.way;
        spelled = count deep.less t c.text e.text a y b z deep.one_less refl same word_is c.spelled e.spelled;
      }

  for_from : {i k l j : Input} {x : Stmt} {a : Option Stmt} (t : Token) → i.rest ≡ t ∷ (after i).rest → IsWord t ww.For → Taken (is_mark OpenParen) (after i) k → Covers (IsMaybeSimple 200 d) k l a → ForTest a l j x → Covers (IsStmt 200 d) i j x
  for_from t rest word_is open_it first f =
      let s = f.step in
      let b = s.body in
      for_by t rest word_is (parts_by open_it first f.semi f.part s.semi s.part b.close) b.deep b.same

  for_covers : (i : Input) → is_word ww.For (ahead i) ≡ true → SoundAt (for_statement d v) (IsStmt 200 d) i
  unfolding for_statement
  for_covers i e x j h =
      let t = ahead_some (is_word ww.For) refl i e in
      let o = bind_ok (expect OpenParen (after i)) _ _ h in
      let a = bind_ok (simple_before Semicolon d o.at) _ _ o.onward in
      for_from t.token t.rest t.is (expected OpenParen (after i) o.at o.value o.first) (simple_before_covers Semicolon d o.at a.value a.at a.first) (test_reads a.value a.at x j a.onward)

  -- All statements

  block_covers : (i : Input) → is_mark OpenBrace (ahead i) ≡ true → SoundAt (block_statement v) (IsStmt 200 d) i
  unfolding block_statement
  block_covers i e x j h =
      let b = bind_ok (v.block i) _ _ h in
      covers_to (covers_as (λ ts next q. a_block b.value refl q) (inside.block i b.value b.at e b.first)) b.onward

  empty_covers : (i : Input) → is_mark Semicolon (ahead i) ≡ true → SoundAt empty_statement (IsStmt 200 d) i
  unfolding empty_statement
  empty_covers i e x j h =
      let t = ahead_some (is_mark Semicolon) refl i e in
      covers_to (record { text = t.token ∷ []; way = way_token t.token t.rest; spelled = empty t.token refl refl t.is }) h

  by_word_covers : Sound (by_word d v) (IsStmt 200 d)
  unfolding by_word
  by_word_covers i x j h = elim (if_ok (is_word ww.If (ahead i)) _ _ _ h) [
    | inl a ↦ choice_covers i a.0 x j a.1
    | inr a ↦ elim (if_ok (is_word ww.While (ahead i)) _ _ _ a.1) [
      | inl b ↦ while_covers i b.0 x j b.1
      | inr b ↦ elim (if_ok (is_word ww.For (ahead i)) _ _ _ b.1) [
        | inl c ↦ for_covers i c.0 x j c.1
        | inr c ↦ elim (if_ok (is_word ww.Return (ahead i)) _ _ _ c.1) [
          | inl e ↦ short_covers d (leave d) i (leave_covers d i e.0) x j e.1
          | inr e ↦ short_covers d (act d) i (act_covers d i) x j e.1
        ]
      ]
    ]
  ]

  local_or_word_covers : (i : Input) (x : Stmt) (j : Input) (q : Option LocalWord) → local_word_of (ahead i) ≡ q → ◌≡◌ {A = Result (Stmt × Input) DocFault} (elim q [ Some w ↦ ended (local d w) i | None ↦ by_word d v i ]) (Ok (x, j)) → Covers (IsStmt 200 d) i j x
  local_or_word_covers i x j (Some w) e h = short_covers d (local d w) i (local_covers d w i e) x j h
  local_or_word_covers i x j None e h = by_word_covers i x j h

  pub statement_covers : Sound (statement_in d v) (IsStmt 200 d)
  unfolding statement_in
  statement_covers i x j h = elim (if_ok (is_mark OpenBrace (ahead i)) _ _ _ h) [
    | inl a ↦ block_covers i a.0 x j a.1
    | inr a ↦ elim (if_ok (is_mark Semicolon (ahead i)) _ _ _ a.1) [
      | inl b ↦ empty_covers i b.0 x j b.1
      | inr b ↦ local_or_word_covers i x j (local_word_of (ahead i)) refl b.1
    ]
  ]

  -- Blocks

  pub one_more_adds : (xs : List Stmt) (i : Input) (ys : List Stmt) (j : Input) → goes_on_inside (ahead i) ≡ true → one_more d v xs i ≡ Ok (ys, j) → Added (Single (IsStmt 200 d)) xs i ys j
  unfolding one_more
  one_more_adds xs i ys j t h =
      let b = bind_ok (statement_in d v i) _ _ h in
      added_to (record { values = b.value ∷ []; both = refl; covers = covers_as (λ ts next q. one_item q) (statement_covers i b.value b.at b.first) }) b.onward

  braces_by : {i j : Input} {xs : List Stmt} (o : Token) → i.rest ≡ o ∷ (after i).rest → is_mark OpenBrace (Some o) ≡ true → Closed (Single (IsStmt 200 d)) (after i) j xs → Covers (IsBlockBefore (suc d)) i j xs
  braces_by {xs = xs} o rest is c = record {
    text = o ∷ c.text ++ c.close ∷ [];
    way = way_then (way_token o rest) c.way;
    spelled = a_braces d o c.text c.close refl refl is (are_stmts c.items) c.closes;
  }

  pub braces_covers : (i : Input) → is_mark OpenBrace (ahead i) ≡ true → SoundAt (braces d v) (IsBlockBefore (suc d)) i
  unfolding braces statements
  braces_covers i e xs j h =
      let o = ahead_some (is_mark OpenBrace) refl i e in
      braces_by o.token o.rest o.is (until_brace_closed (Single (IsStmt 200 d)) (one_more d v) stmts_begin one_more_adds (after i) xs j h)

-- All levels

begun_covers : (p : Parser Stmt) (i : Input) (x : Stmt) (j : Input) → begun p i ≡ Ok (x, j) → p i ≡ Ok (x, j)
unfolding begun
begun_covers p i x j h = elim (if_ok (begins_statement (ahead i)) _ _ _ h) [
  | inl a ↦ a.1
  | inr a ↦ absurd (let e = a.1 in cc)
]

deep_stmt : (d : ℕ) (i : Input) (x : Stmt) (j : Input) → Covers (IsStmt 200 d) i j x → Deeper (IsStmt 200) (suc d) i j x
deep_stmt d i x j c = record { less = d; one_less = refl; covers = c }

pub sound : (d : ℕ) → SoundInside d (bodies d)
unfolding bodies
sound zero = record {
  nested = λ i x j h. absurd (let e = begun_covers too_deep i x j h in cc);
  block = λ i xs j t h. absurd cc;
}
sound (suc d) = record {
  nested = λ i x j h. deep_stmt d i x j (statement_covers d (bodies d) (sound d) i x j (begun_covers (statement_in d (bodies d)) i x j h));
  block = λ i xs j t h. braces_covers d (bodies d) (sound d) i t xs j h;
}

pub statement_sound : (d : ℕ) (i j : Input) (x : Stmt) → statement d i ≡ Ok (x, j) → Covers (IsStmt 200 d) i j x
unfolding statement
statement_sound d i j x h = statement_covers d (bodies d) (sound d) i x j h

pub block_sound : (d : ℕ) (i j : Input) (xs : List Stmt) → is_mark OpenBrace (ahead i) ≡ true → (bodies d).block i ≡ Ok (xs, j) → Covers (IsBlockBefore d) i j xs
block_sound d i j xs t h = (sound d).block i xs j t h
