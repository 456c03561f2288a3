-- Statements with a head and a statement inside, `if` and `while`: what stands before a fault can go on.
use Rattle.std.proofs.Common.{◌≡◌, ℕ, suc, ◌≤◌, inl, inr, true, List, [], ◌∷◌, ◌++◌, Option, Some, None, Err, refl, sym, ap, subst, arith, append_assoc}
use Rattle.qml_ast.specs.declared.expr.Expr.{Expr}
use Rattle.qml_ast.specs.declared.fault.DocFault.{DocFault}
use Rattle.qml_ast.specs.declared.stmt.Stmt.{Stmt}
use Rattle.qml_ast.specs.declared.stmt.Stmt.TheVariants.{Empty, If, While}
use Rattle.qml_grammar.specs.Inputs.{Input, ahead}
use Rattle.qml_grammar.specs.Lexemes.{Token, head, is_mark, is_word}
use Rattle.qml_grammar.specs.StatementGrammar.{IsWord, IsCondition, IsStmt, empty, when, when_else, loop, IsBlock, braces, AreStmts}
use Rattle.qml_grammar.specs.Statements.{Bodies, condition, otherwise, choice, while_statement}
use Rattle.qml_grammar.specs.declared.mark.Mark.TheVariants.{OpenBrace, CloseBrace, Semicolon}
use Rattle.qml_grammar.specs.declared.word.Word.TheVariants as ww
use Rattle.grammar_laws.proofs.Tools.{if_ok, ahead_some}
use Rattle.statement_laws.proofs.Sound.{Deeper, SoundInside}
use Rattle.statement_laws.proofs.SoundParts.{condition_covers}
use Rattle.prefix_laws.proofs.Going.{HaltsOn, Halts, halts_as, halts_behind, halts_then, halts_token, never_err, made_err, Completes, completes, Fills, fills, the_mark, mark_is}
use Rattle.prefix_laws.proofs.Moved.{Becomes, same, brace_no_else, moved_condition, moved_stmt}
use Rattle.prefix_laws.proofs.PartPrefixes.{Brace, condition_halts}

-- the tokens and others spell a statement before a `}`, with one level more
abbrev pub IsStmtPrefixFor : ℕ → List Token → Type 0
IsStmtPrefixFor d = Completes Brace (λ most. IsStmt most (suc d))

-- likewise of a statement inside another one, which has opened a level
abbrev pub IsInnerPrefix : ℕ → List Token → Type 0
IsInnerPrefix d = Completes Brace (λ most. IsStmt most d)

-- the tokens and others spell a block, with one level more
abbrev pub IsBlockPrefix : ℕ → List Token → Type 0
IsBlockPrefix d = Fills (λ most. IsBlock most (suc d))

-- the readings one level further in fail where what was taken can go on
pub record HaltsInside (d : ℕ) (v : Bodies) : Type 0 where
  pub nested : (i : Input) (e : DocFault) → v.nested i ≡ Err e → Halts (IsInnerPrefix d) i e
  pub block : (i : Input) (e : DocFault) → is_mark OpenBrace (ahead i) ≡ true → v.block i ≡ Err e → Halts (IsBlockPrefix d) i e

-- What is put in

some_stmt : {most d : ℕ} (next : Option Token) → IsStmt most d (the_mark Semicolon ∷ []) next Empty
some_stmt next = empty (the_mark Semicolon) refl refl (mark_is Semicolon)

pub some_inner : (d : ℕ) → IsInnerPrefix d []
some_inner d = completes (the_mark Semicolon ∷ []) 200 Empty (omega arith) refl (λ next b. some_stmt next)

pub some_block : (d : ℕ) → IsBlockPrefix d []
some_block d = fills (the_mark OpenBrace ∷ the_mark CloseBrace ∷ []) 200 [] (omega arith) refl (braces d (the_mark OpenBrace) [] (the_mark CloseBrace) refl refl (mark_is OpenBrace) (AreStmts.none refl refl) (mark_is CloseBrace))

-- what was read one level further in, with one level more
inner_moved : {d : ℕ} (most : ℕ) {i j : Input} {x : Stmt} (c : Deeper (IsStmt 200) d i j x) (next : Option Token) → 200 ≤ most → Becomes (ahead j) next → IsStmt most d (c.covers).text next x
inner_moved most {x = x} c next enough b = subst (λ n. IsStmt most n (c.covers).text next x) (sym c.one_less) (moved_stmt enough b (c.covers).spelled)

-- A head and a statement inside

module _ {A : Type 0} (d : ℕ) (Head : ℕ → List Token → A → Type 0) (t : Token) (make : A → Stmt → Stmt) (build : (most : ℕ) (us vs : List Token) (next : Option Token) (y : A) (z : Stmt) → Brace next → Head most us y → IsStmt most d vs next z → IsStmt most (suc d) ((t ∷ us) ++ vs) next (make y z)) where
  pub head_goes_on : (us : List Token) → Fills Head us → IsStmtPrefixFor d (t ∷ us)
  head_goes_on us w = completes (w.others ++ the_mark Semicolon ∷ []) w.most (make w.value Empty) w.enough (append_assoc (t ∷ us) w.others (the_mark Semicolon ∷ [])) (λ next b. build w.most (us ++ w.others) (the_mark Semicolon ∷ []) next w.value Empty b w.spelled (some_stmt next))

  pub inside_goes_on : (us : List Token) (y : A) → ((most : ℕ) → 200 ≤ most → Head most us y) → (vs : List Token) → IsInnerPrefix d vs → IsStmtPrefixFor d ((t ∷ us) ++ vs)
  inside_goes_on us y p vs w = completes w.others w.most (make y w.value) w.enough (sym (append_assoc (t ∷ us) vs w.others)) (λ next b. build w.most us (vs ++ w.others) next y w.value b (p w.most w.enough) (w.spelled next b))

module _ (d : ℕ) (v : Bodies) (inside : SoundInside d v) (halts : HaltsInside d v) where
  -- `while`

  while_build : (t : Token) → IsWord t ww.While → (most : ℕ) (us vs : List Token) (next : Option Token) (y : Expr) (z : Stmt) → Brace next → IsCondition most (suc d) us y → IsStmt most d vs next z → IsStmt most (suc d) ((t ∷ us) ++ vs) next (While y z)
  while_build t word_is most us vs next y z b p q = loop d t us vs y z refl refl refl word_is p q

  pub while_halts : (i : Input) (e : DocFault) → is_word ww.While (ahead i) ≡ true → while_statement d v i ≡ Err e → Halts (IsStmtPrefixFor d) i e
  unfolding while_statement
  while_halts i e s h =
      let t = ahead_some (is_word ww.While) refl i s in
      let build = while_build t.token t.is in
      halts_token _ i t.token t.rest (λ u k f to g. halts_then (condition d) _ k
      (λ f2 g2. halts_as (head_goes_on d (λ most. IsCondition most (suc d)) t.token While build) (condition_halts d k f2 g2))
      (λ y l f2 read g2.
      let c = condition_covers d k y l read in
      halts_behind c.way (halts_as (inside_goes_on d (λ most. IsCondition most (suc d)) t.token While build c.text y (λ most enough. moved_condition enough c.spelled)) (halts.nested l f2 (made_err v.nested (λ z. While y z) l f2 g2)))) f g) e h

  -- `if`

  abbrev when_made : Expr → Stmt → Stmt
  when_made y z = If y z None

  when_build : (t : Token) → IsWord t ww.If → (most : ℕ) (us vs : List Token) (next : Option Token) (y : Expr) (z : Stmt) → Brace next → IsCondition most (suc d) us y → IsStmt most d vs next z → IsStmt most (suc d) ((t ∷ us) ++ vs) next (If y z None)
  when_build t word_is most us vs next y z b p q = when d t us vs y z refl refl refl word_is p q (brace_no_else next b)

  module _ (t : Token) (us : List Token) (y : Expr) (word_is : IsWord t ww.If) (p : IsCondition 200 d us y) where
    else_goes_on : {i j : Input} {z : Stmt} (c : Deeper (IsStmt 200) d i j z) (o : Token) (ws : List Token) → ahead j ≡ Some o → IsWord o ww.Else → IsInnerPrefix d ws → IsStmtPrefixFor d ((((t ∷ us) ++ (c.covers).text) ++ o ∷ []) ++ ws)
    else_goes_on {z = z} c o ws e is w = completes w.others w.most (If y z (Some w.value)) w.enough (simp append_assoc refl)
        (λ next b. when_else d t us (c.covers).text o (ws ++ w.others) y z w.value refl refl refl word_is (moved_condition w.enough p) (inner_moved w.most c (Some o) w.enough (same e)) is (w.spelled next b))

    otherwise_halts : {i j : Input} {z : Stmt} (c : Deeper (IsStmt 200) d i j z) (e : DocFault) → otherwise v y z j ≡ Err e → HaltsOn (IsStmtPrefixFor d) ((t ∷ us) ++ (c.covers).text) j e
    unfolding otherwise
    otherwise_halts {j = j} {z = z} c e h = elim (if_ok (is_word ww.Else (ahead j)) _ _ _ h) [
      | inl a ↦ (
          let o = ahead_some (is_word ww.Else) refl j a.0 in
          halts_token _ j o.token o.rest (λ u k f to g. halts_as (λ ws w. else_goes_on c o.token ws (ap head o.rest) o.is w) (halts.nested k f (made_err v.nested (λ x. If y z (Some x)) k f g))) e a.1)
      | inr a ↦ absurd (never_err (If y z None) j e a.1)
    ]

  pub choice_halts : (i : Input) (e : DocFault) → is_word ww.If (ahead i) ≡ true → choice d v i ≡ Err e → Halts (IsStmtPrefixFor d) i e
  unfolding choice
  choice_halts i e s h =
      let t = ahead_some (is_word ww.If) refl i s in
      let build = when_build t.token t.is in
      halts_token _ i t.token t.rest (λ u k f to g. halts_then (condition d) _ k
      (λ f2 g2. halts_as (head_goes_on d (λ most. IsCondition most (suc d)) t.token when_made build) (condition_halts d k f2 g2))
      (λ y l f2 read g2.
      let c = condition_covers d k y l read in
      halts_behind c.way (halts_then v.nested _ l
      (λ f3 g3. halts_as (inside_goes_on d (λ most. IsCondition most (suc d)) t.token when_made build c.text y (λ most enough. moved_condition enough c.spelled)) (halts.nested l f3 g3))
      (λ z m f3 read2 g3. let a = inside.nested l z m read2 in halts_behind (a.covers).way (otherwise_halts t.token c.text y t.is c.spelled a f3 g3)) f2 g2)) f g) e h
