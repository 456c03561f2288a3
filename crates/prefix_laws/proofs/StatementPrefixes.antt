-- Statements and blocks: what stands before a fault can go on, level by level.
use Rattle.std.proofs.Common.{◌≡◌, ℕ, zero, suc, ◌⊎◌, inl, inr, true, List, [], ◌∷◌, ◌++◌, Option, Some, Ok, Err, refl, sym, ap, subst, arith, append_assoc}
use Rattle.std.proofs.lemmas.List.{append-nil}
use Rattle.qml_ast.specs.declared.fault.DocFault.{DocFault}
use Rattle.qml_ast.specs.declared.stmt.Stmt.{Stmt}
use Rattle.qml_ast.specs.declared.stmt.Stmt.TheVariants.{Block, Empty}
use Rattle.qml_grammar.specs.Ends.{ended}
use Rattle.qml_grammar.specs.ExpressionGrammar.{IsMark}
use Rattle.qml_grammar.specs.Inputs.{Input, Parser, ahead, after, place, too_deep, expect, while_next}
use Rattle.qml_grammar.specs.Lexemes.{Token, head, last_of, is_mark, is_word, local_word_of}
use Rattle.qml_grammar.specs.StatementGrammar.{nothing, IsShort, IsStmt, short, block as a_block, braces as a_braces, AreStmts}
use Rattle.qml_grammar.specs.Statements.{local, leave, act, Bodies, begins_statement, begun, block_statement, empty_statement, by_word, statement_in, one_more, goes_on_inside, statements, braces, bodies, statement}
use Rattle.qml_grammar.specs.declared.mark.Mark.TheVariants.{OpenBrace, CloseBrace, Semicolon}
use Rattle.qml_grammar.specs.declared.word.Word.TheVariants as ww
use Rattle.grammar_laws.specs.Faults.{IsFaultAt}
use Rattle.grammar_laws.specs.Laws.{Way}
use Rattle.grammar_laws.proofs.Local.{chosen, not_chosen, chosen_in}
use Rattle.grammar_laws.proofs.Tools.{bind_ok, if_ok, ahead_some, same_input}
use Rattle.grammar_laws.proofs.Viable.{operand_refused_once, too_deep_once}
use Rattle.statement_laws.proofs.Loops.{Single, while_lists}
use Rattle.statement_laws.proofs.Sound.{SoundInside, sound, statement_covers, stmts_begin, are_stmts, one_more_adds}
use Rattle.statement_laws.proofs.SoundParts.{local_covers, leave_covers, act_covers}
use Rattle.statement_laws.proofs.Ways.{SoundAt}
use Rattle.prefix_laws.specs.Prefixes.{FaultsBehind, IsStmtPrefix}
use Rattle.prefix_laws.proofs.ForPrefixes.{for_halts}
use Rattle.prefix_laws.proofs.Going.{Halts, halts_faults, halts_here, halts_as, halts_map, halts_by, halts_behind, halts_then, halts_token, expect_place, never_err, made_err, halts_ended, halts_while, Completes, completes, fills, the_mark, mark_is}
use Rattle.prefix_laws.proofs.Moved.{same, brace, brace_ends, brace_no_semicolon, moved_short, moved_stmt, moved_stmts}
use Rattle.prefix_laws.proofs.PartPrefixes.{Brace, IsShortPrefix, local_halts, leave_halts, act_halts}
use Rattle.prefix_laws.proofs.NestedPrefixes.{HaltsInside, some_inner, some_block, while_halts, choice_halts}
pub use Rattle.prefix_laws.proofs.NestedPrefixes.{IsStmtPrefixFor, IsBlockPrefix}
pub use Rattle.prefix_laws.proofs.WholePrefixes.{IsWholePrefix, whole_halts, empty_whole}

-- Statements with an end

ended_goes_on : (d : ℕ) (us : List Token) → IsShortPrefix d us → IsStmtPrefixFor d us
ended_goes_on d us w = completes w.others w.most w.value w.enough refl (λ next b. short (us ++ w.others) [] (sym (append-nil (us ++ w.others))) (w.spelled next b) (nothing refl (brace_no_semicolon next b) (brace_ends (last_of (us ++ w.others)) next b)))

short_stays : (d : ℕ) (ts : List Token) (next : Option Token) (x : Stmt) → IsShort 200 d ts next x → IsShortPrefix d ts
short_stays d ts next x p = completes [] 200 x (omega arith) (sym (append-nil ts)) (λ there b. moved_short (omega arith) (brace b) p)

short_halts : (d : ℕ) (p : Parser Stmt) (i : Input) → SoundAt p (IsShort 200 d) i → ((e : DocFault) → p i ≡ Err e → Halts (IsShortPrefix d) i e) → (e : DocFault) → ended p i ≡ Err e → Halts (IsStmtPrefixFor d) i e
short_halts d p i is_sound fails = halts_ended p i
    (λ e g. halts_as (λ us w. ended_goes_on d us w) (fails e g))
    (λ x k g. let c = is_sound x k g in record { nodes = 0; text = c.text; way = c.way; viable = ended_goes_on d c.text (short_stays d c.text (ahead k) x c.spelled) })

-- Statements in a row

-- the tokens and others spell statements before a `}`
abbrev AreStmtsPrefix : ℕ → List Token → Type 0
AreStmtsPrefix d = Completes Brace (λ most. AreStmts most (suc d))

one_goes_on : (d : ℕ) (us : List Token) → IsStmtPrefixFor d us → AreStmtsPrefix d us
one_goes_on d us w = completes w.others w.most (w.value ∷ []) w.enough refl (λ next b. AreStmts.more (us ++ w.others) [] w.value [] (sym (append-nil (us ++ w.others))) refl (w.spelled next b) (AreStmts.none refl refl))

-- behind a statement, whose next token is the first one of the others, if there is one
more_go_on : (d : ℕ) (ts us : List Token) (x : Stmt) (k : Input) (n : ℕ) (j : Input) → IsStmt 200 d ts (ahead k) x → Way k j n us → AreStmtsPrefix d us → AreStmtsPrefix d (ts ++ us)
more_go_on d ts [] x k n j p w g = completes [] 200 (x ∷ []) (omega arith) (sym (append-nil (ts ++ []))) (λ next b. AreStmts.more ts [] x [] refl refl (moved_stmt (omega arith) (brace b) p) (AreStmts.none refl refl))
more_go_on d ts (u ∷ us) x k n j p w g = completes g.others g.most (x ∷ g.value) g.enough (sym (append_assoc ts (u ∷ us) g.others)) (λ next b. AreStmts.more ts (u ∷ us ++ g.others) x g.value refl refl (moved_stmt g.enough (same (ap head w.rest)) p) (g.spelled next b))

block_goes_on : (d : ℕ) (o : Token) (us : List Token) → IsMark o OpenBrace → AreStmtsPrefix d us → IsBlockPrefix (suc d) (o ∷ us)
block_goes_on d o us is w = fills (w.others ++ the_mark CloseBrace ∷ []) w.most w.value w.enough (append_assoc (o ∷ us) w.others (the_mark CloseBrace ∷ [])) (a_braces (suc d) o (us ++ w.others) (the_mark CloseBrace) refl refl is (w.spelled (Some (the_mark CloseBrace)) (mark_is CloseBrace)) (mark_is CloseBrace))

block_closes : (d : ℕ) (o : Token) (ts : List Token) (next : Option Token) (xs : List Stmt) → IsMark o OpenBrace → AreStmts 200 d ts next xs → IsBlockPrefix (suc d) (o ∷ ts)
block_closes d o ts next xs is p = block_goes_on d o ts is (completes [] 200 xs (omega arith) (sym (append-nil ts)) (λ there b. moved_stmts (omega arith) (brace b) p))

module _ (d : ℕ) (v : Bodies) (inside : SoundInside d v) (halts : HaltsInside d v) where
  -- All statements

  block_halts : (i : Input) (e : DocFault) → is_mark OpenBrace (ahead i) ≡ true → block_statement v i ≡ Err e → Halts (IsStmtPrefixFor d) i e
  unfolding block_statement
  block_halts i e t h = halts_as (λ us w. completes w.others w.most (Block w.value) w.enough refl (λ next b. a_block w.value refl w.spelled)) (halts.block i e t (made_err v.block (λ xs. Block xs) i e h))

  by_word_halts : (i : Input) (e : DocFault) → by_word d v i ≡ Err e → Halts (IsStmtPrefixFor d) i e
  unfolding by_word
  by_word_halts i e h = elim (if_ok (is_word ww.If (ahead i)) _ _ _ h) [
    | inl a ↦ choice_halts d v inside halts i e a.0 a.1
    | inr a ↦ elim (if_ok (is_word ww.While (ahead i)) _ _ _ a.1) [
      | inl b ↦ while_halts d v inside halts i e b.0 b.1
      | inr b ↦ elim (if_ok (is_word ww.For (ahead i)) _ _ _ b.1) [
        | inl c ↦ for_halts d v halts i e c.0 c.1
        | inr c ↦ elim (if_ok (is_word ww.Return (ahead i)) _ _ _ c.1) [
          | inl f ↦ short_halts d (leave d) i (leave_covers d i f.0) (λ g k. leave_halts d i g f.0 k) e f.1
          | inr f ↦ short_halts d (act d) i (act_covers d i) (λ g k. act_halts d i g k) e f.1
        ]
      ]
    ]
  ]

  pub statement_halts : (i : Input) (e : DocFault) → statement_in d v i ≡ Err e → Halts (IsStmtPrefixFor d) i e
  unfolding statement_in empty_statement
  statement_halts i e h = elim (if_ok (is_mark OpenBrace (ahead i)) _ _ _ h) [
    | inl a ↦ block_halts i e a.0 a.1
    | inr a ↦ elim (if_ok (is_mark Semicolon (ahead i)) _ _ _ a.1) [
      | inl b ↦ absurd (never_err Empty (after i) e b.1)
      | inr b ↦ elim (chosen_in (local_word_of (ahead i)) _ _ _ b.1) [
        | chosen w o g ↦ short_halts d (local d w) i (local_covers d w i o) (λ f k. local_halts d w i f o k) e g
        | not_chosen o g ↦ by_word_halts i e g
      ]
    ]
  ]

  -- Blocks

  one_more_halts : (xs : List Stmt) (i : Input) (e : DocFault) → goes_on_inside (ahead i) ≡ true → one_more d v xs i ≡ Err e → Halts (AreStmtsPrefix d) i e
  unfolding one_more
  one_more_halts xs i e t h = halts_as (λ us w. one_goes_on d us w) (statement_halts i e (made_err (statement_in d v) (λ x. xs ++ x ∷ []) i e h))

  later_halts : (xs : List Stmt) (i : Input) (ys : List Stmt) (k : Input) (e : DocFault) → goes_on_inside (ahead i) ≡ true → one_more d v xs i ≡ Ok (ys, k) → Halts (AreStmtsPrefix d) k e → Halts (AreStmtsPrefix d) i e
  unfolding one_more
  later_halts xs i ys k e t h later =
      let b = bind_ok (statement_in d v i) _ _ h in
      let c = statement_covers d v inside i b.value b.at b.first in
      let there : Halts (AreStmtsPrefix d) b.at e = subst (λ l. Halts (AreStmtsPrefix d) l e) (sym (same_input (xs ++ b.value ∷ []) ys b.at k b.onward)) later in
      halts_behind c.way (halts_by (λ us n j w g. more_go_on d c.text us b.value b.at n j c.spelled w g) there)

  braces_halts : (i : Input) (e : DocFault) → is_mark OpenBrace (ahead i) ≡ true → braces d v i ≡ Err e → Halts (IsBlockPrefix (suc d)) i e
  unfolding braces statements
  braces_halts i e t h =
      let o = ahead_some (is_mark OpenBrace) refl i t in
      halts_token _ i o.token o.rest (λ u k f to g. halts_then (while_next goes_on_inside (one_more d v) []) _ k
      (λ f2 g2. halts_as (λ us w. block_goes_on d o.token us o.is w) (halts_while (AreStmtsPrefix d) goes_on_inside (one_more d v) one_more_halts later_halts [] k f2 g2))
      (λ xs l f2 read g2.
      let c = while_lists (Single (IsStmt 200 d)) goes_on_inside (one_more d v) stmts_begin refl (one_more_adds d v inside) [] k xs l read in
      let list = c.covers in
      halts_behind list.way (halts_here (expect_place CloseBrace l f2 (made_err (expect CloseBrace) (λ z. xs) l f2 g2)) (block_closes d o.token list.text (ahead l) c.values o.is (are_stmts list.spelled)))) f g) e h

-- All levels

begun_fails : (p : Parser Stmt) (i : Input) (e : DocFault) → begun p i ≡ Err e → (p i ≡ Err e) ⊎ IsFaultAt e (place i)
unfolding begun
begun_fails p i e h = elim (if_ok (begins_statement (ahead i)) _ _ _ h) [
  | inl a ↦ inl a.1
  | inr a ↦ inr (operand_refused_once {A = Stmt} i e a.1).place
]

halts_inside : (d : ℕ) → HaltsInside d (bodies d)
unfolding bodies
halts_inside zero = record {
  nested = λ i e h. elim (begun_fails too_deep i e h) [ inl g ↦ halts_here (too_deep_once {A = Stmt} i e g).place (some_inner 0) | inr at ↦ halts_here at (some_inner 0) ];
  block = λ i e t h. halts_here (too_deep_once {A = List Stmt} i e h).place (some_block 0);
}
halts_inside (suc d) = record {
  nested = λ i e h. elim (begun_fails (statement_in d (bodies d)) i e h) [ inl g ↦ statement_halts d (bodies d) (sound d) (halts_inside d) i e g | inr at ↦ halts_here at (some_inner (suc d)) ];
  block = λ i e t h. braces_halts d (bodies d) (sound d) (halts_inside d) i e t h;
}

pub any_statement_halts : (d : ℕ) (i : Input) (e : DocFault) → statement d i ≡ Err e → Halts (IsStmtPrefixFor d) i e
unfolding statement
any_statement_halts d i e h = statement_halts d (bodies d) (sound d) (halts_inside d) i e h

pub any_block_halts : (d : ℕ) (i : Input) (e : DocFault) → is_mark OpenBrace (ahead i) ≡ true → (bodies d).block i ≡ Err e → Halts (IsBlockPrefix d) i e
any_block_halts d i e t h = (halts_inside d).block i e t h

-- as it is told
pub statement_prefix : (d : ℕ) (i : Input) (e : DocFault) → statement d i ≡ Err e → FaultsBehind (IsStmtPrefix d) i e
statement_prefix d i e h = halts_faults (halts_map (λ us w. record { others = w.others; most = w.most; value = w.value; spelled = w.spelled }) (any_statement_halts d i e h))
