-- `for`: what stands before a fault can go on.
use Rattle.std.proofs.Common.{◌≡◌, ℕ, suc, ◌≤◌, true, List, [], ◌∷◌, ◌++◌, Option, Some, None, Err, refl, sym, ap, ◌∙◌, arith, append_assoc}
use Rattle.std.proofs.lemmas.List.{append-nil}
use Rattle.qml_ast.specs.declared.expr.Expr.{Expr}
use Rattle.qml_ast.specs.declared.fault.DocFault.{DocFault}
use Rattle.qml_ast.specs.declared.stmt.Stmt.{Stmt}
use Rattle.qml_ast.specs.declared.stmt.Stmt.TheVariants.{For}
use Rattle.qml_grammar.specs.ExpressionGrammar.{IsMark}
use Rattle.qml_grammar.specs.Inputs.{Input, ahead, expect}
use Rattle.qml_grammar.specs.Lexemes.{Token, is_word}
use Rattle.qml_grammar.specs.StatementGrammar.{IsWord, IsMaybeSimple, IsMaybeWhole, AreParts, parts, IsStmt, count}
use Rattle.qml_grammar.specs.Statements.{Bodies, simple_before, test, for_body, for_step, for_test, for_statement}
use Rattle.qml_grammar.specs.declared.mark.Mark.TheVariants.{OpenParen, CloseParen, Semicolon}
use Rattle.qml_grammar.specs.declared.word.Word.TheVariants as ww
use Rattle.grammar_laws.proofs.Local.{followed}
use Rattle.grammar_laws.proofs.Tools.{ahead_some}
use Rattle.statement_laws.proofs.SoundParts.{simple_before_covers, test_covers}
use Rattle.prefix_laws.proofs.Going.{HaltsOn, Halts, halts_as, halts_behind, halts_then, halts_token, halts_expect, made_err, Fills, fills, the_mark, mark_is}
use Rattle.prefix_laws.proofs.Moved.{semicolon_stops, close_stops, calm_maybe_simple, calm_maybe_whole}
use Rattle.prefix_laws.proofs.NestedPrefixes.{IsStmtPrefixFor, HaltsInside, head_goes_on, inside_goes_on}
use Rattle.prefix_laws.proofs.PartPrefixes.{Brace, IsMaybeSimplePrefix, simple_before_halts, IsMaybeWholePrefix, test_halts, semicolon_is_calm, close_is_calm}

-- The parts in parentheses

abbrev Parts : Type 0
Parts = Option Stmt × Option Expr × Option Stmt

abbrev AreTheParts : ℕ → ℕ → List Token → Parts → Type 0
AreTheParts d most ts p = AreParts most (suc d) ts p.0 p.1 p.2

-- the tokens and others spell the parts
abbrev IsPartsPrefix : ℕ → List Token → Type 0
IsPartsPrefix d = Fills (AreTheParts d)

abbrev made_for : Parts → Stmt → Stmt
made_for p z = For p.0 p.1 p.2 z

module _ (d : ℕ) (v : Bodies) (halts : HaltsInside d v) (t : Token) (word_is : IsWord t ww.For) where
  for_build : (most : ℕ) (us vs : List Token) (next : Option Token) (p : Parts) (z : Stmt) → Brace next → AreTheParts d most us p → IsStmt most d vs next z → IsStmt most (suc d) ((t ∷ us) ++ vs) next (made_for p z)
  for_build most us vs next p z b q r = count d t us vs p.0 p.1 p.2 z refl refl refl word_is q r

  -- behind `for` the tokens and others spell the statement
  abbrev ForPrefix : List Token → Type 0
  ForPrefix us = IsStmtPrefixFor d (t ∷ us)

  parts_go_on : (us : List Token) → IsPartsPrefix d us → ForPrefix us
  parts_go_on us w = head_goes_on d (AreTheParts d) t made_for for_build us w

  module _ (o : Token) (open_is : IsMark o OpenParen) where
    -- with nothing behind the first part
    from_first : {text ts : List Token} (others : List Token) (most : ℕ) (a : Option Stmt) → 200 ≤ most → o ∷ ts ≡ text ++ others → IsMaybeSimple most (suc d) ts (Some (the_mark Semicolon)) a → IsPartsPrefix d text
    from_first {text = text} {ts = ts} others most a enough e p =
        let more : List Token = the_mark Semicolon ∷ the_mark Semicolon ∷ the_mark CloseParen ∷ [] in
        let same_text : o ∷ ts ++ the_mark Semicolon ∷ [] ++ the_mark Semicolon ∷ [] ++ the_mark CloseParen ∷ [] ≡ text ++ (others ++ more) = simp append_assoc refl ∙ (ap (λ us. us ++ more) e ∙ append_assoc text others more) in
        fills (others ++ more) most (a, None, None) enough same_text (parts o ts (the_mark Semicolon) [] (the_mark Semicolon) [] (the_mark CloseParen) refl open_is p (mark_is Semicolon) (IsMaybeWhole.none refl refl) (mark_is Semicolon) (IsMaybeSimple.none refl refl) (mark_is CloseParen))

    first_goes_on : (us : List Token) → IsMaybeSimplePrefix d us → IsPartsPrefix d (o ∷ us)
    first_goes_on us w = from_first w.others w.most w.value w.enough refl (w.spelled (Some (the_mark Semicolon)) semicolon_is_calm)

    module _ (us : List Token) (a : Option Stmt) (first : (most : ℕ) (p : Token) → 200 ≤ most → IsMark p Semicolon → IsMaybeSimple most (suc d) us (Some p) a) where
      first_stays : IsPartsPrefix d (o ∷ us)
      first_stays = from_first [] 200 a (omega arith) (sym (append-nil (o ∷ us))) (first 200 (the_mark Semicolon) (omega arith) (mark_is Semicolon))

      module _ (p : Token) (semi : IsMark p Semicolon) where
        -- with nothing behind the second part
        from_second : {text vs : List Token} (others : List Token) (most : ℕ) (y : Option Expr) → 200 ≤ most → o ∷ us ++ p ∷ vs ≡ text ++ others → IsMaybeWhole most (suc d) vs (Some (the_mark Semicolon)) y → IsPartsPrefix d text
        from_second {text = text} {vs = vs} others most y enough e q =
            let more : List Token = the_mark Semicolon ∷ the_mark CloseParen ∷ [] in
            let same_text : o ∷ us ++ p ∷ vs ++ the_mark Semicolon ∷ [] ++ the_mark CloseParen ∷ [] ≡ text ++ (others ++ more) = simp append_assoc refl ∙ (ap (λ ts. ts ++ more) e ∙ append_assoc text others more) in
            fills (others ++ more) most (a, y, None) enough same_text (parts o us p vs (the_mark Semicolon) [] (the_mark CloseParen) refl open_is (first most p enough semi) semi q (mark_is Semicolon) (IsMaybeSimple.none refl refl) (mark_is CloseParen))

        second_goes_on : (vs : List Token) → IsMaybeWholePrefix d vs → IsPartsPrefix d (o ∷ us ++ p ∷ [] ++ vs)
        second_goes_on vs w = from_second w.others w.most w.value w.enough (simp append_assoc refl) (w.spelled (Some (the_mark Semicolon)) semicolon_is_calm)

        module _ (vs : List Token) (y : Option Expr) (second : (most : ℕ) (q : Token) → 200 ≤ most → IsMark q Semicolon → IsMaybeWhole most (suc d) vs (Some q) y) where
          second_stays : IsPartsPrefix d (o ∷ us ++ p ∷ [] ++ vs)
          second_stays = from_second [] 200 y (omega arith) (simp append_assoc refl ∙ sym (append-nil (o ∷ us ++ p ∷ [] ++ vs))) (second 200 (the_mark Semicolon) (omega arith) (mark_is Semicolon))

          module _ (q : Token) (semi_too : IsMark q Semicolon) where
            -- with nothing behind the third part
            from_third : {text ws : List Token} (others : List Token) (most : ℕ) (b : Option Stmt) → 200 ≤ most → o ∷ us ++ p ∷ vs ++ q ∷ ws ≡ text ++ others → IsMaybeSimple most (suc d) ws (Some (the_mark CloseParen)) b → IsPartsPrefix d text
            from_third {text = text} {ws = ws} others most b enough e r =
                let more : List Token = the_mark CloseParen ∷ [] in
                let same_text : o ∷ us ++ p ∷ vs ++ q ∷ ws ++ the_mark CloseParen ∷ [] ≡ text ++ (others ++ more) = ap (λ ts. ts ++ more) e ∙ append_assoc text others more in
                fills (others ++ more) most (a, y, b) enough same_text (parts o us p vs q ws (the_mark CloseParen) refl open_is (first most p enough semi) semi (second most q enough semi_too) semi_too r (mark_is CloseParen))

            third_goes_on : (ws : List Token) → IsMaybeSimplePrefix d ws → IsPartsPrefix d (o ∷ us ++ p ∷ [] ++ vs ++ q ∷ [] ++ ws)
            third_goes_on ws w = from_third w.others w.most w.value w.enough (simp append_assoc refl) (w.spelled (Some (the_mark CloseParen)) close_is_calm)

            module _ (ws : List Token) (b : Option Stmt) (third : (most : ℕ) (c : Token) → 200 ≤ most → IsMark c CloseParen → IsMaybeSimple most (suc d) ws (Some c) b) where
              third_stays : IsPartsPrefix d (o ∷ us ++ p ∷ [] ++ vs ++ q ∷ [] ++ ws)
              third_stays = from_third [] 200 b (omega arith) (simp append_assoc refl ∙ sym (append-nil (o ∷ us ++ p ∷ [] ++ vs ++ q ∷ [] ++ ws))) (third 200 (the_mark CloseParen) (omega arith) (mark_is CloseParen))

              all_parts : (c : Token) → IsMark c CloseParen → (most : ℕ) → 200 ≤ most → AreTheParts d most (o ∷ us ++ p ∷ [] ++ vs ++ q ∷ [] ++ ws ++ c ∷ []) (a, y, b)
              all_parts c close_is most enough = parts o us p vs q ws c (simp append_assoc refl) open_is (first most p enough semi) semi (second most q enough semi_too) semi_too (third most c enough close_is) close_is

              body_halts : (i : Input) (e : DocFault) → for_body v a y b i ≡ Err e → HaltsOn ForPrefix (o ∷ us ++ p ∷ [] ++ vs ++ q ∷ [] ++ ws) i e
              unfolding for_body
              body_halts i e h = halts_expect CloseParen _ i (parts_go_on (o ∷ us ++ p ∷ [] ++ vs ++ q ∷ [] ++ ws) third_stays)
                  (λ c u k f c_is to g. halts_as
                  (λ zs w. inside_goes_on d (AreTheParts d) t made_for for_build (o ∷ us ++ p ∷ [] ++ vs ++ q ∷ [] ++ ws ++ c ∷ []) (a, y, b) (all_parts c c_is) zs w)
                  (halts.nested k f (made_err v.nested (λ z. For a y b z) k f g))) e h

          step_halts : (i : Input) (e : DocFault) → for_step d v a y i ≡ Err e → HaltsOn ForPrefix (o ∷ us ++ p ∷ [] ++ vs) i e
          unfolding for_step
          step_halts i e h = halts_expect Semicolon _ i (parts_go_on (o ∷ us ++ p ∷ [] ++ vs) second_stays)
              (λ q u k f q_is to g. halts_then (simple_before CloseParen d) _ k
              (λ f2 g2. halts_as (λ ws w. parts_go_on (o ∷ us ++ p ∷ [] ++ vs ++ q ∷ [] ++ ws) (third_goes_on q q_is ws w)) (simple_before_halts CloseParen d k f2 g2))
              (λ b l f2 read g2.
              let c = simple_before_covers CloseParen d k b l read in
              halts_behind c.way (body_halts q q_is c.text b (λ most z enough is. calm_maybe_simple enough (λ x. close_stops (Some z) is) c.spelled) l f2 g2)) f g) e h

      tested_halts : (i : Input) (e : DocFault) → for_test d v a i ≡ Err e → HaltsOn ForPrefix (o ∷ us) i e
      unfolding for_test
      tested_halts i e h = halts_expect Semicolon _ i (parts_go_on (o ∷ us) first_stays)
          (λ p u k f p_is to g. halts_then (test d) _ k
          (λ f2 g2. halts_as (λ vs w. parts_go_on (o ∷ us ++ p ∷ [] ++ vs) (second_goes_on p p_is vs w)) (test_halts d k f2 g2))
          (λ y l f2 read g2.
          let c = test_covers d k y l read in
          halts_behind c.way (step_halts p p_is c.text y (λ most q enough is. calm_maybe_whole enough (λ x. semicolon_stops (Some q) is) c.spelled) l f2 g2)) f g) e h

  no_parts : IsPartsPrefix d []
  no_parts = from_first (the_mark OpenParen) (mark_is OpenParen) (the_mark OpenParen ∷ []) 200 None (omega arith) refl (IsMaybeSimple.none refl refl)

  behind_for_halts : (i : Input) (e : DocFault) → followed (expect OpenParen) (λ u. followed (simple_before Semicolon d) (for_test d v)) i ≡ Err e → Halts ForPrefix i e
  behind_for_halts i e h = halts_expect OpenParen _ i (parts_go_on [] no_parts)
      (λ o u k f o_is to g. halts_then (simple_before Semicolon d) _ k
      (λ f2 g2. halts_as (λ us w. parts_go_on (o ∷ us) (first_goes_on o o_is us w)) (simple_before_halts Semicolon d k f2 g2))
      (λ a l f2 read g2.
      let c = simple_before_covers Semicolon d k a l read in
      halts_behind c.way (tested_halts o o_is c.text a (λ most p enough is. calm_maybe_simple enough (λ x. semicolon_stops (Some p) is) c.spelled) l f2 g2)) f g) e h

pub for_halts : (d : ℕ) (v : Bodies) → HaltsInside d v → (i : Input) (e : DocFault) → is_word ww.For (ahead i) ≡ true → for_statement d v i ≡ Err e → Halts (IsStmtPrefixFor d) i e
unfolding for_statement
for_halts d v halts i e s h =
    let t = ahead_some (is_word ww.For) refl i s in
    halts_token _ i t.token t.rest (λ u k f to g. halts_as (λ us w. w) (behind_for_halts d v halts t.token t.is k f g)) e h
