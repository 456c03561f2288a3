-- Names with dots between them: the tests on them against the productions, and that an expression goes through
-- all of them where "{" follows.
use Rattle.std.proofs.Common.{◌≡◌, ℕ, zero, suc, ◌≤◌, ◌==◌, ◌&&◌, ◌⊎◌, inl, inr, Bool, true, false, is_some, List, [], ◌∷◌, ◌++◌, length, Option, Some, None, Ok, Err, refl, sym, ap, subst, subst₂, ◌∙◌, arith, append_assoc}
use Rattle.std.proofs.lemmas.Bool.{and_parts, and_right, both_ways}
use Rattle.std.proofs.lemmas.List.{append-nil}
use Rattle.qml_ast.specs.declared.expr.Expr.{Expr}
use Rattle.qml_ast.specs.declared.expr.Expr.TheVariants.{Name, And, Or}
use Rattle.qml_grammar.specs.DocumentGrammar.{IsName, AreNames, one, more, IsNoType}
use Rattle.qml_grammar.specs.ExpressionGrammar.{IsMark}
use Rattle.qml_grammar.specs.Expressions.{Inner, atom, primary, member, begins_postfix, postfix, postfixes, unary_in, joined, begins_operator, operator, chain, products, sums, orders, equalities, conjunctions, disjunctions, conditional, expr_in, inner, expr, whole}
use Rattle.qml_grammar.specs.Inputs.{Input, Parser, ahead, take_node, any_name, repeated, while_next}
use Rattle.qml_grammar.specs.Lexemes.{Lexeme, mark, Token, head, tail, is_mark, is_mark_lexeme, name_of, looked_up, atom_of, unary_operator, product_operator, sum_operator, order_operator, equality_operator}
use Rattle.qml_grammar.specs.Marks.{same_mark, mark_number}
use Rattle.qml_grammar.specs.Names.{upper_first, name_is, last_name, ends_type, is_dotted_type, begins_object}
use Rattle.qml_grammar.specs.declared.mark.Mark.{Mark}
use Rattle.qml_grammar.specs.declared.mark.Mark.TheVariants.{OpenBrace, OpenParen, Dot, Question, DoubleAmpersand, DoubleBar}
use Rattle.grammar_laws.specs.Laws.{Way, ReadsWhole}
use Rattle.grammar_laws.proofs.Behind.{stopped, if_true, if_false, found, missing}
use Rattle.grammar_laws.proofs.First.{name_atom, no_open, no_unary, or_left}
use Rattle.grammar_laws.proofs.Growing.{went_on, stopped as a_stop, went as a_step}
use Rattle.grammar_laws.proofs.Reading.{full, reads_whole}
use Rattle.grammar_laws.proofs.Strength.{strength, mark_strength, lexeme_strength, tells_postfix, tells_product, tells_sum, tells_order, tells_equality, tells_conjunction, tells_disjunction, tells_question}
use Rattle.grammar_laws.proofs.Tools.{bind_ok, same_input, way_node, named}
use Rattle.grammar_laws.proofs.Viable.{same_text}
use Rattle.document_laws.proofs.Tokens.{mark_is, upper_operand}

-- Tests on names

-- the first token of names, and what stands behind it
pub record Dotted (ts : List Token) (a z : List ℕ) : Type 0 where
  pub token : Token
  pub others : List Token
  pub text : ts ≡ token ∷ others
  pub is : IsName token a
  pub last : (ws : List Token) → last_name a (others ++ ws) ≡ last_name z ws
  pub dots : (others ≡ []) ⊎ (is_mark Dot (head others) ≡ true)

head_before : (us vs : List Token) → is_mark Dot (head us) ≡ true → is_mark Dot (head (us ++ vs)) ≡ true
head_before [] vs h = absurd cc
head_before (u ∷ us) vs h = h

dot_before : (us : List Token) (o t : Token) → (us ≡ []) ⊎ (is_mark Dot (head us) ≡ true) → IsMark o Dot → is_mark Dot (head (us ++ o ∷ t ∷ [])) ≡ true
dot_before us o t (inl e) dot = rw e dot
dot_before us o t (inr h) dot = head_before us (o ∷ t ∷ []) h

pub last_step : (y m : List ℕ) (o t : Token) (ws : List Token) → IsMark o Dot → IsName t m → last_name y (o ∷ t ∷ ws) ≡ last_name m ws
last_step y m o t ws dot is = rw (last_name, dot, is) refl

-- no dot behind the first name
pub no_dots_there : (follows : Option Token → Bool) (t : Token) (ts : List Token) (n : List ℕ) → IsName t n → is_mark Dot (head ts) ≡ false → is_dotted_type follows (t ∷ ts) ≡ false
no_dots_there follows t ts n is h = rw (is_dotted_type, is, h) refl

-- names that end otherwise
pub dotted_ends : (follows : Option Token → Bool) (t : Token) (ts : List Token) (n : List ℕ) (next : Option Token) (z : List ℕ) → IsName t n → last_name n ts ≡ record { name = z; next = next } → follows next ≡ false → is_dotted_type follows (t ∷ ts) ≡ false
dotted_ends follows t ts n next z is last no_follow = found (λ m. is_mark Dot (head ts) && upper_first m && ends_type follows (last_name m ts)) false is (and_right (is_mark Dot (head ts) && upper_first n) (ends_type follows (last_name n ts)) (ap (ends_type follows) last ∙ and_right (upper_first z) (follows next) no_follow))

pub names_dotted : {ts : List Token} {a z : List ℕ} → AreNames ts a z → Dotted ts a z
names_dotted (one t e is z_is) = record { token = t; others = []; text = e; is = is; last = λ ws. ap (λ n. last_name n ws) (sym z_is); dots = inl refl }
names_dotted {a = a} {z = z} (more us o t y e p dot is) =
    let b = names_dotted p in
    record {
      token = b.token;
      others = b.others ++ o ∷ t ∷ [];
      text = e ∙ ap (λ ws. ws ++ o ∷ t ∷ []) b.text;
      is = b.is;
      last = λ ws. ap (last_name a) (append_assoc b.others (o ∷ t ∷ []) ws) ∙ (b.last (o ∷ t ∷ ws) ∙ last_step y z o t ws dot is);
      dots = inr (dot_before b.others o t b.dots dot);
    }

-- a name alone is the last one
pub last_at : (z : List ℕ) (b : Token) (ws : List Token) → is_mark Dot (Some b) ≡ false → last_name z (b ∷ ws) ≡ record { name = z; next = Some b }
last_at z b [] h = refl
last_at z b (w ∷ ws) h = rw (last_name, h) refl

pub object_test : (t b : Token) (ws : List Token) (a : List ℕ) → IsName t a → upper_first a ≡ true → IsMark b OpenBrace → begins_object (t ∷ b ∷ ws) ≡ true
object_test t b ws a is up brace = rw (begins_object, name_is, is, up, brace) refl

dotted_test : (follows : Option Token → Bool) (t : Token) (us : List Token) (a z : List ℕ) (next : Option Token) → IsName t a → is_mark Dot (head us) ≡ true → upper_first a ≡ true → last_name a us ≡ record { name = z; next = next } → upper_first z ≡ true → follows next ≡ true → is_dotted_type follows (t ∷ us) ≡ true
dotted_test follows t us a z next is dot up last up_last next_is = rw (is_dotted_type, is, dot, up, last, up_last, next_is) refl

no_dot_brace : (b : Token) → IsMark b OpenBrace → is_mark Dot (Some b) ≡ false
unfolding same_mark mark_number
no_dot_brace b h = mark_is Dot OpenBrace b h

tested : (ts ws : List Token) (b : Token) (a z : List ℕ) → Dotted ts a z → upper_first a ≡ true → upper_first z ≡ true → IsMark b OpenBrace → (begins_object (ts ++ b ∷ ws) ≡ true) ⊎ (is_dotted_type (is_mark OpenBrace) (ts ++ b ∷ ws) ≡ true)
tested ts ws b a z d up up_last brace = elim d.dots [
  | inl none ↦ inl (ap (λ us. begins_object (us ++ b ∷ ws)) (d.text ∙ ap (λ us. d.token ∷ us) none) ∙ object_test d.token b ws a d.is up brace)
  | inr dot ↦ inr (ap (λ us. is_dotted_type (is_mark OpenBrace) (us ++ b ∷ ws)) d.text ∙ dotted_test (is_mark OpenBrace) d.token (d.others ++ b ∷ ws) a z (Some b) d.is (head_before d.others (b ∷ ws) dot) up (d.last (b ∷ ws) ∙ last_at z b ws (no_dot_brace b brace)) up_last brace)
]

no_brace_from : (ts rest : List Token) (a z : List ℕ) (q : Bool) → is_mark OpenBrace (head rest) ≡ q → begins_object (ts ++ rest) ≡ false → is_dotted_type (is_mark OpenBrace) (ts ++ rest) ≡ false → Dotted ts a z → upper_first a ≡ true → upper_first z ≡ true → is_mark OpenBrace (head rest) ≡ false
no_brace_from ts rest a z false e no_object no_dotted d up up_last = e
no_brace_from ts [] a z true e no_object no_dotted d up up_last = absurd cc
no_brace_from ts (b ∷ ws) a z true e no_object no_dotted d up up_last = absurd (elim (tested ts ws b a z d up up_last e) [
  | inl h ↦ (let f = sym h ∙ no_object in cc)
  | inr h ↦ (let f = sym h ∙ no_dotted in cc)
])

-- what passes the tests is no type
pub no_type : (ts rest : List Token) → begins_object (ts ++ rest) ≡ false → is_dotted_type (is_mark OpenBrace) (ts ++ rest) ≡ false → IsNoType ts (head rest)
no_type ts rest no_object no_dotted a z names up up_last = no_brace_from ts rest a z (is_mark OpenBrace (head rest)) refl no_object no_dotted (names_dotted names) up up_last

-- Dots

-- dots with names behind them, from the one name to the other one
pub data Dots : List Token → List ℕ → List ℕ → Type 0 where
  no_dots : {ts : List Token} {n z : List ℕ} → ts ≡ [] → z ≡ n → Dots ts n z
  a_dot : {ts : List Token} {n z : List ℕ} (o t : Token) (m : List ℕ) (us : List Token) → ts ≡ o ∷ t ∷ us → IsMark o Dot → IsName t m → Dots us m z → Dots ts n z

pub dots_names : {us : List Token} {n z : List ℕ} → Dots us n z → (ts : List Token) (a : List ℕ) → AreNames ts a n → AreNames (ts ++ us) a z
dots_names (no_dots us_is z_is) ts a p = subst₂ (λ vs m. AreNames vs a m) (sym (append-nil ts) ∙ ap (λ vs. ts ++ vs) (sym us_is)) (sym z_is) p
dots_names {n = n} {z = z} (a_dot o t m vs us_is dot is ds) ts a p =
    subst (λ ws. AreNames ws a z) (append_assoc ts (o ∷ t ∷ []) vs ∙ ap (λ ws. ts ++ ws) (sym us_is)) (dots_names ds (ts ++ o ∷ t ∷ []) a (more ts o t n refl p dot is))

-- the longest dots behind a name, and the rest
pub record Parts (n : List ℕ) (ts : List Token) : Type 0 where
  pub dots : List Token
  pub rest : List Token
  pub name : List ℕ
  pub text : ts ≡ dots ++ rest
  pub are : Dots dots n name
  pub last : last_name n ts ≡ record { name = name; next = head rest }

parts_step : (n : List ℕ) (o t : Token) (ts : List Token) (q : Bool) (r : Option (List ℕ)) → is_mark Dot (Some o) ≡ q → name_of (Some t) ≡ r → ((m : List ℕ) → Parts m ts) → Parts n (o ∷ t ∷ ts)
parts_step n o t ts false r e f deeper = record { dots = []; rest = o ∷ t ∷ ts; name = n; text = refl; are = no_dots refl refl; last = rw (last_name, e) refl }
parts_step n o t ts true None e f deeper = record { dots = []; rest = o ∷ t ∷ ts; name = n; text = refl; are = no_dots refl refl; last = rw (last_name, e, f) refl }
parts_step n o t ts true (Some m) e f deeper =
    let p = deeper m in
    record { dots = o ∷ t ∷ p.dots; rest = p.rest; name = p.name; text = ap (λ us. o ∷ t ∷ us) p.text; are = a_dot o t m p.dots refl e f p.are; last = last_step n m o t ts e f ∙ p.last }

pub parts_of : (n : List ℕ) (ts : List Token) → Parts n ts
parts_of n [] = record { dots = []; rest = []; name = n; text = refl; are = no_dots refl refl; last = refl }
parts_of n (o ∷ []) = record { dots = []; rest = o ∷ []; name = n; text = refl; are = no_dots refl refl; last = refl }
parts_of n (o ∷ t ∷ ts) = parts_step n o t ts (is_mark Dot (Some o)) (name_of (Some t)) refl refl (λ m. parts_of m ts)

-- An expression of names

mark_no_strength : (m : Mark) → same_mark OpenBrace m ≡ true → mark_strength m ≡ 0
unfolding same_mark mark_number
mark_no_strength OpenBrace h = refl
mark_no_strength _ h = absurd cc

lexeme_no_strength : (l : Lexeme) → is_mark_lexeme OpenBrace l ≡ true → lexeme_strength l ≡ 0
lexeme_no_strength (mark m) h = mark_no_strength m h
lexeme_no_strength _ h = absurd cc

no_strength : (t : Option Token) → is_mark OpenBrace t ≡ true → strength t ≡ 0
no_strength None h = absurd cc
no_strength (Some t) h = lexeme_no_strength t.lexeme h

module _ (ws : List Token) (none : strength (head ws) ≡ 0) where
  -- what the parser reads ends before these tokens
  abbrev Reaches : {A : Type 0} → Parser A → Input → Type 0
  Reaches {A = A} p i = (y : A) (j : Input) → p i ≡ Ok (y, j) → j.rest ≡ ws

  while_reaches : {A : Type 0} (test : Option Token → Bool) (step : A → Parser A) (x : A) (i : Input) → test (head ws) ≡ false → i.rest ≡ ws → Reaches (while_next test step x) i
  unfolding while_next
  while_reaches test step x i t r y j h =
      let stays = stopped (step x) test step (length i.rest) x i (ap (λ ts. test (head ts)) r ∙ t) in
      ap (λ (k : Input). k.rest) (sym (same_input x y i j (sym stays ∙ h))) ∙ r

  list_reaches : {A : Type 0} (operand : Parser A) (test : Option Token → Bool) (step : A → Parser A) (i : Input) → test (head ws) ≡ false → Reaches operand i → Reaches (λ k. elim (operand k) [ Ok r ↦ while_next test step r.0 r.1 | Err e ↦ Err e ]) i
  list_reaches operand test step i t reaches y j h =
      let b = bind_ok (operand i) _ _ h in
      while_reaches test step b.value b.at t (reaches b.value b.at b.first) y j b.onward

  member_rest : (x : Expr) (i : Input) (y : Expr) (j : Input) (o t : Token) (us : List Token) → i.rest ≡ o ∷ t ∷ us → member x i ≡ Ok (y, j) → j.rest ≡ us
  unfolding member
  member_rest x i y j o t us r h =
      let a = bind_ok (take_node i) _ _ h in
      let w = way_node i a.at a.value o (r ∙ ap (λ ts. o ∷ tail ts) (sym r)) a.first in
      let b = bind_ok (any_name a.at) _ _ a.onward in
      let n = named a.at b.at b.value b.first in
      ap (λ (k : Input). k.rest) (sym (same_input _ y b.at j b.onward)) ∙ sym (ap tail (ap tail (sym r ∙ w.rest) ∙ (n.way).rest))

  module _ (v : Inner) where
    postfix_rest : (x : Expr) (i : Input) (y : Expr) (j : Input) (o t : Token) (us : List Token) → i.rest ≡ o ∷ t ∷ us → IsMark o Dot → postfix v x i ≡ Ok (y, j) → j.rest ≡ us
    unfolding postfix
    postfix_rest x i y j o t us r dot h = member_rest x i y j o t us r (sym (if_true _ _ (ap (λ ts. is_mark Dot (head ts)) r ∙ dot) refl) ∙ h)

    goes_past : (k : ℕ) (x : Expr) (i : Input) (o t : Token) (us : List Token) → i.rest ≡ o ∷ t ∷ us → IsMark o Dot → ((z : Expr) (l : Input) → l.rest ≡ us → Reaches (repeated begins_postfix (postfix v) k z) l) → Reaches (repeated begins_postfix (postfix v) (suc k) x) i
    goes_past k x i o t us r dot deeper y j h = elim (went_on begins_postfix (postfix v) k x i y j h) [
      | a_stop s e ↦ absurd (let f = sym (ap (λ ts. begins_postfix (head ts)) r ∙ or_left (is_mark Dot (Some o)) (is_mark OpenParen (Some o)) dot) ∙ s in cc)
      | a_step z l s e g ↦ deeper z l (postfix_rest x i z l o t us r dot e) y j g
    ]

    dots_reach : {us : List Token} {n z : List ℕ} → Dots us n z → (k : ℕ) (x : Expr) (i : Input) → i.rest ≡ us ++ ws → length i.rest ≤ k → Reaches (repeated begins_postfix (postfix v) k x) i
    dots_reach (no_dots us_is z_is) k x i r few y j h =
        let at = r ∙ ap (λ us. us ++ ws) us_is in
        let stays = stopped (λ l. Ok (x, l)) begins_postfix (postfix v) k x i (ap (λ ts. begins_postfix (head ts)) at ∙ (tells_postfix (head ws) ∙ ap (λ s. s == 8) none)) in
        ap (λ (l : Input). l.rest) (sym (same_input x y i j (sym stays ∙ h))) ∙ at
    dots_reach (a_dot o t m us us_is dot is ds) zero x i r few y j h = absurd (omega (arith, ap length (r ∙ ap (λ vs. vs ++ ws) us_is)))
    dots_reach (a_dot o t m us us_is dot is ds) (suc k) x i r few y j h =
        let at = r ∙ ap (λ vs. vs ++ ws) us_is in
        goes_past k x i o t (us ++ ws) at dot (λ z l e. dots_reach ds k z l e (omega (arith, ap length at, ap length e))) y j h

    primary_rest : (t : Token) (us : List Token) (n : List ℕ) (i : Input) (y : Expr) (j : Input) → i.rest ≡ t ∷ us → atom_of (Some t) ≡ Some (Name n) → primary v i ≡ Ok (y, j) → j.rest ≡ us
    unfolding primary atom
    primary_rest t us n i y j r is h =
        let at = ap (λ ts. atom_of (head ts)) r ∙ is in
        let closed = ap (λ ts. is_mark OpenParen (head ts)) r ∙ no_open t (Name n) is in
        let read = sym (if_false _ _ closed (found _ _ at refl)) ∙ h in
        let a = bind_ok (take_node i) _ _ read in
        let w = way_node i a.at a.value t (r ∙ ap (λ ts. t ∷ tail ts) (sym r)) a.first in
        ap (λ (k : Input). k.rest) (sym (same_input _ y a.at j a.onward)) ∙ sym (ap tail (sym r ∙ w.rest))

    module _ (t : Token) (us : List Token) (n z : List ℕ) (i : Input) (is : IsName t n) (up : upper_first n ≡ true) (dots : Dots us n z) (r : i.rest ≡ t ∷ us ++ ws) where
      atom_is : atom_of (Some t) ≡ Some (Name n)
      atom_is = let o = upper_operand t is up in name_atom t n o.0 o.1

      postfixes_reach : Reaches (postfixes v) i
      unfolding postfixes while_next
      postfixes_reach y j h =
          let b = bind_ok (primary v i) _ _ h in
          dots_reach dots (length b.at.rest) b.value b.at (primary_rest t (us ++ ws) n i b.value b.at r atom_is b.first) (omega arith) y j b.onward

      unary_reaches : Reaches (unary_in v) i
      unfolding unary_in
      unary_reaches y j h =
          let no : looked_up unary_operator (ahead i) ≡ None = ap (λ ts. looked_up unary_operator (head ts)) r ∙ no_unary t (or_left (is_some (atom_of (Some t))) (is_mark OpenParen (Some t)) (ap is_some atom_is)) in
          postfixes_reach y j (sym (missing _ _ no refl) ∙ h)

      products_reach : Reaches (products v) i
      unfolding products chain
      products_reach = list_reaches (unary_in v) (begins_operator product_operator) (operator product_operator (unary_in v)) i (tells_product (head ws) ∙ ap (λ s. s == 7) none) unary_reaches

      sums_reach : Reaches (sums v) i
      unfolding sums chain
      sums_reach = list_reaches (products v) (begins_operator sum_operator) (operator sum_operator (products v)) i (tells_sum (head ws) ∙ ap (λ s. s == 6) none) products_reach

      orders_reach : Reaches (orders v) i
      unfolding orders chain
      orders_reach = list_reaches (sums v) (begins_operator order_operator) (operator order_operator (sums v)) i (tells_order (head ws) ∙ ap (λ s. s == 5) none) sums_reach

      equalities_reach : Reaches (equalities v) i
      unfolding equalities chain
      equalities_reach = list_reaches (orders v) (begins_operator equality_operator) (operator equality_operator (orders v)) i (tells_equality (head ws) ∙ ap (λ s. s == 4) none) orders_reach

      conjunctions_reach : Reaches (conjunctions v) i
      unfolding conjunctions
      conjunctions_reach = list_reaches (equalities v) (is_mark DoubleAmpersand) (joined (λ x y. And x y) (equalities v)) i (tells_conjunction (head ws) ∙ ap (λ s. s == 3) none) equalities_reach

      disjunctions_reach : Reaches (disjunctions v) i
      unfolding disjunctions
      disjunctions_reach = list_reaches (conjunctions v) (is_mark DoubleBar) (joined (λ x y. Or x y) (conjunctions v)) i (tells_disjunction (head ws) ∙ ap (λ s. s == 2) none) conjunctions_reach

      expr_reaches : Reaches (expr_in v) i
      unfolding expr_in conditional
      expr_reaches y j h =
          let b = bind_ok (disjunctions v i) _ _ h in
          let at = disjunctions_reach b.value b.at b.first in
          let no = ap (λ ts. is_mark Question (head ts)) at ∙ (tells_question (head ws) ∙ ap (λ s. s == 1) none) in
          ap (λ (k : Input). k.rest) (sym (same_input _ y b.at j (sym (if_false _ _ no refl) ∙ b.onward))) ∙ at

  whole_reaches : (d : ℕ) (t : Token) (us : List Token) (n z : List ℕ) (i : Input) → IsName t n → upper_first n ≡ true → Dots us n z → i.rest ≡ t ∷ us ++ ws → Reaches (whole d) i
  unfolding whole expr
  whole_reaches d t us n z i is up dots r y j h =
      let b = bind_ok (expr d (full i)) _ _ h in
      let at = expr_reaches (inner d) t us n z (full i) is up dots r b.value b.at b.first in
      ap (λ (k : Input). k.rest) (sym (same_input b.value y _ j b.onward)) ∙ at

-- an expression is no names before "{" of which the first and the last one begin with upper-case letters
not_before_brace : (d : ℕ) (i j : Input) (y : Expr) (c : ReadsWhole d i j y) → IsNoType c.text (ahead j) → (t : Token) (us ws : List Token) (n z : List ℕ) → IsName t n → upper_first n ≡ true → Dots us n z → upper_first z ≡ true → is_mark OpenBrace (head ws) ≡ true → i.rest ≡ t ∷ us ++ ws → ⊥
not_before_brace d i j y c free t us ws n z is up dots up_last brace r =
    let at : j.rest ≡ ws = whole_reaches ws (no_strength (head ws) brace) d t us n z i is up dots r y j (reads_whole d i j y c) in
    let w = c.way in
    let other : Way i j 0 (t ∷ us) = record { rest = r ∙ ap (λ vs. t ∷ us ++ vs) (sym at); used = w.used; end = w.end } in
    let text : c.text ≡ t ∷ us = same_text w other in
    let names : AreNames (t ∷ us) n z = dots_names dots (t ∷ []) n (one t refl is refl) in
    let no = free n z (subst (λ ts. AreNames ts n z) (sym text) names) up up_last in
    let yes = ap (λ ts. is_mark OpenBrace (head ts)) at ∙ brace in
    both_ways (is_mark OpenBrace (ahead j)) no yes

-- The tests, the other way round

pub name_test : (test : List ℕ → Bool) (o : Option (List ℕ)) → ◌≡◌ {A = Bool} (elim o [ Some n ↦ test n | None ↦ false ]) true → (n : List ℕ) × (o ≡ Some n) × (test n ≡ true)
name_test test None h = absurd cc
name_test test (Some n) h = (n, refl, h)

-- names with dots between them, the first and the last one of which begin with upper-case letters
pub record TypeBefore (ts : List Token) : Type 0 where
  pub token : Token
  pub dots : List Token
  pub rest : List Token
  pub first : List ℕ
  pub last : List ℕ
  pub text : ts ≡ token ∷ dots ++ rest
  pub is : IsName token first
  pub first_up : upper_first first ≡ true
  pub are : Dots dots first last
  pub last_up : upper_first last ≡ true

-- they stand before this
pub record TypeAnd (follows : Option Token → Bool) (ts : List Token) : Type 0 where
  pub type : TypeBefore ts
  pub then : follows (head type.rest) ≡ true

pub object_parts : (ts : List Token) → begins_object ts ≡ true → TypeAnd (is_mark OpenBrace) ts
object_parts [] h = absurd cc
object_parts (t ∷ ts) h =
    let a = and_parts (name_is upper_first (Some t)) (is_mark OpenBrace (head ts)) h in
    let n = name_test upper_first (name_of (Some t)) a.0 in
    record {
      type = record { token = t; dots = []; rest = ts; first = n.0; last = n.0; text = refl; is = n.1; first_up = n.2; are = no_dots refl refl; last_up = n.2 };
      then = a.1;
    }

pub dotted_parts : (follows : Option Token → Bool) (ts : List Token) → is_dotted_type follows ts ≡ true → TypeAnd follows ts
dotted_parts follows [] h = absurd cc
dotted_parts follows (t ∷ ts) h =
    let n = name_test (λ m. is_mark Dot (head ts) && upper_first m && ends_type follows (last_name m ts)) (name_of (Some t)) h in
    let a = and_parts (is_mark Dot (head ts) && upper_first n.0) (ends_type follows (last_name n.0 ts)) n.2 in
    let p = parts_of n.0 ts in
    let e = and_parts (upper_first p.name) (follows (head p.rest)) (ap (ends_type follows) (sym p.last) ∙ a.1) in
    record {
      type = record { token = t; dots = p.dots; rest = p.rest; first = n.0; last = p.name; text = ap (λ us. t ∷ us) p.text; is = n.1; first_up = (and_parts (is_mark Dot (head ts)) (upper_first n.0) a.0).1; are = p.are; last_up = e.0 };
      then = e.1;
    }

refuted : (b : Bool) → (b ≡ true → ⊥) → b ≡ false
refuted true never = absurd (never refl)
refuted false never = refl

-- an expression that is no type passes the tests
module _ (d : ℕ) (i j : Input) (y : Expr) (c : ReadsWhole d i j y) (free : IsNoType c.text (ahead j)) where
  no_such : TypeAnd (is_mark OpenBrace) i.rest → ⊥
  no_such p = let t = p.type in not_before_brace d i j y c free t.token t.dots t.rest t.first t.last t.is t.first_up t.are t.last_up p.then t.text

  pub expr_no_object : begins_object i.rest ≡ false
  expr_no_object = refuted (begins_object i.rest) (λ h. no_such (object_parts i.rest h))

  pub expr_no_dotted : is_dotted_type (is_mark OpenBrace) i.rest ≡ false
  expr_no_dotted = refuted (is_dotted_type (is_mark OpenBrace) i.rest) (λ h. no_such (dotted_parts (is_mark OpenBrace) i.rest h))
