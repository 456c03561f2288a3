-- What the productions spell, before a token that does not go on with it, is read, level by level.
use Rattle.std.proofs.Common.{◌≡◌, ℕ, zero, suc, ◌+◌, ◌≤◌, Bool, true, false, is_some, List, [], ◌∷◌, ◌++◌, Option, Some, None, Ok, Err, refl, sym, ap, subst, ◌∙◌, arith, append_assoc}
use Rattle.std.proofs.lemmas.Bool.{ne_eqb, eqb-true}
use Rattle.qml_ast.specs.declared.expr.BinOp.{BinOp}
use Rattle.qml_ast.specs.declared.expr.Expr.{Expr}
use Rattle.qml_ast.specs.declared.expr.Expr.TheVariants.{Lit, Name, Member, Call, Unary, Binary, And, Or, Cond}
use Rattle.qml_ast.specs.declared.expr.UnOp.{UnOp}
use Rattle.qml_grammar.specs.ExpressionGrammar.{IsMark, IsOperator, IsPrimary, literal, name, parens as in_parens, IsPostfix, primary as a_primary, member as a_member, call_none, call as a_call, AreArguments, one_argument, more_arguments, IsUnary, operated as an_operated, postfix as a_postfix, IsProduct, unary as a_unary, times, IsSum, product, plus, IsOrder, sum, compare, IsEquality, order, equal, IsConjunction, equality, both, IsDisjunction, conjunction, either, IsExpr, disjunction, conditional as a_conditional}
use Rattle.qml_grammar.specs.Expressions.{Inner, parens, atom, primary, member, argument, some_arguments, arguments, call, begins_postfix, postfix, postfixes, operated, unary_in, joined, begins_operator, operator, chain, products, sums, orders, equalities, conjunctions, disjunctions, branches, conditional, expr_in, inner, expr}
use Rattle.qml_grammar.specs.Inputs.{Input, Parser, ahead, expect, any_name, while_next}
use Rattle.qml_grammar.specs.Lexemes.{Lexeme, mark, Token, is_mark, is_mark_lexeme, atom_of, name_of, looked_up, unary_operator, product_operator, sum_operator, order_operator, equality_operator}
use Rattle.qml_grammar.specs.Marks.{same_mark, mark_number}
use Rattle.qml_grammar.specs.declared.mark.Mark.{Mark}
use Rattle.qml_grammar.specs.declared.mark.Mark.TheVariants.{OpenParen, CloseParen, Colon, Comma, Dot, Question, DoubleAmpersand, DoubleBar}
use Rattle.grammar_laws.proofs.Behind.{behind, behind_both, last_behind, ok_then, if_true, if_false, found, missing, node_behind, node_last, GoesOn, goes_as, goes_first, goes_more, goes_last}
use Rattle.grammar_laws.proofs.First.{begins_left, ahead_begins, or_left, or_right, literal_atom, name_atom, no_open, no_unary, no_close, postfix_begins, arguments_begin}
use Rattle.grammar_laws.proofs.Tools.{bind_ok}
use Rattle.grammar_laws.proofs.Strength.{strength, Tells, lexeme_strength, mark_strength, tells_postfix, tells_product, tells_sum, tells_order, tells_equality, tells_conjunction, tells_disjunction, tells_question}

-- the readings one level further in read what is spelled there
pub record CompleteInside (d : ℕ) (v : Inner) : Type 0 where
  pub enter : (c : ℕ) → d ≡ suc c → (i : Input) → v.enter i ≡ Ok (tt, i)
  pub expr : (c : ℕ) → d ≡ suc c → (k : ℕ) (ts : List Token) (x : Expr) (j : Input) → IsExpr c k ts x → strength (ahead j) ≤ 0 → v.expr (behind ts k j) ≡ Ok (x, j)
  pub unary : (c : ℕ) → d ≡ suc c → (k : ℕ) (ts : List Token) (x : Expr) (j : Input) → IsUnary c k ts x → strength (ahead j) ≤ 7 → v.unary (behind ts k j) ≡ Ok (x, j)

-- Single tokens

fails : {test : Option Token → Bool} (t : Option Token) (n : ℕ) → Tells test (suc n) → strength t ≤ n → test t ≡ false
fails t n tells h = tells t ∙ ne_eqb (strength t) (suc n) (λ e. omega arith)

at_strength : {test : Option Token → Bool} (t : Option Token) (n : ℕ) → Tells test n → test t ≡ true → strength t ≤ n
at_strength t n tells h = let e : strength t ≡ n = eqb-true (strength t) n (sym (tells t) ∙ h) in omega arith

mark_close_stops : (m : Mark) → same_mark CloseParen m ≡ true → mark_strength m ≤ 0
unfolding same_mark mark_number
mark_close_stops CloseParen h = omega arith
mark_close_stops _ h = absurd cc

lexeme_close_stops : (l : Lexeme) → is_mark_lexeme CloseParen l ≡ true → lexeme_strength l ≤ 0
lexeme_close_stops (mark m) h = mark_close_stops m h
lexeme_close_stops _ h = absurd cc

close_stops : (t : Token) → IsMark t CloseParen → strength (Some t) ≤ 0
close_stops t h = lexeme_close_stops t.lexeme h

mark_colon_stops : (m : Mark) → same_mark Colon m ≡ true → mark_strength m ≤ 0
unfolding same_mark mark_number
mark_colon_stops Colon h = omega arith
mark_colon_stops _ h = absurd cc

lexeme_colon_stops : (l : Lexeme) → is_mark_lexeme Colon l ≡ true → lexeme_strength l ≤ 0
lexeme_colon_stops (mark m) h = mark_colon_stops m h
lexeme_colon_stops _ h = absurd cc

colon_stops : (t : Token) → IsMark t Colon → strength (Some t) ≤ 0
colon_stops t h = lexeme_colon_stops t.lexeme h

mark_comma_stops : (m : Mark) → same_mark Comma m ≡ true → mark_strength m ≤ 0
unfolding same_mark mark_number
mark_comma_stops Comma h = omega arith
mark_comma_stops _ h = absurd cc

lexeme_comma_stops : (l : Lexeme) → is_mark_lexeme Comma l ≡ true → lexeme_strength l ≤ 0
lexeme_comma_stops (mark m) h = mark_comma_stops m h
lexeme_comma_stops _ h = absurd cc

comma_stops : (t : Token) → IsMark t Comma → strength (Some t) ≤ 0
comma_stops t h = lexeme_comma_stops t.lexeme h

mark_no_dot : (m : Mark) → same_mark OpenParen m ≡ true → same_mark Dot m ≡ false
unfolding same_mark mark_number
mark_no_dot OpenParen h = refl
mark_no_dot _ h = absurd cc

lexeme_no_dot : (l : Lexeme) → is_mark_lexeme OpenParen l ≡ true → is_mark_lexeme Dot l ≡ false
lexeme_no_dot (mark m) h = mark_no_dot m h
lexeme_no_dot _ h = refl

no_dot : (t : Token) → IsMark t OpenParen → is_mark Dot (Some t) ≡ false
no_dot t h = lexeme_no_dot t.lexeme h

mark_no_comma : (m : Mark) → same_mark CloseParen m ≡ true → same_mark Comma m ≡ false
unfolding same_mark mark_number
mark_no_comma CloseParen h = refl
mark_no_comma _ h = absurd cc

lexeme_no_comma : (l : Lexeme) → is_mark_lexeme CloseParen l ≡ true → is_mark_lexeme Comma l ≡ false
lexeme_no_comma (mark m) h = mark_no_comma m h
lexeme_no_comma _ h = refl

no_comma : (t : Token) → IsMark t CloseParen → is_mark Comma (Some t) ≡ false
no_comma t h = lexeme_no_comma t.lexeme h

dot_begins : (t : Token) → IsMark t Dot → begins_postfix (Some t) ≡ true
dot_begins t h = or_left (is_mark Dot (Some t)) (is_mark OpenParen (Some t)) h

open_begins : (t : Token) → IsMark t OpenParen → begins_postfix (Some t) ≡ true
open_begins t h = or_right (is_mark Dot (Some t)) h

no_level : (c : ℕ) → 0 ≡ suc c → ⊥
no_level c e = omega arith

one_less : (c d : ℕ) → suc d ≡ suc c → c ≡ d
one_less c d e = omega arith

expect_behind : (m : Mark) (t : Token) (ts : List Token) (n : ℕ) (j : Input) → IsMark t m → expect m (behind (t ∷ ts) n j) ≡ Ok (tt, behind ts n j)
expect_behind m t ts n j h = if_true _ _ h refl

expect_last : (m : Mark) (t : Token) (j : Input) → IsMark t m → expect m (behind (t ∷ []) 0 j) ≡ Ok (tt, j)
expect_last m t j h = if_true _ _ h (ap (λ i. Ok (tt, i)) (last_behind j))

name_last : (n : List ℕ) (t : Token) (j : Input) → name_of (Some t) ≡ Some n → any_name (behind (t ∷ []) 0 j) ≡ Ok (n, j)
name_last n t j h = found _ _ h (ap (λ i. Ok (n, i)) (last_behind j))

-- Operators between operands

joined_goes : (make : Expr → Expr → Expr) (operand : Parser Expr) (y z : Expr) (o : Token) (vs : List Token) (n : ℕ) (j : Input) → operand (behind vs n j) ≡ Ok (z, j) → joined make operand y (behind (o ∷ vs) (1 + n) j) ≡ Ok (make y z, j)
unfolding joined
joined_goes make operand y z o vs n j h = ok_then _ (node_behind o vs n j) (ok_then _ h refl)

module _ (table : Mark → Option BinOp) (operand : Parser Expr) (level : ℕ) (tells : Tells (begins_operator table) (suc level)) (Operand : ℕ → List Token → Expr → Type 0) (complete : (k : ℕ) (ts : List Token) (x : Expr) (j : Input) → Operand k ts x → strength (ahead j) ≤ suc level → operand (behind ts k j) ≡ Ok (x, j)) where
  -- reading these tokens is reading on behind them
  abbrev ChainGoesOn : List Token → ℕ → Expr → Input → Type 0
  ChainGoesOn = GoesOn (chain table operand) (begins_operator table) (operator table operand)

  chain_first : (k : ℕ) (ts : List Token) (x : Expr) (j : Input) → Operand k ts x → strength (ahead j) ≤ suc level → ChainGoesOn ts k x j
  unfolding chain
  chain_first k ts x j p s = goes_first (chain table operand) (begins_operator table) (operator table operand) ts k x j (ok_then _ (complete k ts x j p s) refl)

  operator_goes : (op : BinOp) (y z : Expr) (o : Token) (vs : List Token) (n : ℕ) (j : Input) → IsOperator table o op → Operand n vs z → strength (ahead j) ≤ suc level → operator table operand y (behind (o ∷ vs) (1 + n) j) ≡ Ok (Binary op y z, j)
  unfolding operator
  operator_goes op y z o vs n j is q s = found _ _ is (joined_goes (Binary op) operand y z o vs n j (complete n vs z j q s))

  chain_more : (k m n : ℕ) (ts us : List Token) (o : Token) (vs : List Token) (op : BinOp) (y z x : Expr) (j : Input) → ((l : Input) → strength (ahead l) ≤ suc level → ChainGoesOn us m y l) → k ≡ m + 1 + n → ts ≡ us ++ o ∷ vs → x ≡ Binary op y z → IsOperator table o op → Operand n vs z → strength (ahead j) ≤ suc level → ChainGoesOn ts k x j
  chain_more k m n ts us o vs op y z x j before k_is ts_is x_is is q s =
      let begins : begins_operator table (Some o) ≡ true = ap is_some is in
      let g = goes_more (chain table operand) (begins_operator table) (operator table operand) ts us o vs k m (1 + n) y (Binary op y z) j (before (behind (o ∷ vs) (1 + n) j) (at_strength (Some o) (suc level) tells begins)) (omega arith) ts_is begins (operator_goes op y z o vs n j is q s) in
      subst (λ w. ChainGoesOn ts k w j) (sym x_is) g

  chain_last : (k : ℕ) (ts : List Token) (x : Expr) (j : Input) → ChainGoesOn ts k x j → strength (ahead j) ≤ level → chain table operand (behind ts k j) ≡ Ok (x, j)
  chain_last k ts x j g s = goes_last (chain table operand) (begins_operator table) (operator table operand) ts k x j g (fails (ahead j) level tells s)

-- likewise for one mark between operands
module _ (m : Mark) (make : Expr → Expr → Expr) (whole operand : Parser Expr) (level : ℕ) (tells : Tells (is_mark m) (suc level)) (Operand : ℕ → List Token → Expr → Type 0) (complete : (k : ℕ) (ts : List Token) (x : Expr) (j : Input) → Operand k ts x → strength (ahead j) ≤ suc level → operand (behind ts k j) ≡ Ok (x, j)) where
  abbrev MarksGoOn : List Token → ℕ → Expr → Input → Type 0
  MarksGoOn = GoesOn whole (is_mark m) (joined make operand)

  marks_more : (k a n : ℕ) (ts us : List Token) (o : Token) (vs : List Token) (y z x : Expr) (j : Input) → ((l : Input) → strength (ahead l) ≤ suc level → MarksGoOn us a y l) → k ≡ a + 1 + n → ts ≡ us ++ o ∷ vs → x ≡ make y z → IsMark o m → Operand n vs z → strength (ahead j) ≤ suc level → MarksGoOn ts k x j
  marks_more k a n ts us o vs y z x j before k_is ts_is x_is is q s =
      let g = goes_more whole (is_mark m) (joined make operand) ts us o vs k a (1 + n) y (make y z) j (before (behind (o ∷ vs) (1 + n) j) (at_strength (Some o) (suc level) tells is)) (omega arith) ts_is is (joined_goes make operand y z o vs n j (complete n vs z j q s)) in
      subst (λ w. MarksGoOn ts k w j) (sym x_is) g

  marks_last : (k : ℕ) (ts : List Token) (x : Expr) (j : Input) → MarksGoOn ts k x j → strength (ahead j) ≤ level → whole (behind ts k j) ≡ Ok (x, j)
  marks_last k ts x j g s = goes_last whole (is_mark m) (joined make operand) ts k x j g (fails (ahead j) level tells s)

-- Operands

-- arguments without what stands around them
abbrev pub listed : Inner → Parser (List Expr)
listed v i = elim (v.expr i) [ Ok r ↦ while_next (is_mark Comma) (argument v) (r.0 ∷ []) r.1 | Err e ↦ Err e ]

literal_or_name_goes : (v : Inner) (t : Token) (x : Expr) (j : Input) → atom_of (Some t) ≡ Some x → primary v (behind (t ∷ []) 1 j) ≡ Ok (x, j)
unfolding primary atom
literal_or_name_goes v t x j h = if_false _ _ (no_open t x h) (found _ _ h (ok_then _ (node_last t j) refl))

module _ (d : ℕ) (v : Inner) (inside : CompleteInside d v) where
  parens_go : (c k : ℕ) (o : Token) (us : List Token) (z : Token) (x : Expr) (j : Input) → d ≡ suc c → IsMark o OpenParen → IsExpr c k us x → IsMark z CloseParen → primary v (behind (o ∷ us ++ z ∷ []) k j) ≡ Ok (x, j)
  unfolding primary parens
  parens_go c k o us z x j d_is open_is p close_is =
      let before : behind (us ++ z ∷ []) k j ≡ behind us k (behind (z ∷ []) 0 j) = behind_both us (z ∷ []) k 0 j refl (omega arith) in
      let y : v.expr (behind (us ++ z ∷ []) k j) ≡ Ok (x, behind (z ∷ []) 0 j) = ap v.expr before ∙ inside.expr c d_is k us x (behind (z ∷ []) 0 j) p (close_stops z close_is) in
      if_true _ _ open_is (ok_then _ (inside.enter c d_is (behind (o ∷ us ++ z ∷ []) k j)) (ok_then _ y (ok_then _ (expect_last CloseParen z j close_is) refl)))

  primary_goes : {k : ℕ} {ts : List Token} {x : Expr} (j : Input) → IsPrimary d k ts x → primary v (behind ts k j) ≡ Ok (x, j)
  primary_goes j (literal t w k_is ts_is x_is is) = rw (k_is, ts_is, x_is) (literal_or_name_goes v t (Lit w) j (literal_atom t w is))
  primary_goes j (name t n k_is ts_is x_is is none) = rw (k_is, ts_is, x_is) (literal_or_name_goes v t (Name n) j (name_atom t n is none))
  primary_goes {k = k} {x = x} j (in_parens c o us z d_is ts_is open_is p close_is) = rw ts_is (parens_go c k o us z x j d_is open_is p close_is)

  member_goes : (y : Expr) (o t : Token) (n : List ℕ) (j : Input) → IsMark o Dot → name_of (Some t) ≡ Some n → postfix v y (behind (o ∷ t ∷ []) 1 j) ≡ Ok (Member y n, j)
  unfolding postfix member
  member_goes y o t n j dot name_is = if_true _ _ dot (ok_then _ (node_behind o (t ∷ []) 0 j) (ok_then _ (name_last n t j name_is) refl))

  call_goes : (c n : ℕ) (y : Expr) (xs : List Expr) (o : Token) (vs : List Token) (j : Input) → d ≡ suc c → IsMark o OpenParen → arguments v (behind vs n j) ≡ Ok (xs, j) → postfix v y (behind (o ∷ vs) (1 + n) j) ≡ Ok (Call y xs, j)
  unfolding postfix call
  call_goes c n y xs o vs j d_is open_is h = if_false _ _ (no_dot o open_is) (ok_then _ (inside.enter c d_is (behind (o ∷ vs) (1 + n) j)) (ok_then _ (node_behind o vs n j) (ok_then _ h refl)))

  none_go : (z : Token) (j : Input) → IsMark z CloseParen → arguments v (behind (z ∷ []) 0 j) ≡ Ok ([], j)
  unfolding arguments
  none_go z j close_is = if_true _ _ close_is (ap (λ i. Ok ([], i)) (last_behind j))

  argument_goes : (c n : ℕ) (ys : List Expr) (z : Expr) (o : Token) (vs : List Token) (j : Input) → d ≡ suc c → IsExpr c n vs z → strength (ahead j) ≤ 0 → argument v ys (behind (o ∷ vs) n j) ≡ Ok (ys ++ z ∷ [], j)
  unfolding argument
  argument_goes c n ys z o vs j d_is q s = ok_then _ (inside.expr c d_is n vs z j q s) refl

  arguments_go : {c k : ℕ} {ts : List Token} {xs : List Expr} → AreArguments c k ts xs → (j : Input) → d ≡ suc c → strength (ahead j) ≤ 0 → GoesOn (listed v) (is_mark Comma) (argument v) ts k xs j
  arguments_go {c = c} {k = k} {ts = ts} (one_argument x xs_is p) j d_is s =
      goes_as (goes_first (listed v) (is_mark Comma) (argument v) ts k (x ∷ []) j (ok_then _ (inside.expr c d_is k ts x j p s) refl)) xs_is
  arguments_go {c = c} {k = k} {ts = ts} (more_arguments i n us o vs ys z k_is ts_is xs_is p comma q) j d_is s =
      goes_as (goes_more (listed v) (is_mark Comma) (argument v) ts us o vs k i n ys (ys ++ z ∷ []) j (arguments_go p (behind (o ∷ vs) n j) d_is (comma_stops o comma)) k_is ts_is comma (argument_goes c n ys z o vs j d_is q s)) xs_is

  some_arguments_go : (c n : ℕ) (vs : List Token) (z : Token) (xs : List Expr) (j : Input) → d ≡ suc c → AreArguments c n vs xs → IsMark z CloseParen → some_arguments v (behind vs n (behind (z ∷ []) 0 j)) ≡ Ok (xs, j)
  unfolding some_arguments
  some_arguments_go c n vs z xs j d_is p close_is =
      let l : Input = behind (z ∷ []) 0 j in
      let h : listed v (behind vs n l) ≡ Ok (xs, l) = goes_last (listed v) (is_mark Comma) (argument v) vs n xs l (arguments_go p l d_is (close_stops z close_is)) (no_comma z close_is) in
      let b = bind_ok (v.expr (behind vs n l)) _ _ h in
      ok_then _ b.first (ok_then _ b.onward (ok_then _ (expect_last CloseParen z j close_is) refl))

  given_go : (c n : ℕ) (vs : List Token) (z : Token) (xs : List Expr) (j : Input) → d ≡ suc c → AreArguments c n vs xs → IsMark z CloseParen → arguments v (behind (vs ++ z ∷ []) n j) ≡ Ok (xs, j)
  unfolding arguments
  given_go c n vs z xs j d_is p close_is =
      let b = begins_left vs (z ∷ []) refl (arguments_begin p) in
      let no_end : is_mark CloseParen (ahead (behind (vs ++ z ∷ []) n j)) ≡ false = ap (is_mark CloseParen) (ahead_begins b n j) ∙ no_close b.token b.begins in
      if_false _ _ no_end (ap (some_arguments v) (behind_both vs (z ∷ []) n 0 j refl (omega arith)) ∙ some_arguments_go c n vs z xs j d_is p close_is)

  postfix_goes : {k : ℕ} {ts : List Token} {x : Expr} → IsPostfix d k ts x → (j : Input) → GoesOn (postfixes v) begins_postfix (postfix v) ts k x j
  unfolding postfixes
  postfix_goes {k = k} {ts = ts} {x = x} (a_primary p) j = goes_first (postfixes v) begins_postfix (postfix v) ts k x j (ok_then _ (primary_goes j p) refl)
  postfix_goes {k = k} {ts = ts} (a_member i us o t y n k_is ts_is x_is p dot name_is) j =
      goes_as (goes_more (postfixes v) begins_postfix (postfix v) ts us o (t ∷ []) k i 1 y (Member y n) j (postfix_goes p (behind (o ∷ t ∷ []) 1 j)) k_is ts_is (dot_begins o dot) (member_goes y o t n j dot name_is)) x_is
  postfix_goes {k = k} {ts = ts} (call_none c i us o z y d_is k_is ts_is x_is p open_is close_is) j =
      goes_as (goes_more (postfixes v) begins_postfix (postfix v) ts us o (z ∷ []) k i 1 y (Call y []) j (postfix_goes p (behind (o ∷ z ∷ []) 1 j)) k_is ts_is (open_begins o open_is) (call_goes c 0 y [] o (z ∷ []) j d_is open_is (none_go z j close_is))) x_is
  postfix_goes {k = k} {ts = ts} (a_call c i n us o vs z y ys d_is k_is ts_is x_is p open_is are close_is) j =
      goes_as (goes_more (postfixes v) begins_postfix (postfix v) ts us o (vs ++ z ∷ []) k i (1 + n) y (Call y ys) j (postfix_goes p (behind (o ∷ vs ++ z ∷ []) (1 + n) j)) (omega arith) (ts_is ∙ append_assoc us (o ∷ vs) (z ∷ [])) (open_begins o open_is) (call_goes c n y ys o (vs ++ z ∷ []) j d_is open_is (given_go c n vs z ys j d_is are close_is))) x_is

  operated_goes : (c i : ℕ) (o : Token) (us : List Token) (op : UnOp) (y : Expr) (j : Input) → d ≡ suc c → IsOperator unary_operator o op → IsUnary c i us y → strength (ahead j) ≤ 7 → unary_in v (behind (o ∷ us) (1 + i) j) ≡ Ok (Unary op y, j)
  unfolding unary_in operated
  operated_goes c i o us op y j d_is is p s = found _ _ is (ok_then _ (inside.enter c d_is (behind (o ∷ us) (1 + i) j)) (ok_then _ (node_behind o us i j) (ok_then _ (inside.unary c d_is i us y j p s) refl)))

  unary_goes : (k : ℕ) (ts : List Token) (x : Expr) (j : Input) → IsUnary d k ts x → strength (ahead j) ≤ 7 → unary_in v (behind ts k j) ≡ Ok (x, j)
  unfolding unary_in
  unary_goes k ts x j (an_operated c i o us op y d_is k_is ts_is x_is is p) s = rw (k_is, ts_is, x_is) (operated_goes c i o us op y j d_is is p s)
  unary_goes k ts x j (a_postfix p) s =
      let b = postfix_begins p in
      let none : looked_up unary_operator (ahead (behind ts k j)) ≡ None = ap (looked_up unary_operator) (ahead_begins b k j) ∙ no_unary b.token b.begins in
      missing _ _ none (goes_last (postfixes v) begins_postfix (postfix v) ts k x j (postfix_goes p j) (fails (ahead j) 7 tells_postfix s))

  product_list_goes : {k : ℕ} {ts : List Token} {x : Expr} → IsProduct d k ts x → (j : Input) → strength (ahead j) ≤ 7 → ChainGoesOn product_operator (unary_in v) 6 tells_product (IsUnary d) unary_goes ts k x j
  product_list_goes {k = k} {ts = ts} {x = x} (a_unary p) j s = chain_first product_operator (unary_in v) 6 tells_product (IsUnary d) unary_goes k ts x j p s
  product_list_goes {k = k} {ts = ts} {x = x} (times i n us o vs op y z k_is ts_is x_is p is q) j s = chain_more product_operator (unary_in v) 6 tells_product (IsUnary d) unary_goes k i n ts us o vs op y z x j (product_list_goes p) k_is ts_is x_is is q s

  product_goes : (k : ℕ) (ts : List Token) (x : Expr) (j : Input) → IsProduct d k ts x → strength (ahead j) ≤ 6 → products v (behind ts k j) ≡ Ok (x, j)
  unfolding products
  product_goes k ts x j p s = chain_last product_operator (unary_in v) 6 tells_product (IsUnary d) unary_goes k ts x j (product_list_goes p j (omega arith)) s

  sum_list_goes : {k : ℕ} {ts : List Token} {x : Expr} → IsSum d k ts x → (j : Input) → strength (ahead j) ≤ 6 → ChainGoesOn sum_operator (products v) 5 tells_sum (IsProduct d) product_goes ts k x j
  sum_list_goes {k = k} {ts = ts} {x = x} (product p) j s = chain_first sum_operator (products v) 5 tells_sum (IsProduct d) product_goes k ts x j p s
  sum_list_goes {k = k} {ts = ts} {x = x} (plus i n us o vs op y z k_is ts_is x_is p is q) j s = chain_more sum_operator (products v) 5 tells_sum (IsProduct d) product_goes k i n ts us o vs op y z x j (sum_list_goes p) k_is ts_is x_is is q s

  sum_goes : (k : ℕ) (ts : List Token) (x : Expr) (j : Input) → IsSum d k ts x → strength (ahead j) ≤ 5 → sums v (behind ts k j) ≡ Ok (x, j)
  unfolding sums
  sum_goes k ts x j p s = chain_last sum_operator (products v) 5 tells_sum (IsProduct d) product_goes k ts x j (sum_list_goes p j (omega arith)) s

  order_list_goes : {k : ℕ} {ts : List Token} {x : Expr} → IsOrder d k ts x → (j : Input) → strength (ahead j) ≤ 5 → ChainGoesOn order_operator (sums v) 4 tells_order (IsSum d) sum_goes ts k x j
  order_list_goes {k = k} {ts = ts} {x = x} (sum p) j s = chain_first order_operator (sums v) 4 tells_order (IsSum d) sum_goes k ts x j p s
  order_list_goes {k = k} {ts = ts} {x = x} (compare i n us o vs op y z k_is ts_is x_is p is q) j s = chain_more order_operator (sums v) 4 tells_order (IsSum d) sum_goes k i n ts us o vs op y z x j (order_list_goes p) k_is ts_is x_is is q s

  order_goes : (k : ℕ) (ts : List Token) (x : Expr) (j : Input) → IsOrder d k ts x → strength (ahead j) ≤ 4 → orders v (behind ts k j) ≡ Ok (x, j)
  unfolding orders
  order_goes k ts x j p s = chain_last order_operator (sums v) 4 tells_order (IsSum d) sum_goes k ts x j (order_list_goes p j (omega arith)) s

  equality_list_goes : {k : ℕ} {ts : List Token} {x : Expr} → IsEquality d k ts x → (j : Input) → strength (ahead j) ≤ 4 → ChainGoesOn equality_operator (orders v) 3 tells_equality (IsOrder d) order_goes ts k x j
  equality_list_goes {k = k} {ts = ts} {x = x} (order p) j s = chain_first equality_operator (orders v) 3 tells_equality (IsOrder d) order_goes k ts x j p s
  equality_list_goes {k = k} {ts = ts} {x = x} (equal i n us o vs op y z k_is ts_is x_is p is q) j s = chain_more equality_operator (orders v) 3 tells_equality (IsOrder d) order_goes k i n ts us o vs op y z x j (equality_list_goes p) k_is ts_is x_is is q s

  equality_goes : (k : ℕ) (ts : List Token) (x : Expr) (j : Input) → IsEquality d k ts x → strength (ahead j) ≤ 3 → equalities v (behind ts k j) ≡ Ok (x, j)
  unfolding equalities
  equality_goes k ts x j p s = chain_last equality_operator (orders v) 3 tells_equality (IsOrder d) order_goes k ts x j (equality_list_goes p j (omega arith)) s

  conjunction_list_goes : {k : ℕ} {ts : List Token} {x : Expr} → IsConjunction d k ts x → (j : Input) → strength (ahead j) ≤ 3 → MarksGoOn DoubleAmpersand (λ y z. And y z) (conjunctions v) (equalities v) 2 tells_conjunction (IsEquality d) equality_goes ts k x j
  unfolding conjunctions
  conjunction_list_goes {k = k} {ts = ts} {x = x} (equality p) j s = goes_first (conjunctions v) (is_mark DoubleAmpersand) (joined (λ y z. And y z) (equalities v)) ts k x j (ok_then _ (equality_goes k ts x j p s) refl)
  conjunction_list_goes {k = k} {ts = ts} {x = x} (both i n us o vs y z k_is ts_is x_is p is q) j s = marks_more DoubleAmpersand (λ y z. And y z) (conjunctions v) (equalities v) 2 tells_conjunction (IsEquality d) equality_goes k i n ts us o vs y z x j (conjunction_list_goes p) k_is ts_is x_is is q s

  conjunction_goes : (k : ℕ) (ts : List Token) (x : Expr) (j : Input) → IsConjunction d k ts x → strength (ahead j) ≤ 2 → conjunctions v (behind ts k j) ≡ Ok (x, j)
  conjunction_goes k ts x j p s = marks_last DoubleAmpersand (λ y z. And y z) (conjunctions v) (equalities v) 2 tells_conjunction (IsEquality d) equality_goes k ts x j (conjunction_list_goes p j (omega arith)) s

  disjunction_list_goes : {k : ℕ} {ts : List Token} {x : Expr} → IsDisjunction d k ts x → (j : Input) → strength (ahead j) ≤ 2 → MarksGoOn DoubleBar (λ y z. Or y z) (disjunctions v) (conjunctions v) 1 tells_disjunction (IsConjunction d) conjunction_goes ts k x j
  unfolding disjunctions
  disjunction_list_goes {k = k} {ts = ts} {x = x} (conjunction p) j s = goes_first (disjunctions v) (is_mark DoubleBar) (joined (λ y z. Or y z) (conjunctions v)) ts k x j (ok_then _ (conjunction_goes k ts x j p s) refl)
  disjunction_list_goes {k = k} {ts = ts} {x = x} (either i n us o vs y z k_is ts_is x_is p is q) j s = marks_more DoubleBar (λ y z. Or y z) (disjunctions v) (conjunctions v) 1 tells_disjunction (IsConjunction d) conjunction_goes k i n ts us o vs y z x j (disjunction_list_goes p) k_is ts_is x_is is q s

  disjunction_goes : (k : ℕ) (ts : List Token) (x : Expr) (j : Input) → IsDisjunction d k ts x → strength (ahead j) ≤ 1 → disjunctions v (behind ts k j) ≡ Ok (x, j)
  disjunction_goes k ts x j p s = marks_last DoubleBar (λ y z. Or y z) (disjunctions v) (conjunctions v) 1 tells_disjunction (IsConjunction d) conjunction_goes k ts x j (disjunction_list_goes p j (omega arith)) s

  branches_go : (c m n : ℕ) (q : Token) (vs : List Token) (p : Token) (ws : List Token) (x y z : Expr) (j : Input) → d ≡ suc c → IsExpr c m vs y → IsMark p Colon → IsExpr c n ws z → strength (ahead j) ≤ 0 → branches v x (behind (q ∷ vs ++ p ∷ ws) (1 + (m + n)) j) ≡ Ok (Cond x y z, j)
  unfolding branches
  branches_go c m n q vs p ws x y z j d_is first colon second s =
      let l : Input = behind (p ∷ ws) n j in
      let read : v.expr (behind (vs ++ p ∷ ws) (m + n) j) ≡ Ok (y, l) = ap v.expr (behind_both vs (p ∷ ws) m n j refl refl) ∙ inside.expr c d_is m vs y l first (colon_stops p colon) in
      ok_then _ (inside.enter c d_is (behind (q ∷ vs ++ p ∷ ws) (1 + (m + n)) j)) (ok_then _ (node_behind q (vs ++ p ∷ ws) (m + n) j) (ok_then _ read (ok_then _ (expect_behind Colon p ws n j colon) (ok_then _ (inside.expr c d_is n ws z j second s) refl))))

  conditional_goes : (c k i m n : ℕ) (ts us : List Token) (q : Token) (vs : List Token) (p : Token) (ws : List Token) (x y z : Expr) (j : Input) → d ≡ suc c → k ≡ i + 1 + m + n → ts ≡ us ++ q ∷ vs ++ p ∷ ws → IsDisjunction d i us x → IsMark q Question → IsExpr c m vs y → IsMark p Colon → IsExpr c n ws z → strength (ahead j) ≤ 0 → expr_in v (behind ts k j) ≡ Ok (Cond x y z, j)
  unfolding expr_in conditional
  conditional_goes c k i m n ts us q vs p ws x y z j d_is k_is ts_is test question first colon second s =
      let l : Input = behind (q ∷ vs ++ p ∷ ws) (1 + (m + n)) j in
      let read : disjunctions v (behind ts k j) ≡ Ok (x, l) = ap (disjunctions v) (behind_both us (q ∷ vs ++ p ∷ ws) i (1 + (m + n)) j (ts_is ∙ append_assoc us (q ∷ vs) (p ∷ ws)) (omega arith)) ∙ disjunction_goes i us x l test (at_strength (Some q) 1 tells_question question) in
      ok_then _ read (if_true _ _ question (branches_go c m n q vs p ws x y z j d_is first colon second s))

  expr_goes : (k : ℕ) (ts : List Token) (x : Expr) (j : Input) → IsExpr d k ts x → strength (ahead j) ≤ 0 → expr_in v (behind ts k j) ≡ Ok (x, j)
  unfolding expr_in conditional
  expr_goes k ts x j (disjunction p) s = ok_then _ (disjunction_goes k ts x j p (omega arith)) (if_false _ _ (fails (ahead j) 0 tells_question s) refl)
  expr_goes k ts x j (a_conditional c i m n us q vs p ws y z w d_is k_is ts_is x_is test question first colon second) s = rw x_is (conditional_goes c k i m n ts us q vs p ws y z w j d_is k_is ts_is test question first colon second s)

-- All levels

pub complete : (d : ℕ) → CompleteInside d (inner d)
unfolding inner
complete zero = record {
  enter = λ c e i. absurd (no_level c e);
  expr = λ c e k ts x j p s. absurd (no_level c e);
  unary = λ c e k ts x j p s. absurd (no_level c e);
}
complete (suc d) = record {
  enter = λ c e i. refl;
  expr = λ c e k ts x j p s. expr_goes d (inner d) (complete d) k ts x j (subst (λ n. IsExpr n k ts x) (one_less c d e) p) s;
  unary = λ c e k ts x j p s. unary_goes d (inner d) (complete d) k ts x j (subst (λ n. IsUnary n k ts x) (one_less c d e) p) s;
}

pub expr_complete : (d k : ℕ) (ts : List Token) (x : Expr) (j : Input) → IsExpr d k ts x → strength (ahead j) ≤ 0 → expr d (behind ts k j) ≡ Ok (x, j)
unfolding expr
expr_complete d = expr_goes d (inner d) (complete d)
