-- The place of a value lies within the value's own tokens.
use Rattle.std.proofs.Common.{◌≡◌, ℕ, zero, suc, Bool, true, false, if◌then◌else◌, List, [], ◌∷◌, ◌++◌, Some, refl, sym, ap, subst, ◌∙◌, append_assoc}
use Rattle.std.proofs.lemmas.List.{append-nil}
use Rattle.qml_ast.specs.declared.expr.Expr.{Expr}
use Rattle.qml_ast.specs.declared.expr.Expr.TheVariants.{Lit, Name}
use Rattle.qml_ast.specs.declared.expr.UnOp.{UnOp}
use Rattle.qml_ast.specs.declared.span.Span.{Span}
use Rattle.qml_grammar.specs.Documents.{is_literal, behind_parens, place_of, value_place}
use Rattle.qml_grammar.specs.ExpressionGrammar.{IsMark, IsOperator, IsPrimary, literal, name, parens, IsPostfix, primary, member, call_none, call, IsUnary, operated, postfix, IsProduct, unary, times, IsSum, product, plus, IsOrder, sum, compare, IsEquality, order, equal, IsConjunction, equality, both, IsDisjunction, conjunction, either, IsExpr, disjunction, conditional}
use Rattle.qml_grammar.specs.Lexemes.{Lexeme, mark, Token, is_mark, is_mark_lexeme, looked_up, unary_operator}
use Rattle.qml_grammar.specs.Marks.{same_mark, mark_number}
use Rattle.qml_grammar.specs.declared.mark.Mark.{Mark}
use Rattle.qml_grammar.specs.declared.mark.Mark.TheVariants.{OpenParen, Plus, Minus, Bang}
use Rattle.grammar_laws.proofs.Behind.{passed}
use Rattle.grammar_laws.proofs.First.{literal_atom, name_atom, no_open}
use Rattle.document_laws.proofs.Steps.{no_level, one_less}

-- behind the parentheses that the tokens begin with stands another token of them
pub record HasOther (ts : List Token) : Type 0 where
  pub token : Token
  pub others : List Token
  pub is : (ws : List Token) → behind_parens (ts ++ ws) ≡ token ∷ others ++ ws

other_token : (t : Token) (us : List Token) → is_mark OpenParen (Some t) ≡ false → HasOther (t ∷ us)
other_token t us h = record { token = t; others = us; is = λ ws. rw (behind_parens, h) refl }

other_left : {ts : List Token} (us vs : List Token) → ts ≡ us ++ vs → HasOther us → HasOther ts
other_left us vs e b = record {
  token = b.token;
  others = b.others ++ vs;
  is = λ ws. ap (λ ts. behind_parens (ts ++ ws)) e ∙ (ap behind_parens (append_assoc us vs ws) ∙ (b.is (vs ++ ws) ∙ ap (λ us. b.token ∷ us) (sym (append_assoc b.others vs ws))));
}

other_behind : (o : Token) (us : List Token) → IsMark o OpenParen → HasOther us → HasOther (o ∷ us)
other_behind o us open_is b = record { token = b.token; others = b.others; is = λ ws. passed _ _ open_is (b.is ws) }

mark_operator_no_open : (m : Mark) (op : UnOp) → unary_operator m ≡ Some op → same_mark OpenParen m ≡ false
unfolding same_mark mark_number
mark_operator_no_open Minus op h = refl
mark_operator_no_open Plus op h = refl
mark_operator_no_open Bang op h = refl
mark_operator_no_open _ op h = absurd cc

lexeme_operator_no_open : (l : Lexeme) (s : Span) (op : UnOp) → looked_up unary_operator (Some (record { lexeme = l; span = s })) ≡ Some op → is_mark_lexeme OpenParen l ≡ false
lexeme_operator_no_open (mark m) s op h = mark_operator_no_open m op h
lexeme_operator_no_open _ s op h = refl

operator_no_open : (o : Token) (op : UnOp) → IsOperator unary_operator o op → is_mark OpenParen (Some o) ≡ false
operator_no_open o op h = lexeme_operator_no_open o.lexeme o.span op h

module _ (d : ℕ) (deeper : (c k : ℕ) (ts : List Token) (x : Expr) → d ≡ suc c → IsExpr c k ts x → HasOther ts) where
  primary_other : {k : ℕ} {ts : List Token} {x : Expr} → IsPrimary d k ts x → HasOther ts
  primary_other (literal t w k_is ts_is x_is is) = subst HasOther (sym ts_is) (other_token t [] (no_open t (Lit w) (literal_atom t w is)))
  primary_other (name t n k_is ts_is x_is is none) = subst HasOther (sym ts_is) (other_token t [] (no_open t (Name n) (name_atom t n is none)))
  primary_other {k = k} {x = x} (parens c o us z d_is ts_is open_is p close_is) = subst HasOther (sym ts_is) (other_behind o (us ++ z ∷ []) open_is (other_left us (z ∷ []) refl (deeper c k us x d_is p)))

  postfix_other : {k : ℕ} {ts : List Token} {x : Expr} → IsPostfix d k ts x → HasOther ts
  postfix_other (primary p) = primary_other p
  postfix_other (member i us o t y n k_is ts_is x_is p dot name_is) = other_left us (o ∷ t ∷ []) ts_is (postfix_other p)
  postfix_other (call_none c i us o z y d_is k_is ts_is x_is p open_is close_is) = other_left us (o ∷ z ∷ []) ts_is (postfix_other p)
  postfix_other (call c i j us o vs z y ys d_is k_is ts_is x_is p open_is are close_is) = other_left us (o ∷ vs ++ z ∷ []) (ts_is ∙ append_assoc us (o ∷ vs) (z ∷ [])) (postfix_other p)

  unary_other : {k : ℕ} {ts : List Token} {x : Expr} → IsUnary d k ts x → HasOther ts
  unary_other (operated c i o us op y d_is k_is ts_is x_is is p) = subst HasOther (sym ts_is) (other_token o us (operator_no_open o op is))
  unary_other (postfix p) = postfix_other p

  product_other : {k : ℕ} {ts : List Token} {x : Expr} → IsProduct d k ts x → HasOther ts
  product_other (unary p) = unary_other p
  product_other (times i j us o vs op y z k_is ts_is x_is p is q) = other_left us (o ∷ vs) ts_is (product_other p)

  sum_other : {k : ℕ} {ts : List Token} {x : Expr} → IsSum d k ts x → HasOther ts
  sum_other (product p) = product_other p
  sum_other (plus i j us o vs op y z k_is ts_is x_is p is q) = other_left us (o ∷ vs) ts_is (sum_other p)

  order_other : {k : ℕ} {ts : List Token} {x : Expr} → IsOrder d k ts x → HasOther ts
  order_other (sum p) = sum_other p
  order_other (compare i j us o vs op y z k_is ts_is x_is p is q) = other_left us (o ∷ vs) ts_is (order_other p)

  equality_other : {k : ℕ} {ts : List Token} {x : Expr} → IsEquality d k ts x → HasOther ts
  equality_other (order p) = order_other p
  equality_other (equal i j us o vs op y z k_is ts_is x_is p is q) = other_left us (o ∷ vs) ts_is (equality_other p)

  conjunction_other : {k : ℕ} {ts : List Token} {x : Expr} → IsConjunction d k ts x → HasOther ts
  conjunction_other (equality p) = equality_other p
  conjunction_other (both i j us o vs y z k_is ts_is x_is p is q) = other_left us (o ∷ vs) ts_is (conjunction_other p)

  disjunction_other : {k : ℕ} {ts : List Token} {x : Expr} → IsDisjunction d k ts x → HasOther ts
  disjunction_other (conjunction p) = conjunction_other p
  disjunction_other (either i j us o vs y z k_is ts_is x_is p is q) = other_left us (o ∷ vs) ts_is (disjunction_other p)

  expr_other : (k : ℕ) (ts : List Token) (x : Expr) → IsExpr d k ts x → HasOther ts
  expr_other k ts x (disjunction p) = disjunction_other p
  expr_other k ts x (conditional c i j l us o vs p ws y z w d_is k_is ts_is x_is q is r colon s) = other_left us (o ∷ vs ++ p ∷ ws) (ts_is ∙ append_assoc us (o ∷ vs) (p ∷ ws)) (disjunction_other q)

has_other : (d k : ℕ) (ts : List Token) (x : Expr) → IsExpr d k ts x → HasOther ts
has_other zero = expr_other zero (λ c k ts x e p. absurd (no_level c e))
has_other (suc d) = expr_other (suc d) (λ c k ts x e p. has_other d k ts x (subst (λ n. IsExpr n k ts x) (one_less c d e) p))

place_from : (b : Bool) (t : Token) (us ws : List Token) (end : Span) → HasOther (t ∷ us) → (if b then place_of (behind_parens (t ∷ us ++ ws)) end else place_of (t ∷ us ++ ws) end) ≡ (if b then place_of (behind_parens (t ∷ us)) t.span else place_of (t ∷ us) t.span)
place_from false t us ws end o = refl
place_from true t us ws end o =
    let whole = ap behind_parens (sym (append-nil (t ∷ us))) ∙ o.is [] in
    ap (λ ts. place_of ts end) (o.is ws) ∙ sym (ap (λ ts. place_of ts t.span) whole)

-- the place of an expression is the same, whatever stands behind it
pub place_within : (d k : ℕ) (t : Token) (us ws : List Token) (x : Expr) (end : Span) → IsExpr d k (t ∷ us) x → value_place x (t ∷ us ++ ws) end ≡ value_place x (t ∷ us) t.span
place_within d k t us ws x end p = place_from (is_literal x) t us ws end (has_other d k (t ∷ us) x p)
