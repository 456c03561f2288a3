-- What the tokens of an expression tell of names with dots, and of where its literal stands.
use Rattle.std.proofs.Common.{◌≡◌, ℕ, ◌&&◌, ◌||◌, not, Bool, true, false, if◌then◌else◌, is_some, List, [], ◌∷◌, ◌++◌, Option, Some, None, refl, sym, ap, ◌∙◌, append_assoc}
use Rattle.qml_ast.specs.declared.expr.Expr.{Expr}
use Rattle.qml_ast.specs.declared.span.Span.{Span}
use Rattle.qml_grammar.specs.Documents.{behind_parens, place_of, value_place, is_literal}
use Rattle.qml_grammar.specs.ExpressionGrammar.{IsPrimary, literal, name, parens, IsPostfix, primary, member, call_none, call, IsUnary, operated, postfix, IsProduct, unary, times, IsSum, product, plus, IsOrder, sum, compare, IsEquality, order, equal, IsConjunction, equality, both, IsDisjunction, conjunction, either, IsExpr, disjunction, conditional}
use Rattle.qml_grammar.specs.Lexemes.{Lexeme, mark, Token, name_of_lexeme, is_name, is_mark, is_mark_lexeme, unary_operator, product_operator, sum_operator, order_operator, equality_operator}
use Rattle.qml_grammar.specs.Marks.{same_mark, mark_number}
use Rattle.qml_grammar.specs.declared.mark.Mark.{Mark}
use Rattle.qml_grammar.specs.declared.mark.Mark.TheVariants.{OpenParen, CloseParen, Dot, Question, DoubleAmpersand, DoubleBar}
use Rattle.grammar_laws.proofs.Behind.{if_true, if_false, passed, failed}
use Rattle.grammar_laws.proofs.First.{literal_atom, name_atom, no_open, or_right, or_left}
use Rattle.fault_laws.proofs.Dotted.{not_true, settled, settled_off, settled_on, second_true, first_true}

-- Marks that are no dot

mark_no_dot : (test : Mark → Bool) → test Dot ≡ false → (m : Mark) → test m ≡ true → same_mark Dot m ≡ false
unfolding same_mark mark_number
mark_no_dot test none Dot h = absurd (let e : false ≡ true = sym none ∙ h in cc)
mark_no_dot test none _ h = refl

pub lexeme_no_dot : (m : Mark) → same_mark m Dot ≡ false → (l : Lexeme) → is_mark_lexeme m l ≡ true → is_mark_lexeme Dot l ≡ false
lexeme_no_dot m none (mark n) h = mark_no_dot (same_mark m) none n h
lexeme_no_dot m none _ h = refl

operator_no_dot : {A : Type 0} (table : Mark → Option A) → table Dot ≡ None → (l : Lexeme) (op : A) → elim l [ mark m ↦ table m | _ ↦ None ] ≡ Some op → is_mark_lexeme Dot l ≡ false
operator_no_dot table none (mark m) op h = mark_no_dot (λ n. is_some (table n)) (ap is_some none) m (ap is_some h)
operator_no_dot table none _ op h = refl

operator_no_name : {A : Type 0} (table : Mark → Option A) (l : Lexeme) (op : A) → elim l [ mark m ↦ table m | _ ↦ None ] ≡ Some op → is_some (name_of_lexeme l) ≡ false
operator_no_name table (mark m) op h = refl
operator_no_name table _ op h = absurd cc

mark_no_name : (m : Mark) (l : Lexeme) → is_mark_lexeme m l ≡ true → is_some (name_of_lexeme l) ≡ false
mark_no_name m (mark n) h = refl
mark_no_name m _ h = absurd cc

open_no_dot : (o : Token) → is_mark OpenParen (Some o) ≡ true → is_mark Dot (Some o) ≡ false
unfolding same_mark mark_number
open_no_dot o h = lexeme_no_dot OpenParen refl o.lexeme h

question_no_dot : (o : Token) → is_mark Question (Some o) ≡ true → is_mark Dot (Some o) ≡ false
unfolding same_mark mark_number
question_no_dot o h = lexeme_no_dot Question refl o.lexeme h

both_no_dot : (o : Token) → is_mark DoubleAmpersand (Some o) ≡ true → is_mark Dot (Some o) ≡ false
unfolding same_mark mark_number
both_no_dot o h = lexeme_no_dot DoubleAmpersand refl o.lexeme h

either_no_dot : (o : Token) → is_mark DoubleBar (Some o) ≡ true → is_mark Dot (Some o) ≡ false
unfolding same_mark mark_number
either_no_dot o h = lexeme_no_dot DoubleBar refl o.lexeme h

mark_no_open : (m : Mark) → same_mark CloseParen m ≡ true → same_mark OpenParen m ≡ false
unfolding same_mark mark_number
mark_no_open CloseParen h = refl
mark_no_open _ h = absurd cc

close_by : (l : Lexeme) → is_mark_lexeme CloseParen l ≡ true → is_mark_lexeme OpenParen l ≡ false
close_by (mark m) h = mark_no_open m h
close_by _ h = refl

no_open_close : (z : Token) → is_mark CloseParen (Some z) ≡ true → is_mark OpenParen (Some z) ≡ false
no_open_close z h = close_by z.lexeme h

-- More behind what ends a name

more_by : (o t : Token) (us vs : List Token) (b : Bool) → is_mark Dot (Some o) ≡ b → (if b then is_name (Some t) && settled true us else true) ≡ true → (settled true us ≡ true → settled true (us ++ vs) ≡ true) → settled true (o ∷ t ∷ us ++ vs) ≡ true
more_by o t us vs true d h more = settled_on true o t (us ++ vs) d (first_true (is_name (Some t)) _ h) (more (second_true (is_name (Some t)) _ h))
more_by o t us vs false d h more = settled_off true o (t ∷ us ++ vs) d

pub settled_more : (us vs : List Token) → settled true us ≡ true → settled true vs ≡ true → settled true (us ++ vs) ≡ true
settled_more [] vs h g = g
settled_more (o ∷ []) vs h g = settled_off true o vs (not_true (is_mark Dot (Some o)) h)
settled_more (o ∷ t ∷ us) vs h g = more_by o t us vs (is_mark Dot (Some o)) refl h (λ k. settled_more us vs k g)

-- some token is no "("
abbrev pub has_other : List Token → Bool
has_other [] = false
has_other (t ∷ ts) = not (is_mark OpenParen (Some t)) || has_other ts

other_by : (a b c : Bool) → (b ≡ true → c ≡ true) → (a || b) ≡ true → (a || c) ≡ true
other_by true b c more h = refl
other_by false b c more h = more h

or_second : {a b : Bool} → a ≡ false → (a || b) ≡ true → b ≡ true
or_second {a = true} h g = absurd cc
or_second {a = false} h g = g

other_left : (us vs : List Token) → has_other us ≡ true → has_other (us ++ vs) ≡ true
other_left [] vs h = absurd cc
other_left (t ∷ us) vs h = other_by (not (is_mark OpenParen (Some t))) (has_other us) (has_other (us ++ vs)) (λ g. other_left us vs g) h

other_right : (us : List Token) (z : Token) → is_mark OpenParen (Some z) ≡ false → has_other (us ++ z ∷ []) ≡ true
other_right [] z h = or_left (not (is_mark OpenParen (Some z))) false (ap not h)
other_right (t ∷ us) z h = or_right (not (is_mark OpenParen (Some t))) (other_right us z h)

-- What is spelled

pub record Spelled (ts : List Token) : Type 0 where
  pub token : Token
  pub others : List Token
  pub text : ts ≡ token ∷ others
  pub decided : is_name (Some token) ≡ true → settled true others ≡ true
  pub other : has_other ts ≡ true

spelled_one : {ts : List Token} (t : Token) → ts ≡ t ∷ [] → is_mark OpenParen (Some t) ≡ false → Spelled ts
spelled_one t h g = record { token = t; others = []; text = h; decided = λ n. refl; other = ap has_other h ∙ or_left (not (is_mark OpenParen (Some t))) false (ap not g) }

spelled_left : {ts : List Token} (us vs : List Token) → ts ≡ us ++ vs → settled true vs ≡ true → Spelled us → Spelled ts
spelled_left us vs e g s = record {
  token = s.token;
  others = s.others ++ vs;
  text = e ∙ ap (λ ws. ws ++ vs) s.text;
  decided = λ n. settled_more s.others vs (s.decided n) g;
  other = ap has_other e ∙ other_left us vs s.other;
}

pub primary_spelled : {d k : ℕ} {ts : List Token} {x : Expr} → IsPrimary d k ts x → Spelled ts
primary_spelled (literal t w k_is ts_is x_is is) = spelled_one t ts_is (no_open t _ (literal_atom t w is))
primary_spelled (name t n k_is ts_is x_is is none) = spelled_one t ts_is (no_open t _ (name_atom t n is none))
primary_spelled (parens c o us z d_is ts_is open_is p close_is) = record {
  token = o;
  others = us ++ z ∷ [];
  text = ts_is;
  decided = λ n. absurd (let e : false ≡ true = sym (mark_no_name OpenParen o.lexeme open_is) ∙ n in cc);
  other = ap has_other ts_is ∙ other_right (o ∷ us) z (no_open_close z close_is);
}

pub postfix_spelled : {d k : ℕ} {ts : List Token} {x : Expr} → IsPostfix d k ts x → Spelled ts
postfix_spelled (primary p) = primary_spelled p
postfix_spelled (member i us o t y n k_is ts_is x_is p dot name_is) = spelled_left us (o ∷ t ∷ []) ts_is (settled_on true o t [] dot (ap is_some name_is) refl) (postfix_spelled p)
postfix_spelled (call_none c i us o z y d_is k_is ts_is x_is p open_is close_is) = spelled_left us (o ∷ z ∷ []) ts_is (settled_off true o (z ∷ []) (open_no_dot o open_is)) (postfix_spelled p)
postfix_spelled (call c i j us o vs z y ys d_is k_is ts_is x_is p open_is are close_is) = spelled_left us (o ∷ vs ++ z ∷ []) (ts_is ∙ append_assoc us (o ∷ vs) (z ∷ [])) (settled_off true o (vs ++ z ∷ []) (open_no_dot o open_is)) (postfix_spelled p)

mark_operator_other : (m : Mark) → is_some (unary_operator m) ≡ true → same_mark OpenParen m ≡ false
unfolding same_mark mark_number
mark_operator_other OpenParen h = absurd cc
mark_operator_other _ h = refl

operator_other : (l : Lexeme) → is_some (elim l [ mark m ↦ unary_operator m | _ ↦ None ]) ≡ true → is_mark_lexeme OpenParen l ≡ false
operator_other (mark m) h = mark_operator_other m h
operator_other _ h = absurd cc

pub unary_spelled : {d k : ℕ} {ts : List Token} {x : Expr} → IsUnary d k ts x → Spelled ts
unary_spelled (operated c i o us op y d_is k_is ts_is x_is is p) = record {
  token = o;
  others = us;
  text = ts_is;
  decided = λ n. absurd (let e : false ≡ true = sym (operator_no_name unary_operator o.lexeme op is) ∙ n in cc);
  other = ap has_other ts_is ∙ or_left (not (is_mark OpenParen (Some o))) (has_other us) (ap not (operator_other o.lexeme (ap is_some is)));
}
unary_spelled (postfix p) = postfix_spelled p

pub product_spelled : {d k : ℕ} {ts : List Token} {x : Expr} → IsProduct d k ts x → Spelled ts
product_spelled (unary p) = unary_spelled p
product_spelled (times i j us o vs op y z k_is ts_is x_is p is q) = spelled_left us (o ∷ vs) ts_is (settled_off true o vs (operator_no_dot product_operator refl o.lexeme op is)) (product_spelled p)

pub sum_spelled : {d k : ℕ} {ts : List Token} {x : Expr} → IsSum d k ts x → Spelled ts
sum_spelled (product p) = product_spelled p
sum_spelled (plus i j us o vs op y z k_is ts_is x_is p is q) = spelled_left us (o ∷ vs) ts_is (settled_off true o vs (operator_no_dot sum_operator refl o.lexeme op is)) (sum_spelled p)

pub order_spelled : {d k : ℕ} {ts : List Token} {x : Expr} → IsOrder d k ts x → Spelled ts
order_spelled (sum p) = sum_spelled p
order_spelled (compare i j us o vs op y z k_is ts_is x_is p is q) = spelled_left us (o ∷ vs) ts_is (settled_off true o vs (operator_no_dot order_operator refl o.lexeme op is)) (order_spelled p)

pub equality_spelled : {d k : ℕ} {ts : List Token} {x : Expr} → IsEquality d k ts x → Spelled ts
equality_spelled (order p) = order_spelled p
equality_spelled (equal i j us o vs op y z k_is ts_is x_is p is q) = spelled_left us (o ∷ vs) ts_is (settled_off true o vs (operator_no_dot equality_operator refl o.lexeme op is)) (equality_spelled p)

pub conjunction_spelled : {d k : ℕ} {ts : List Token} {x : Expr} → IsConjunction d k ts x → Spelled ts
conjunction_spelled (equality p) = equality_spelled p
conjunction_spelled (both i j us o vs y z k_is ts_is x_is p is q) = spelled_left us (o ∷ vs) ts_is (settled_off true o vs (both_no_dot o is)) (conjunction_spelled p)

pub disjunction_spelled : {d k : ℕ} {ts : List Token} {x : Expr} → IsDisjunction d k ts x → Spelled ts
disjunction_spelled (conjunction p) = conjunction_spelled p
disjunction_spelled (either i j us o vs y z k_is ts_is x_is p is q) = spelled_left us (o ∷ vs) ts_is (settled_off true o vs (either_no_dot o is)) (disjunction_spelled p)

pub expr_spelled : {d k : ℕ} {ts : List Token} {x : Expr} → IsExpr d k ts x → Spelled ts
expr_spelled (disjunction p) = disjunction_spelled p
expr_spelled (conditional c i j l us o vs p ws y z w d_is k_is ts_is x_is q is r colon s) = spelled_left us (o ∷ vs ++ p ∷ ws) (ts_is ∙ append_assoc us (o ∷ vs) (p ∷ ws)) (settled_off true o (vs ++ p ∷ ws) (question_no_dot o is)) (disjunction_spelled q)

-- The place of a value

behind_by : (t : Token) (ts us : List Token) (s z : Span) (b : Bool) → is_mark OpenParen (Some t) ≡ b → (is_mark OpenParen (Some t) ≡ true → place_of (behind_parens ts) s ≡ place_of (behind_parens us) z) → place_of (behind_parens (t ∷ ts)) s ≡ place_of (behind_parens (t ∷ us)) z
behind_by t ts us s z true h more = ap (λ ws. place_of ws s) (passed _ _ h refl) ∙ (more h ∙ sym (ap (λ ws. place_of ws z) (passed _ _ h refl)))
behind_by t ts us s z false h more = ap (λ ws. place_of ws s) (failed (behind_parens ts) (t ∷ ts) h refl) ∙ sym (ap (λ ws. place_of ws z) (failed (behind_parens us) (t ∷ us) h refl))

other_left_of : (t : Token) (ts : List Token) → is_mark OpenParen (Some t) ≡ true → has_other (t ∷ ts) ≡ true → has_other ts ≡ true
other_left_of t ts h g = or_second (ap not h) g

parens_alike : (ts us vs : List Token) (s z : Span) → has_other ts ≡ true → place_of (behind_parens (ts ++ us)) s ≡ place_of (behind_parens (ts ++ vs)) z
parens_alike [] us vs s z h = absurd cc
parens_alike (t ∷ ts) us vs s z h = behind_by t (ts ++ us) (ts ++ vs) s z (is_mark OpenParen (Some t)) refl (λ g. parens_alike ts us vs s z (other_left_of t ts g h))

place_by : (x : Expr) (ts us : List Token) (s z : Span) (b : Bool) → is_literal x ≡ b → place_of (behind_parens ts) s ≡ place_of (behind_parens us) z → place_of ts s ≡ place_of us z → value_place x ts s ≡ value_place x us z
place_by x ts us s z true h g e = if_true _ _ h g ∙ sym (if_true _ _ h refl)
place_by x ts us s z false h g e = if_false _ _ h e ∙ sym (if_false _ _ h refl)

-- whatever follows the tokens of a value, its place is the same
pub place_alike : (x : Expr) (ts us vs : List Token) (s z : Span) → Spelled ts → value_place x (ts ++ us) s ≡ value_place x (ts ++ vs) z
place_alike x ts us vs s z p =
    let begins : (ws : List Token) (q : Span) → place_of (ts ++ ws) q ≡ p.token.span = λ ws q. ap (λ ys. place_of (ys ++ ws) q) p.text in
    place_by x (ts ++ us) (ts ++ vs) s z (is_literal x) refl (parens_alike ts us vs s z p.other) (begins us s ∙ sym (begins vs z))
