-- The first token of what is spelled.
use Rattle.std.proofs.Common.{◌≡◌, ℕ, ◌||◌, Bool, true, false, is_some, List, [], ◌∷◌, ◌++◌, Option, Some, None, refl, ap, ◌∙◌, append_assoc}
use Rattle.qml_ast.specs.declared.expr.Expr.{Expr}
use Rattle.qml_ast.specs.declared.expr.Expr.TheVariants.{Lit, Name}
use Rattle.qml_ast.specs.declared.expr.UnOp.{UnOp}
use Rattle.qml_ast.specs.declared.span.Span.{Span}
use Rattle.qml_ast.specs.declared.value.Value.{Value}
use Rattle.qml_grammar.specs.ExpressionGrammar.{IsPrimary, literal, name, parens, IsPostfix, primary, member, call_none, call, AreArguments, one_argument, more_arguments, IsUnary, operated, postfix, IsProduct, unary, times, IsSum, product, plus, IsOrder, sum, compare, IsEquality, order, equal, IsConjunction, equality, both, IsDisjunction, conjunction, either, IsExpr, disjunction, conditional}
use Rattle.qml_grammar.specs.Inputs.{Input, ahead}
use Rattle.qml_grammar.specs.Lexemes.{head, Lexeme, mark, Token, is_mark, is_mark_lexeme, atom_of, value_of, operand_name_of, looked_up, unary_operator}
use Rattle.qml_grammar.specs.Marks.{same_mark, mark_number}
use Rattle.qml_grammar.specs.Statements.{begins_expr}
use Rattle.qml_grammar.specs.declared.mark.Mark.{Mark}
use Rattle.qml_grammar.specs.declared.mark.Mark.TheVariants.{OpenParen, CloseParen}
use Rattle.grammar_laws.proofs.Behind.{behind, found, missing}

-- Single tokens

pub literal_atom : (t : Token) (w : Value) → value_of (Some t) ≡ Some w → atom_of (Some t) ≡ Some (Lit w)
literal_atom t w h = found _ _ h refl

pub name_atom : (t : Token) (n : List ℕ) → operand_name_of (Some t) ≡ Some n → value_of (Some t) ≡ None → atom_of (Some t) ≡ Some (Name n)
name_atom t n h none = missing _ _ none (found _ _ h refl)

-- an operand that no operator begins starts with the token
abbrev pub begins_primary : Option Token → Bool
begins_primary t = is_some (atom_of t) || is_mark OpenParen t

lexeme_no_open : (l : Lexeme) (s : Span) (x : Expr) → atom_of (Some (record { lexeme = l; span = s })) ≡ Some x → is_mark_lexeme OpenParen l ≡ false
lexeme_no_open (mark m) s x h = absurd cc
lexeme_no_open _ s x h = refl

pub no_open : (t : Token) (x : Expr) → atom_of (Some t) ≡ Some x → is_mark OpenParen (Some t) ≡ false
no_open t x h = lexeme_no_open t.lexeme t.span x h

mark_no_unary : (m : Mark) (s : Span) → begins_primary (Some (record { lexeme = mark m; span = s })) ≡ true → unary_operator m ≡ None
unfolding same_mark mark_number
mark_no_unary OpenParen s h = refl
mark_no_unary _ s h = absurd cc

lexeme_no_unary : (l : Lexeme) (s : Span) → begins_primary (Some (record { lexeme = l; span = s })) ≡ true → looked_up unary_operator (Some (record { lexeme = l; span = s })) ≡ None
lexeme_no_unary (mark m) s h = mark_no_unary m s h
lexeme_no_unary _ s h = refl

pub no_unary : (t : Token) → begins_primary (Some t) ≡ true → looked_up unary_operator (Some t) ≡ None
no_unary t h = lexeme_no_unary t.lexeme t.span h

mark_no_close : (m : Mark) (s : Span) → begins_expr (Some (record { lexeme = mark m; span = s })) ≡ true → same_mark CloseParen m ≡ false
unfolding same_mark mark_number
mark_no_close CloseParen s h = absurd cc
mark_no_close _ s h = refl

lexeme_no_close : (l : Lexeme) (s : Span) → begins_expr (Some (record { lexeme = l; span = s })) ≡ true → is_mark_lexeme CloseParen l ≡ false
lexeme_no_close (mark m) s h = mark_no_close m s h
lexeme_no_close _ s h = refl

pub no_close : (t : Token) → begins_expr (Some t) ≡ true → is_mark CloseParen (Some t) ≡ false
no_close t h = lexeme_no_close t.lexeme t.span h

-- What is spelled begins

pub record Begins (test : Option Token → Bool) (ts : List Token) : Type 0 where
  pub token : Token
  pub others : List Token
  pub text : ts ≡ token ∷ others
  pub begins : test (Some token) ≡ true

pub begins_left : {test : Option Token → Bool} {ts : List Token} (us vs : List Token) → ts ≡ us ++ vs → Begins test us → Begins test ts
begins_left us vs e b = record { token = b.token; others = b.others ++ vs; text = e ∙ ap (λ ws. ws ++ vs) b.text; begins = b.begins }

pub ahead_begins : {test : Option Token → Bool} {ts : List Token} (b : Begins test ts) (k : ℕ) (j : Input) → ahead (behind ts k j) ≡ Some b.token
ahead_begins b k j = ap (λ ws. head (ws ++ j.rest)) b.text

some_or : {A : Type 0} {o : Option A} {x : A} (b : Bool) → o ≡ Some x → (is_some o || b) ≡ true
some_or b h = rw h

pub or_right : (a : Bool) {b : Bool} → b ≡ true → (a || b) ≡ true
or_right true h = refl
or_right false h = h

pub or_left : (a b : Bool) → a ≡ true → (a || b) ≡ true
or_left true b h = refl
or_left false b h = absurd cc

some_of : {A : Type 0} {o : Option A} {x : A} → o ≡ Some x → is_some o ≡ true
some_of h = rw h

operator_begins : (o : Token) (op : UnOp) → looked_up unary_operator (Some o) ≡ Some op → begins_expr (Some o) ≡ true
operator_begins o op h = or_right (begins_primary (Some o)) (some_of h)

primary_token_begins : (t : Token) → begins_primary (Some t) ≡ true → begins_expr (Some t) ≡ true
primary_token_begins t h = or_left (begins_primary (Some t)) (is_some (looked_up unary_operator (Some t))) h

pub primary_begins : {d k : ℕ} {ts : List Token} {x : Expr} → IsPrimary d k ts x → Begins begins_primary ts
primary_begins (literal t w k_is ts_is x_is is) = record { token = t; others = []; text = ts_is; begins = some_or _ (literal_atom t w is) }
primary_begins (name t n k_is ts_is x_is is none) = record { token = t; others = []; text = ts_is; begins = some_or _ (name_atom t n is none) }
primary_begins (parens c o us z d_is ts_is open_is p close_is) = record { token = o; others = us ++ z ∷ []; text = ts_is; begins = or_right _ open_is }

pub postfix_begins : {d k : ℕ} {ts : List Token} {x : Expr} → IsPostfix d k ts x → Begins begins_primary ts
postfix_begins (primary p) = primary_begins p
postfix_begins (member i us o t y n k_is ts_is x_is p dot name_is) = begins_left us (o ∷ t ∷ []) ts_is (postfix_begins p)
postfix_begins (call_none c i us o z y d_is k_is ts_is x_is p open_is close_is) = begins_left us (o ∷ z ∷ []) ts_is (postfix_begins p)
postfix_begins (call c i j us o vs z y ys d_is k_is ts_is x_is p open_is are close_is) = begins_left us (o ∷ vs ++ z ∷ []) (ts_is ∙ append_assoc us (o ∷ vs) (z ∷ [])) (postfix_begins p)

pub unary_begins : {d k : ℕ} {ts : List Token} {x : Expr} → IsUnary d k ts x → Begins begins_expr ts
unary_begins (operated c i o us op y d_is k_is ts_is x_is is p) = record { token = o; others = us; text = ts_is; begins = operator_begins o op is }
unary_begins (postfix p) = let b = postfix_begins p in record { token = b.token; others = b.others; text = b.text; begins = primary_token_begins b.token b.begins }

pub product_begins : {d k : ℕ} {ts : List Token} {x : Expr} → IsProduct d k ts x → Begins begins_expr ts
product_begins (unary p) = unary_begins p
product_begins (times i j us o vs op y z k_is ts_is x_is p is q) = begins_left us (o ∷ vs) ts_is (product_begins p)

pub sum_begins : {d k : ℕ} {ts : List Token} {x : Expr} → IsSum d k ts x → Begins begins_expr ts
sum_begins (product p) = product_begins p
sum_begins (plus i j us o vs op y z k_is ts_is x_is p is q) = begins_left us (o ∷ vs) ts_is (sum_begins p)

pub order_begins : {d k : ℕ} {ts : List Token} {x : Expr} → IsOrder d k ts x → Begins begins_expr ts
order_begins (sum p) = sum_begins p
order_begins (compare i j us o vs op y z k_is ts_is x_is p is q) = begins_left us (o ∷ vs) ts_is (order_begins p)

pub equality_begins : {d k : ℕ} {ts : List Token} {x : Expr} → IsEquality d k ts x → Begins begins_expr ts
equality_begins (order p) = order_begins p
equality_begins (equal i j us o vs op y z k_is ts_is x_is p is q) = begins_left us (o ∷ vs) ts_is (equality_begins p)

pub conjunction_begins : {d k : ℕ} {ts : List Token} {x : Expr} → IsConjunction d k ts x → Begins begins_expr ts
conjunction_begins (equality p) = equality_begins p
conjunction_begins (both i j us o vs y z k_is ts_is x_is p is q) = begins_left us (o ∷ vs) ts_is (conjunction_begins p)

pub disjunction_begins : {d k : ℕ} {ts : List Token} {x : Expr} → IsDisjunction d k ts x → Begins begins_expr ts
disjunction_begins (conjunction p) = conjunction_begins p
disjunction_begins (either i j us o vs y z k_is ts_is x_is p is q) = begins_left us (o ∷ vs) ts_is (disjunction_begins p)

pub expr_begins : {d k : ℕ} {ts : List Token} {x : Expr} → IsExpr d k ts x → Begins begins_expr ts
expr_begins (disjunction p) = disjunction_begins p
expr_begins (conditional c i j l us o vs p ws y z w d_is k_is ts_is x_is q is r colon s) = begins_left us (o ∷ vs ++ p ∷ ws) (ts_is ∙ append_assoc us (o ∷ vs) (p ∷ ws)) (disjunction_begins q)

pub arguments_begin : {d k : ℕ} {ts : List Token} {xs : List Expr} → AreArguments d k ts xs → Begins begins_expr ts
arguments_begin (one_argument x xs_is p) = expr_begins p
arguments_begin (more_arguments i j us o vs ys z k_is ts_is xs_is p comma q) = begins_left us (o ∷ vs) ts_is (arguments_begin p)
