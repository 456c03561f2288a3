-- How tightly a token binds what stands before it, as a number: the tests of the single levels and those on
-- whole expressions are comparisons of it.
use Rattle.std.proofs.Common.{◌≡◌, ℕ, ◌≤◌, ◌==◌, ◌||◌, not, Bool, false, is_some, Option, Some, None, refl, sym, ap, ◌∙◌, arith}
use Rattle.std.proofs.lemmas.Bool.Decides.{nat_tests}
use Rattle.qml_ast.specs.declared.span.Span.{Span}
use Rattle.qml_grammar.specs.Expressions.{begins_postfix, begins_operator}
use Rattle.qml_grammar.specs.Lexemes.{Lexeme, mark, Token, is_mark, is_mark_lexeme, product_operator, sum_operator, order_operator, equality_operator}
use Rattle.qml_grammar.specs.Marks.{same_mark, mark_number}
use Rattle.qml_grammar.specs.declared.mark.Mark.{Mark}
use Rattle.qml_grammar.specs.declared.mark.Mark.TheVariants.{OpenBrace, OpenParen, Dot, Question, Plus, Minus, Star, Slash, Percent, Less, Greater, LessEqual, GreaterEqual, EqualEqual, BangEqual, TripleEqual, BangDoubleEqual, DoubleAmpersand, DoubleBar}
use Rattle.qml_grammar.specs.StatementGrammar.{goes_on}

abbrev pub mark_strength : Mark → ℕ
mark_strength OpenParen = 8
mark_strength Dot = 8
mark_strength Star = 7
mark_strength Slash = 7
mark_strength Percent = 7
mark_strength Plus = 6
mark_strength Minus = 6
mark_strength Less = 5
mark_strength LessEqual = 5
mark_strength Greater = 5
mark_strength GreaterEqual = 5
mark_strength EqualEqual = 4
mark_strength BangEqual = 4
mark_strength TripleEqual = 4
mark_strength BangDoubleEqual = 4
mark_strength DoubleAmpersand = 3
mark_strength DoubleBar = 2
mark_strength Question = 1
mark_strength _ = 0

abbrev pub lexeme_strength : Lexeme → ℕ
lexeme_strength (mark m) = mark_strength m
lexeme_strength _ = 0

abbrev pub strength : Option Token → ℕ
strength None = 0
strength (Some t) = lexeme_strength t.lexeme

-- the test holds of the tokens of this strength
abbrev pub Tells : (Option Token → Bool) → ℕ → Type 0
Tells test n = (t : Option Token) → test t ≡ (strength t == n)

mark_tells_postfix : (m : Mark) → (same_mark Dot m || same_mark OpenParen m) ≡ (mark_strength m == 8)
unfolding same_mark mark_number
mark_tells_postfix OpenBrace = refl
mark_tells_postfix _ = refl

lexeme_tells_postfix : (l : Lexeme) → (is_mark_lexeme Dot l || is_mark_lexeme OpenParen l) ≡ (lexeme_strength l == 8)
lexeme_tells_postfix (mark m) = mark_tells_postfix m
lexeme_tells_postfix _ = refl

pub tells_postfix : Tells begins_postfix 8
tells_postfix None = refl
tells_postfix (Some t) = lexeme_tells_postfix t.lexeme

mark_tells_product : (m : Mark) → is_some (product_operator m) ≡ (mark_strength m == 7)
mark_tells_product OpenBrace = refl
mark_tells_product _ = refl

lexeme_tells_product : (l : Lexeme) → is_some (elim l [ mark m ↦ product_operator m | _ ↦ None ]) ≡ (lexeme_strength l == 7)
lexeme_tells_product (mark m) = mark_tells_product m
lexeme_tells_product _ = refl

pub tells_product : Tells (begins_operator product_operator) 7
tells_product None = refl
tells_product (Some t) = lexeme_tells_product t.lexeme

mark_tells_sum : (m : Mark) → is_some (sum_operator m) ≡ (mark_strength m == 6)
mark_tells_sum OpenBrace = refl
mark_tells_sum _ = refl

lexeme_tells_sum : (l : Lexeme) → is_some (elim l [ mark m ↦ sum_operator m | _ ↦ None ]) ≡ (lexeme_strength l == 6)
lexeme_tells_sum (mark m) = mark_tells_sum m
lexeme_tells_sum _ = refl

pub tells_sum : Tells (begins_operator sum_operator) 6
tells_sum None = refl
tells_sum (Some t) = lexeme_tells_sum t.lexeme

mark_tells_order : (m : Mark) → is_some (order_operator m) ≡ (mark_strength m == 5)
mark_tells_order OpenBrace = refl
mark_tells_order _ = refl

lexeme_tells_order : (l : Lexeme) → is_some (elim l [ mark m ↦ order_operator m | _ ↦ None ]) ≡ (lexeme_strength l == 5)
lexeme_tells_order (mark m) = mark_tells_order m
lexeme_tells_order _ = refl

pub tells_order : Tells (begins_operator order_operator) 5
tells_order None = refl
tells_order (Some t) = lexeme_tells_order t.lexeme

mark_tells_equality : (m : Mark) → is_some (equality_operator m) ≡ (mark_strength m == 4)
mark_tells_equality OpenBrace = refl
mark_tells_equality _ = refl

lexeme_tells_equality : (l : Lexeme) → is_some (elim l [ mark m ↦ equality_operator m | _ ↦ None ]) ≡ (lexeme_strength l == 4)
lexeme_tells_equality (mark m) = mark_tells_equality m
lexeme_tells_equality _ = refl

pub tells_equality : Tells (begins_operator equality_operator) 4
tells_equality None = refl
tells_equality (Some t) = lexeme_tells_equality t.lexeme

mark_tells_conjunction : (m : Mark) → same_mark DoubleAmpersand m ≡ (mark_strength m == 3)
unfolding same_mark mark_number
mark_tells_conjunction OpenBrace = refl
mark_tells_conjunction _ = refl

lexeme_tells_conjunction : (l : Lexeme) → is_mark_lexeme DoubleAmpersand l ≡ (lexeme_strength l == 3)
lexeme_tells_conjunction (mark m) = mark_tells_conjunction m
lexeme_tells_conjunction _ = refl

pub tells_conjunction : Tells (is_mark DoubleAmpersand) 3
tells_conjunction None = refl
tells_conjunction (Some t) = lexeme_tells_conjunction t.lexeme

mark_tells_disjunction : (m : Mark) → same_mark DoubleBar m ≡ (mark_strength m == 2)
unfolding same_mark mark_number
mark_tells_disjunction OpenBrace = refl
mark_tells_disjunction _ = refl

lexeme_tells_disjunction : (l : Lexeme) → is_mark_lexeme DoubleBar l ≡ (lexeme_strength l == 2)
lexeme_tells_disjunction (mark m) = mark_tells_disjunction m
lexeme_tells_disjunction _ = refl

pub tells_disjunction : Tells (is_mark DoubleBar) 2
tells_disjunction None = refl
tells_disjunction (Some t) = lexeme_tells_disjunction t.lexeme

mark_tells_question : (m : Mark) → same_mark Question m ≡ (mark_strength m == 1)
unfolding same_mark mark_number
mark_tells_question OpenBrace = refl
mark_tells_question _ = refl

lexeme_tells_question : (l : Lexeme) → is_mark_lexeme Question l ≡ (lexeme_strength l == 1)
lexeme_tells_question (mark m) = mark_tells_question m
lexeme_tells_question _ = refl

pub tells_question : Tells (is_mark Question) 1
tells_question None = refl
tells_question (Some t) = lexeme_tells_question t.lexeme

mark_strength_most : (m : Mark) → mark_strength m ≤ 8
mark_strength_most OpenBrace = omega arith
mark_strength_most _ = omega arith

lexeme_strength_most : (l : Lexeme) → lexeme_strength l ≤ 8
lexeme_strength_most (mark m) = mark_strength_most m
lexeme_strength_most _ = omega arith

pub strength_most : (t : Option Token) → strength t ≤ 8
strength_most None = omega arith
strength_most (Some t) = lexeme_strength_most t.lexeme

-- Whole expressions

mark_goes_on : (m : Mark) (s : Span) → goes_on (Some (record { lexeme = mark m; span = s })) ≡ not (mark_strength m == 0)
unfolding same_mark mark_number
mark_goes_on OpenBrace s = refl
mark_goes_on _ s = refl

lexeme_goes_on : (l : Lexeme) (s : Span) → goes_on (Some (record { lexeme = l; span = s })) ≡ not (lexeme_strength l == 0)
lexeme_goes_on (mark m) s = mark_goes_on m s
lexeme_goes_on _ s = refl

goes_on_is : (t : Option Token) → goes_on t ≡ not (strength t == 0)
goes_on_is None = refl
goes_on_is (Some t) = lexeme_goes_on t.lexeme t.span

none_at : (n : ℕ) → not (n == 0) ≡ false → n ≤ 0
none_at n h = grind (arith, nat_tests)

pub stops_of : (t : Option Token) → strength t ≤ 0 → goes_on t ≡ false
stops_of t h =
    let e : strength t ≡ 0 = omega arith in
    goes_on_is t ∙ ap (λ n. not (n == 0)) e

pub strength_of : (t : Option Token) → goes_on t ≡ false → strength t ≤ 0
strength_of t h = none_at (strength t) (sym (goes_on_is t) ∙ h)
