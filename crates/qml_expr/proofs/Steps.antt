-- How the readings of expressions go on: a level further in, and from turn to turn.
use Rattle.std.proofs.Common.{◌≡◌, ℕ, zero, suc, ◌-◌, ◌+◌, ◌<◌, ◌≤◌, Bool, true, false, List, [], ◌∷◌, length, Option, refl, ap, sym, subst, ◌∙◌, arith}
use Rattle.std.specs.Prelude.{Result, Ok, Err}
use Rattle.qml_ast.specs.declared.expr.Expr.{Expr}
use Rattle.qml_ast.specs.declared.fault.DocFault.{DocFault}
use Rattle.qml_ast.specs.declared.fault.DocFault.TheVariants.{TooDeep}
use Rattle.qml_grammar.specs.Expressions.{Inner, inner, expr, unary_in, chain, products, sums, orders, equalities, conjunctions, disjunctions, argument, postfixes, primary, postfix, begins_postfix}
use Rattle.qml_grammar.specs.Inputs.{Input, Parser, ahead, place, ◌>>=◌, while_next, repeated}
use Rattle.qml_grammar.specs.Lexemes.{Token, is_mark}
use Rattle.qml_grammar.specs.declared.mark.Mark.TheVariants.{Comma}
use Rattle.qml_expr.specs.Lists.{listed}
use Rattle.qml_expr.specs.Readings.{IsReading}
use Rattle.qml_expr.specs.Precedences.{operand_at, operands_at, begins_at, operation_at}
use Rattle.qml_expr.specs.declared.precedence.Precedence.{Precedence}
use Rattle.qml_expr.specs.declared.precedence.Precedence.TheVariants.{Product, Sum, Order, Equality, And, Or}

pub retold : {A : Type 0} (a b : Result (A × Input) DocFault) (r : Result A DocFault) (j : Input) → a ≡ b → IsReading b r j → IsReading a r j
retold {A = A} a b r j e h = subst (λ (q : Result (A × Input) DocFault). IsReading q r j) (sym e) h

-- Levels

pub enter_none : (levels : ℕ) (i : Input) → levels ≡ 0 → (inner levels).enter i ≡ Err (TooDeep (place i))
unfolding inner
enter_none zero i e = refl
enter_none (suc d) i e = absurd (omega arith)

pub enter_more : (levels : ℕ) (i : Input) → 0 < levels → (inner levels).enter i ≡ Ok (tt, i)
unfolding inner
enter_more zero i h = absurd (omega arith)
enter_more (suc d) i h = refl

pub expr_none : (levels : ℕ) (i : Input) → levels ≡ 0 → (inner levels).expr i ≡ Err (TooDeep (place i))
unfolding inner
expr_none zero i e = refl
expr_none (suc d) i e = absurd (omega arith)

pub expr_more : (levels d : ℕ) (i : Input) → levels ≡ suc d → (inner levels).expr i ≡ expr d i
unfolding inner expr
expr_more zero d i e = absurd (omega arith)
expr_more (suc c) d i e = let same : c ≡ d = omega arith in ap (λ (k : ℕ). expr k i) same

pub unary_none : (levels : ℕ) (i : Input) → levels ≡ 0 → (inner levels).unary i ≡ Err (TooDeep (place i))
unfolding inner
unary_none zero i e = refl
unary_none (suc d) i e = absurd (omega arith)

pub unary_more : (levels d : ℕ) (i : Input) → levels ≡ suc d → (inner levels).unary i ≡ unary_in (inner d) i
unfolding inner
unary_more zero d i e = absurd (omega arith)
unary_more (suc c) d i e = let same : c ≡ d = omega arith in ap (λ (k : ℕ). unary_in (inner k) i) same

-- Turns. `t` is what the whole reads

module _ {A : Type 0} (test : Option Token → Bool) (step : A → Parser A) where
  one_on : (n : ℕ) (x y : A) (i j : Input) → test (ahead i) ≡ true → step x i ≡ Ok (y, j) → repeated test step (suc n) x i ≡ repeated test step n y j
  unfolding repeated
  one_on n x y i j h e =
      ap (λ (b : Bool). elim b [ true ↦ elim (step x i) [ Ok r ↦ repeated test step n r.0 r.1 | Err f ↦ Err f ] | false ↦ Ok (x, i) ]) h
      ∙ ap (λ (q : Result (A × Input) DocFault). elim q [ Ok r ↦ repeated test step n r.0 r.1 | Err f ↦ Err f ]) e

  one_fault : (n : ℕ) (x : A) (i : Input) (f : DocFault) → test (ahead i) ≡ true → step x i ≡ Err f → repeated test step (suc n) x i ≡ Err f
  unfolding repeated
  one_fault n x i f h e =
      ap (λ (b : Bool). elim b [ true ↦ elim (step x i) [ Ok r ↦ repeated test step n r.0 r.1 | Err g ↦ Err g ] | false ↦ Ok (x, i) ]) h
      ∙ ap (λ (q : Result (A × Input) DocFault). elim q [ Ok r ↦ repeated test step n r.0 r.1 | Err g ↦ Err g ]) e

  stop : (n : ℕ) (x : A) (i : Input) → test (ahead i) ≡ false → repeated test step n x i ≡ Ok (x, i)
  unfolding repeated
  stop zero x i h = refl
  stop (suc n) x i h = ap (λ (b : Bool). elim b [ true ↦ elim (step x i) [ Ok r ↦ repeated test step n r.0 r.1 | Err g ↦ Err g ] | false ↦ Ok (x, i) ]) h

  pub turn_on : (t : Result (A × Input) DocFault) (n at : ℕ) (x y : A) (i j : Input) → at < n → t ≡ repeated test step (n - at) x i → test (ahead i) ≡ true → step x i ≡ Ok (y, j) → t ≡ repeated test step (n - (at + 1)) y j
  turn_on t n at x y i j below e h s =
      let turn : n - at ≡ suc (n - (at + 1)) = omega arith in
      e ∙ ap (λ (k : ℕ). repeated test step k x i) turn ∙ one_on (n - (at + 1)) x y i j h s

  pub turn_fault : (t : Result (A × Input) DocFault) (n at : ℕ) (x : A) (i : Input) (f : DocFault) → at < n → t ≡ repeated test step (n - at) x i → test (ahead i) ≡ true → step x i ≡ Err f → t ≡ Err f
  turn_fault t n at x i f below e h s =
      let turn : n - at ≡ suc (n - (at + 1)) = omega arith in
      e ∙ ap (λ (k : ℕ). repeated test step k x i) turn ∙ one_fault (n - (at + 1)) x i f h s

  pub turn_stop : (t : Result (A × Input) DocFault) (n at : ℕ) (x : A) (i : Input) → t ≡ repeated test step (n - at) x i → test (ahead i) ≡ false → t ≡ Ok (x, i)
  turn_stop t n at x i e h = e ∙ stop (n - at) x i h

  none : (k : ℕ) (x : A) (i : Input) → k ≡ 0 → repeated test step k x i ≡ Ok (x, i)
  unfolding repeated
  none zero x i e = refl
  none (suc k) x i e = absurd (omega arith)

  pub turn_end : (t : Result (A × Input) DocFault) (n at : ℕ) (x : A) (i : Input) → n ≤ at → t ≡ repeated test step (n - at) x i → t ≡ Ok (x, i)
  turn_end t n at x i done e = let over : n - at ≡ 0 = omega arith in e ∙ none (n - at) x i over

  pub first_turn : (k : ℕ) (x : A) (i : Input) → k ≡ length i.rest → while_next test step x i ≡ repeated test step k x i
  unfolding while_next
  first_turn k x i e = ap (λ (m : ℕ). repeated test step m x i) (sym e)

-- Beginnings of loops

pub bound : {A B : Type 0} (p : Parser A) (f : A → Parser B) (i j : Input) (x : A) → p i ≡ Ok (x, j) → ◌>>=◌ p f i ≡ f x j
bound {A = A} p f i j x e = ap (λ (q : Result (A × Input) DocFault). elim q [ Ok r ↦ f r.0 r.1 | Err g ↦ Err g ]) e

pub failed : {A B : Type 0} (p : Parser A) (f : A → Parser B) (i : Input) (g : DocFault) → p i ≡ Err g → ◌>>=◌ p f i ≡ Err g
failed {A = A} p f i g e = ap (λ (q : Result (A × Input) DocFault). elim q [ Ok r ↦ f r.0 r.1 | Err h ↦ Err h ]) e

pub operands_begin : (p : Precedence) (v : Inner) (i j : Input) (x : Expr) → operand_at p v i ≡ Ok (x, j) → operands_at p v i ≡ while_next (begins_at p) (operation_at p v) x j
unfolding chain products sums orders equalities conjunctions disjunctions
operands_begin Product v i j x e = bound (unary_in v) (while_next (begins_at Product) (operation_at Product v)) i j x e
operands_begin Sum v i j x e = bound (products v) (while_next (begins_at Sum) (operation_at Sum v)) i j x e
operands_begin Order v i j x e = bound (sums v) (while_next (begins_at Order) (operation_at Order v)) i j x e
operands_begin Equality v i j x e = bound (orders v) (while_next (begins_at Equality) (operation_at Equality v)) i j x e
operands_begin And v i j x e = bound (equalities v) (while_next (begins_at And) (operation_at And v)) i j x e
operands_begin Or v i j x e = bound (conjunctions v) (while_next (begins_at Or) (operation_at Or v)) i j x e

pub operands_fault : (p : Precedence) (v : Inner) (i : Input) (f : DocFault) → operand_at p v i ≡ Err f → operands_at p v i ≡ Err f
unfolding chain products sums orders equalities conjunctions disjunctions
operands_fault Product v i f e = failed (unary_in v) (while_next (begins_at Product) (operation_at Product v)) i f e
operands_fault Sum v i f e = failed (products v) (while_next (begins_at Sum) (operation_at Sum v)) i f e
operands_fault Order v i f e = failed (sums v) (while_next (begins_at Order) (operation_at Order v)) i f e
operands_fault Equality v i f e = failed (orders v) (while_next (begins_at Equality) (operation_at Equality v)) i f e
operands_fault And v i f e = failed (equalities v) (while_next (begins_at And) (operation_at And v)) i f e
operands_fault Or v i f e = failed (conjunctions v) (while_next (begins_at Or) (operation_at Or v)) i f e

pub postfixes_begin : (v : Inner) (i j : Input) (x : Expr) → primary v i ≡ Ok (x, j) → postfixes v i ≡ while_next begins_postfix (postfix v) x j
unfolding postfixes
postfixes_begin v i j x e = bound (primary v) (while_next begins_postfix (postfix v)) i j x e

pub postfixes_fault : (v : Inner) (i : Input) (f : DocFault) → primary v i ≡ Err f → postfixes v i ≡ Err f
unfolding postfixes
postfixes_fault v i f e = failed (primary v) (while_next begins_postfix (postfix v)) i f e

pub listed_begin : (v : Inner) (i j : Input) (x : Expr) → v.expr i ≡ Ok (x, j) → listed v i ≡ while_next (is_mark Comma) (argument v) (x ∷ []) j
unfolding listed
listed_begin v i j x e = bound v.expr (λ y. while_next (is_mark Comma) (argument v) (y ∷ [])) i j x e

pub listed_fault : (v : Inner) (i : Input) (f : DocFault) → v.expr i ≡ Err f → listed v i ≡ Err f
unfolding listed
listed_fault v i f e = failed v.expr (λ y. while_next (is_mark Comma) (argument v) (y ∷ [])) i f e

pub listed_first : (v : Inner) (k : ℕ) (i j : Input) (x : Expr) (xs : List Expr) → xs ≡ x ∷ [] → v.expr i ≡ Ok (x, j) → k ≡ length j.rest → listed v i ≡ repeated (is_mark Comma) (argument v) k xs j
listed_first v k i j x xs one e turns =
    listed_begin v i j x e
    ∙ ap (λ (ys : List Expr). while_next (is_mark Comma) (argument v) ys j) (sym one)
    ∙ first_turn (is_mark Comma) (argument v) k xs j turns
