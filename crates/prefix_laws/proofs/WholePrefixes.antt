-- Outermost expressions, targets and what changes them: what stands before a fault can go on.
use Rattle.std.proofs.Common.{◌≡◌, ℕ, suc, ◌+◌, ◌≤◌, false, List, [], ◌∷◌, Option, Err, pos, refl, arith}
use Rattle.qml_ast.specs.declared.expr.Expr.{Expr}
use Rattle.qml_ast.specs.declared.expr.Expr.TheVariants.{Lit}
use Rattle.qml_ast.specs.declared.fault.DocFault.{DocFault}
use Rattle.qml_ast.specs.declared.value.Value.TheVariants.{Int}
use Rattle.qml_grammar.specs.ExpressionGrammar.{IsExpr, literal, primary, postfix, unary, product, sum, order, equality, conjunction, disjunction}
use Rattle.qml_grammar.specs.Expressions.{whole}
use Rattle.qml_grammar.specs.Inputs.{Input}
use Rattle.qml_grammar.specs.Lexemes.{Token}
use Rattle.qml_grammar.specs.StatementGrammar.{goes_on, IsWhole}
use Rattle.grammar_laws.specs.Faults.{CanGoOn}
use Rattle.grammar_laws.proofs.Failing.{whole_faults}
use Rattle.prefix_laws.proofs.Going.{Halts, Completes, completes, one}
use Rattle.prefix_laws.proofs.Moved.{moved_expr}

-- Expressions

abbrev pub Calm : Option Token → Type 0
Calm next = goes_on next ≡ false

-- the tokens and others spell an outermost expression
abbrev pub IsWholePrefix : ℕ → List Token → Type 0
IsWholePrefix d = Completes Calm (λ most. IsWhole most (suc d))

abbrev pub one_value : Expr
one_value = Lit (Int (pos 1))

one_expr : (d : ℕ) → IsExpr d 1 (one ∷ []) one_value
one_expr d = disjunction (conjunction (equality (order (sum (product (unary (postfix (primary (literal one (Int (pos 1)) refl refl refl refl)))))))))

-- the number 1
pub one_whole : (most d : ℕ) (next : Option Token) → 200 ≤ most → goes_on next ≡ false → IsWhole most d (one ∷ []) next one_value
one_whole most d next enough calm = record { nodes = 1; few = omega (arith, enough); spelled = one_expr d; longest = calm }

pub empty_whole : (d : ℕ) → IsWholePrefix d []
empty_whole d = completes (one ∷ []) 200 one_value (omega arith) refl (λ next calm. one_whole 200 (suc d) next (omega arith) calm)

whole_goes_on : (d : ℕ) (ts : List Token) → CanGoOn (IsExpr d) ts → IsWholePrefix d ts
whole_goes_on d ts w = completes w.others (200 + w.nodes) w.value (omega arith) refl (λ next calm. record { nodes = w.nodes; few = omega arith; spelled = moved_expr w.spelled; longest = calm })

pub whole_halts : (d : ℕ) (i : Input) (e : DocFault) → whole d i ≡ Err e → Halts (IsWholePrefix d) i e
whole_halts d i e h =
    let c = whole_faults d i e h in
    record { nodes = c.nodes; text = c.text; at = c.at; way = c.way; place = c.place; viable = whole_goes_on d c.text c.before }
