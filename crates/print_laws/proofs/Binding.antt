-- What binds more tightly is spelled where less would do, and what stands in parentheses everywhere.
use Rattle.std.proofs.Common.{◌≡◌, ℕ, zero, suc, ◌+◌, ◌-◌, ◌≤◌, List, subst, arith}
use Rattle.print_laws.proofs.Claims.{IsBinding}
use Rattle.qml_ast.specs.declared.expr.Expr.{Expr}
use Rattle.qml_grammar.specs.ExpressionGrammar.{IsPrimary, primary, postfix, unary, product, sum, order, equality, conjunction, disjunction}
use Rattle.qml_grammar.specs.Lexemes.{Token}

pub loosen_one : (s d k : ℕ) (ts : List Token) (x : Expr) → IsBinding (suc s) d k ts x → IsBinding s d k ts x
loosen_one zero d k ts x p = disjunction p
loosen_one (suc zero) d k ts x p = conjunction p
loosen_one (suc (suc zero)) d k ts x p = equality p
loosen_one (suc (suc (suc zero))) d k ts x p = order p
loosen_one (suc (suc (suc (suc zero)))) d k ts x p = sum p
loosen_one (suc (suc (suc (suc (suc zero))))) d k ts x p = product p
loosen_one (suc (suc (suc (suc (suc (suc zero)))))) d k ts x p = unary p
loosen_one (suc (suc (suc (suc (suc (suc (suc zero))))))) d k ts x p = postfix p
loosen_one (suc (suc (suc (suc (suc (suc (suc (suc zero)))))))) d k ts x p = primary p
loosen_one (suc (suc (suc (suc (suc (suc (suc (suc (suc s))))))))) d k ts x p = p

loosen_by : (m s d k : ℕ) (ts : List Token) (x : Expr) → IsBinding (m + s) d k ts x → IsBinding s d k ts x
loosen_by zero s d k ts x p = let e : 0 + s ≡ s = omega arith in subst (λ n. IsBinding n d k ts x) e p
loosen_by (suc m) s d k ts x p =
    let e : suc m + s ≡ suc (m + s) = omega arith in
    loosen_by m s d k ts x (loosen_one (m + s) d k ts x (subst (λ n. IsBinding n d k ts x) e p))

pub loosen : (least s d k : ℕ) (ts : List Token) (x : Expr) → least ≤ s → IsBinding s d k ts x → IsBinding least d k ts x
loosen least s d k ts x le p =
    let e : s ≡ (s - least) + least = omega arith in
    loosen_by (s - least) least d k ts x (subst (λ n. IsBinding n d k ts x) e p)

-- a primary expression is spelled everywhere
pub primary_binds : (least d k : ℕ) (ts : List Token) (x : Expr) → IsPrimary d k ts x → IsBinding least d k ts x
primary_binds least d k ts x p = loosen least (suc (suc (suc (suc (suc (suc (suc (suc (suc least))))))))) d k ts x (omega arith) p

-- Numbers of levels

pub no_level : (c : ℕ) → 0 ≡ suc c → ⊥
no_level c e = omega arith

pub one_less : (c d : ℕ) → suc d ≡ suc c → d ≡ c
one_less c d e = omega arith
