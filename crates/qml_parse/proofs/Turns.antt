-- How lists that begin empty are read on, and what stands a level further in.
use Rattle.std.proofs.Common.{◌≡◌, ℕ, zero, suc, Bool, List, length, refl, ap, sym, subst, ◌∙◌, arith}
use Rattle.std.specs.Prelude.{Option, Result, Err}
use Rattle.qml_ast.specs.declared.fault.DocFault.{DocFault}
use Rattle.qml_ast.specs.declared.fault.DocFault.TheVariants.{TooDeep}
use Rattle.qml_grammar.specs.Documents.{under, members, member_braces, entries, group_braces}
use Rattle.qml_grammar.specs.Inputs.{Input, Parser, after, place, while_next, repeated}
use Rattle.qml_grammar.specs.Lexemes.{Token}
use Rattle.qml_expr.specs.Readings.{IsReading}
use Rattle.qml_expr.proofs.Steps.{first_turn}

pub start_turn : {A : Type 0} (test : Option Token → Bool) (step : A → Parser A) (k : ℕ) (x y : A) (i : Input) → y ≡ x → k ≡ length i.rest → while_next test step x i ≡ repeated test step k y i
start_turn {A = A} test step k x y i e turns = first_turn test step k x i turns ∙ ap (λ (z : A). repeated test step k z i) (sym e)

-- two readings that answer alike
pub read_again : {A : Type 0} (a b : Result (A × Input) DocFault) (r : Result A DocFault) (j : Input) → a ≡ b → IsReading b r j → IsReading a r j
read_again {A = A} a b r j e h = subst (λ (q : Result (A × Input) DocFault). IsReading q r j) (sym e) h

-- Levels

pub members_none : (levels : ℕ) (i : Input) → levels ≡ 0 → (under levels).members i ≡ Err (TooDeep (place i))
unfolding under
members_none zero i e = refl
members_none (suc d) i e = absurd (omega arith)

pub members_more : (levels d : ℕ) (i : Input) → levels ≡ suc d → (under levels).members i ≡ members d (under d) (after i)
unfolding under member_braces
members_more zero d i e = absurd (omega arith)
members_more (suc c) d i e = let same : c ≡ d = omega arith in ap (λ (k : ℕ). members k (under k) (after i)) same

pub group_none : (levels : ℕ) (n : List ℕ) (i : Input) → levels ≡ 0 → (under levels).group n i ≡ Err (TooDeep (place i))
unfolding under
group_none zero n i e = refl
group_none (suc d) n i e = absurd (omega arith)

pub group_more : (levels d : ℕ) (n : List ℕ) (i : Input) → levels ≡ suc d → (under levels).group n i ≡ entries d (under d) n (after i)
unfolding under group_braces
group_more zero d n i e = absurd (omega arith)
group_more (suc c) d n i e = let same : c ≡ d = omega arith in ap (λ (k : ℕ). entries k (under k) n (after i)) same
