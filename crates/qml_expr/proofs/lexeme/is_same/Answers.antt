use Rattle.std.proofs.Common.{◌≡◌, Bool, true, false, refl, sym, subst, rules}
use denote.Enum.Bare.{sameb, same_true, same_false}
use Rattle.qml_grammar.specs.Marks.{same_mark}
use Rattle.qml_grammar.specs.contracts.mark.Mark.{the_type}
use Rattle.qml_grammar.specs.declared.mark.Mark.{Mark}
use Rattle.qml_expr.proofs.Marks.{same_mark_refl, same_mark_equal}
use Rattle.qml_expr.proofs.lexeme.is_same.Goals as goal

is_false : (b : Bool) → (b ≡ true → ⊥) → false ≡ b
is_false true h = absurd (h refl)
is_false false h = refl

told : (m n : Mark) (b : Bool) → b ≡ sameb the_type m n → b ≡ same_mark m n
told m n true e = sym (subst (λ (k : Mark). same_mark m k ≡ true) (same_true the_type (search rules) m n (sym e)) (same_mark_refl m))
told m n false e = is_false (same_mark m n) (λ h. same_false the_type m n (sym e) (same_mark_equal m n h))

pub returns : goal.returns
returns c = told c.args.mark c.args.other c.eq.result c.eq.ensures
