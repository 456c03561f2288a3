-- Equal words have one number, and those of one number are equal.
use Rattle.std.proofs.Common.{◌≡◌, Bool, true, false, refl, sym, subst, rules}
use denote.Enum.Bare.{sameb, same_true, same_false}
use Rattle.qml_grammar.specs.Words.{same_word}
use Rattle.qml_grammar.specs.contracts.word.Word.{the_type}
use Rattle.qml_grammar.specs.declared.word.Word.{Word}
use Rattle.qml_expr.proofs.Words.{same_word_refl, same_word_equal}
use Rattle.qml_expr.proofs.lexeme.is_same_word.Goals as goal

is_false : (b : Bool) → (b ≡ true → ⊥) → false ≡ b
is_false true h = absurd (h refl)
is_false false h = refl

told : (v w : Word) (b : Bool) → b ≡ sameb the_type v w → b ≡ same_word v w
told v w true e = sym (subst (λ (k : Word). same_word v k ≡ true) (same_true the_type (search rules) v w (sym e)) (same_word_refl v))
told v w false e = is_false (same_word v w) (λ h. same_false the_type v w (sym e) (same_word_equal v w h))

pub returns : goal.returns
returns c = told c.args.word c.args.other c.eq.result c.eq.ensures
