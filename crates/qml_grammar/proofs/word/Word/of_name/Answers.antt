use Rattle.std.proofs.Common.{◌∙◌, sym, ap, arith, bytes_eq, find}
use Rattle.std.proofs.lemmas.List.{take_all}
use Rattle.qml_grammar.specs.Words.{word_text}
use Rattle.qml_grammar.specs.declared.word.Word.TheVariants.{Var}
use Rattle.qml_grammar.proofs.Lengths.{word_of_length}
use Rattle.qml_grammar.proofs.Looking.{found_at, none_next}
use Rattle.qml_grammar.proofs.word.Word.of_name.Goals as goal

pub returns-then-eq : goal.returns-then-eq
returns-then-eq c = sym (found_at (λ w. bytes_eq (word_text w) c.args.name.now) c.of_length-word-items.result.now c.loop-word.word-index Var c.loop-word.invariant c.loop-word-test.true (sym (ap (λ t. bytes_eq t c.args.name.now) c.as_str.ensures) ∙ (sym c.eq.ensures ∙ c.if-eq.true))) ∙ (ap (find (λ w. bytes_eq (word_text w) c.args.name.now)) c.of_length-word-items.ensures ∙ word_of_length c.args.name.now)

pub loop-word-preserved : goal.loop-word-preserved
loop-word-preserved c = none_next (λ w. bytes_eq (word_text w) c.args.name.now) c.of_length-word-items.result.now c.loop-word.word-index Var c.loop-word.invariant c.loop-word-test.true (sym (ap (λ t. bytes_eq t c.args.name.now) c.as_str.ensures) ∙ (sym c.eq.ensures ∙ c.if-eq.false))

pub returns : goal.returns
returns c = sym (ap (find (λ w. bytes_eq (word_text w) c.args.name.now)) (sym (take_all c.loop-word.word-index c.of_length-word-items.result.now (omega arith))) ∙ c.loop-word.invariant) ∙ (ap (find (λ w. bytes_eq (word_text w) c.args.name.now)) c.of_length-word-items.ensures ∙ word_of_length c.args.name.now)
