use Rattle.std.proofs.Common.{sym, ap, ◌∙◌}
use Rattle.qml_grammar.specs.Words.{words_of_length}
use Rattle.qml_grammar.proofs.Lengths.{no_words, differs, of_two, of_three, of_four, of_five, of_six, of_seven, of_eight, of_nine, of_ten}
use Rattle.qml_grammar.proofs.word.Word.of_length.Goals as goal

pub returns-then-length-eq2 : goal.returns-then-length-eq2
returns-then-length-eq2 c = of_two ∙ sym (ap words_of_length c.if-length-eq2.true)

pub returns-then-length-eq3 : goal.returns-then-length-eq3
returns-then-length-eq3 c = of_three ∙ sym (ap words_of_length c.if-length-eq3.true)

pub returns-then-length-eq4 : goal.returns-then-length-eq4
returns-then-length-eq4 c = of_four ∙ sym (ap words_of_length c.if-length-eq4.true)

pub returns-then-length-eq5 : goal.returns-then-length-eq5
returns-then-length-eq5 c = of_five ∙ sym (ap words_of_length c.if-length-eq5.true)

pub returns-then-length-eq6 : goal.returns-then-length-eq6
returns-then-length-eq6 c = of_six ∙ sym (ap words_of_length c.if-length-eq6.true)

pub returns-then-length-eq7 : goal.returns-then-length-eq7
returns-then-length-eq7 c = of_seven ∙ sym (ap words_of_length c.if-length-eq7.true)

pub returns-then-length-eq8 : goal.returns-then-length-eq8
returns-then-length-eq8 c = of_eight ∙ sym (ap words_of_length c.if-length-eq8.true)

pub returns-then-length-eq9 : goal.returns-then-length-eq9
returns-then-length-eq9 c = of_nine ∙ sym (ap words_of_length c.if-length-eq9.true)

pub returns-then-length-eq10 : goal.returns-then-length-eq10
returns-then-length-eq10 c = of_ten ∙ sym (ap words_of_length c.if-length-eq10.true)

pub returns-else-length-eq10 : goal.returns-else-length-eq10
returns-else-length-eq10 c = no_words c.args.length (differs 2 _ c.if-length-eq2.false) (differs 3 _ c.if-length-eq3.false) (differs 4 _ c.if-length-eq4.false) (differs 5 _ c.if-length-eq5.false) (differs 6 _ c.if-length-eq6.false) (differs 7 _ c.if-length-eq7.false) (differs 8 _ c.if-length-eq8.false) (differs 9 _ c.if-length-eq9.false) (differs 10 _ c.if-length-eq10.false)
