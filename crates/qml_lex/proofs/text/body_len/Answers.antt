use Rattle.std.proofs.Common.{◌+◌, ◌-◌, ◌≤◌, length, drop, arith}
use Rattle.std.proofs.lemmas.List.{length-take, length-drop}
use Rattle.qml_lex.proofs.Inside.{body_len_stops, body_len_goes_on}
use Rattle.qml_lex.proofs.text.body_len.Goals as goal

pub loop-at-preserved : goal.loop-at-preserved
loop-at-preserved c =
    let within : c.loop-at.at + c.spelled_len-at.result ≤ length c.args.text.now =
    omega (arith, c.in-Some.ensures.within, length-take (length c.args.text.now - c.loop-at.at) (drop c.loop-at.at c.args.text.now), length-drop c.loop-at.at c.args.text.now) in
    (within, body_len_goes_on _ _ _ _ c.in-Some.part c.loop-at-test.true c.if-text-at.false c.in-Some.ensures.value c.spelled_len-at.ensures.value within c.loop-at.invariant.1)

pub returns-in_default-clause-value : goal.returns-in_default-clause-value
returns-in_default-clause-value c =
    body_len_stops _ _ _ c.loop-at-test.true c.if-text-at.false c.in_default.ensures.value c.loop-at.invariant.1
