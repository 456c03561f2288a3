use Rattle.std.proofs.Common.{◌+◌, ◌-◌, ◌≤◌, length, drop, arith}
use Rattle.std.proofs.lemmas.List.{length-take, length-drop}
use Rattle.qml_lex.proofs.Inside.{value_len_goes_on, value_len_skips}
use Rattle.qml_lex.proofs.text.value_len.Goals as goal

pub loop-at-preserved-in-Some : goal.loop-at-preserved-in-Some
loop-at-preserved-in-Some c =
    let within : c.loop-at.at + c.spelled_len-at.result ≤ length c.args.body.now =
    omega (arith, c.in-Some.ensures.within, length-take (length c.args.body.now - c.loop-at.at) (drop c.loop-at.at c.args.body.now), length-drop c.loop-at.at c.args.body.now) in
    (omega arith, (within, value_len_goes_on _ _ _ _ _ c.in-Some.part c.loop-at-test.true c.in-Some.ensures.value c.spelled_len-at.ensures.value c.value_len-len.ensures.value c.loop-at.invariant.1.1))

pub loop-at-preserved : goal.loop-at-preserved
loop-at-preserved c =
    (omega arith, (omega arith, value_len_skips _ _ _ c.loop-at-test.true c.in-None.ensures.value c.loop-at.invariant.1.1))
