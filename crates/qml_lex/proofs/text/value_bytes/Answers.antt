use Rattle.std.proofs.Common.{◌+◌, ◌-◌, ◌≤◌, length, drop, arith}
use Rattle.std.proofs.lemmas.List.{length-take, length-drop}
use Rattle.qml_lex.proofs.Inside.{value_goes_on, value_skips, value_is_whole}
use Rattle.qml_lex.proofs.text.value_bytes.Goals as goal

pub loop-at-preserved-in-Some : goal.loop-at-preserved-in-Some
loop-at-preserved-in-Some c =
    let within : c.loop-at.at + c.spelled_len-at.result ≤ length c.args.body.now =
    omega (arith, c.in-Some.ensures.within, length-take (length c.args.body.now - c.loop-at.at) (drop c.loop-at.at c.args.body.now), length-drop c.loop-at.at c.args.body.now) in
    (within, value_goes_on _ _ _ _ _ c.in-Some.part c.loop-at-test.true c.in-Some.ensures.value c.spelled_len-at.ensures.value c.in_ok-append_to-in-Some.ensures.ok c.loop-at.invariant.1)

pub loop-at-preserved : goal.loop-at-preserved
loop-at-preserved c =
    (omega arith, value_skips _ _ _ c.loop-at-test.true c.in-None.ensures.value c.loop-at.invariant.1)

pub returns : goal.returns
returns c = value_is_whole _ _ _ c.loop-at-test.false c.loop-at.invariant.1
